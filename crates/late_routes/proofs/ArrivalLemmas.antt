-- Messages that arrive one after the other.
use Rattle.std.proofs.Common.{ℕ, zero, suc, ◌≡◌, ◌<◌, Bool, true, false, List, [], ◌∷◌, length, Option, Some, None, refl, ap, sym, ◌∙◌, subst, arith, filter}
use Rattle.std.specs.Prelude.{slice_get, Result, Ok, Err, IfOk, OnErr, IsErr, IsSome}
use Rattle.hub_devices.specs.declared.calls.Routing.{Routing}
use Rattle.late_routes.specs.declared.plan.LatePlan.{LatePlan}
use Rattle.late_routes.specs.Plans.{plan_at, is_due}
use Rattle.std.specs.List.{remove}
use Rattle.route_table.specs.declared.route.Route.{Route}
use Rattle.route_table.specs.Table.{Table, is_idle_since}
use Rattle.world_law.specs.Answers.{Reply}
use Rattle.late_routes.specs.declared.plan.Outstanding.{Outstanding}
use Rattle.late_routes.specs.Arrivals.{Arrives, Arrived, one_more, IsFirst, NoneDue, Goes, Sends, any}

some_same : {A : Type 0} (x y : A) → Some x ≡ Some y → x ≡ y
some_same x y h = cc

-- the message that was first arrived too
pub arrived_more : (due : Outstanding → Bool) (now : ℕ) (t t' u : Table) (ms rest after : List Outstanding) (at : ℕ) (m n : Outstanding) (reply : Reply)
    → Arrived due now t ms t' rest → IsFirst due rest at m → slice_get rest at ≡ Some n → Arrives t' n.call now reply u → after ≡ remove rest at → Arrived due now t ms u after
arrived_more due now t t' u ms rest after at m n reply a f there arrives is =
    subst (λ (xs : List Outstanding). Arrived due now t ms u xs) (sym is)
    (one_more at m reply a f (subst (λ (x : Outstanding). Arrives t' x.call now reply u) (some_same n m (sym there ∙ f.there)) arrives))

-- of all messages the first stands in front
pub front : (rest : List Outstanding) (m : Outstanding) → slice_get rest 0 ≡ Some m → IsFirst any rest 0 m
front rest m h = record { there = h; is_due = refl; before = λ k other lt e. absurd (omega (arith, lt)) }

none_some : {A : Type 0} (x : A) → None ≡ Some x → ⊥
none_some x h = cc

pub within : (ms : List Outstanding) (at : ℕ) (m : Outstanding) → slice_get ms at ≡ Some m → at < length ms
within [] at m h = absurd (none_some m h)
within (x ∷ ms) zero m h = omega arith
within (x ∷ ms) (suc at) m h = let l : at < length ms = within ms at m h in omega arith

pub all_listed : (rs : List Route) → filter (is_idle_since None) rs ≡ rs
all_listed [] = refl
all_listed (r ∷ rs) = ap (λ xs. r ∷ xs) (all_listed rs)

-- once all that were due arrived, a call that goes by its plan was sent so
pub sends_so : {E : Type 0} (plans : List LatePlan) (number : ℕ) (c : Routing) (t : Table) (ms : List Outstanding) (mid : Table) (left : List Outstanding) (t' : Table) (ms' : List Outstanding) (r : Result Bool E)
    → Arrived (is_due number) 0 t ms mid left → NoneDue (is_due number) left → IfOk r (λ done. Goes (plan_at plans number) number c mid left t' ms' done)
    → IfOk r (λ done. Sends plans number c t ms t' ms' done)
sends_so plans number c t ms mid left t' ms' (Ok done) a n g = record { table = mid; left = left; before = a; all = n; goes = g }
sends_so plans number c t ms mid left t' ms' (Err e) a n g = tt

no : false ≡ true → ⊥
no h = cc

-- a call that was sent, and told as it went while calls are told
pub sent_so : {E F X : Type 0} (P : Routing → Bool → Type 0) (call : Result Routing E) (is : Routing) (done : Result Bool F) (told : Bool) (calls : Option X)
    → IfOk call (λ c. c ≡ is) → IfOk done (λ d. IfOk call (λ c. P c d)) → OnErr call (IsErr done) → OnErr done (calls ≡ None) → IfOk done (λ went. IsSome calls → told ≡ went) → IsSome calls → P is told
sent_so P (Ok c) is (Ok d) told calls same sent none wanting went some = subst (λ (x : Routing). P x told) same (subst (λ (b : Bool). P c b) (sym (went some)) sent)
sent_so P (Err e) is (Ok d) told calls same sent none wanting went some = absurd (no none)
sent_so P call is (Err e) told None same sent none wanting went some = absurd (no some)
sent_so P call is (Err e) told (Some x) same sent none wanting went some = absurd (none_some x (sym wanting))
