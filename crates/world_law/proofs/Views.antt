-- What is looked up in a world, and how its changes show there.
use Rattle.std.proofs.Common.{ℕ, suc, zero, ◌≡◌, ◌≢◌, ◌<◌, inl, inr, Bool, true, false, not, cond, List, [], ◌∷◌, length, Option, Some, None, refl, ap, sym, ◌∙◌, subst, arith}
use Rattle.std.specs.Prelude.{Contains}
use Rattle.std.specs.List.{find}
use Rattle.std.specs.Option.{unwrap_or}
use Rattle.std.specs.FinMap.{get, insert, remove}
use Rattle.hub_kit.specs.declared.names.ServerKey.{ServerKey}
use Rattle.scope_filters.specs.Contexts.{same}
use Rattle.scope_filters.specs.Admits.{same_server}
use Rattle.server_life.specs.declared.life.Life.{Life}
use Rattle.hub_lives.specs.declared.lives.Leased.{Leased}
use Rattle.hub_lives.specs.Lives.{Lives, at_rest, lease_of, is_leased, free_target}
use Rattle.hub_lives.proofs.Found.{find_one, in_any, get_same, get_other, get_gone, get_left}
use Rattle.hub_lives.proofs.Holders.{is_same, is_same_server, same_server_is}
use Rattle.world_law.specs.World.{World}
use Rattle.world_law.proofs.Tables.{some_same, none_some, routes_in}
use Rattle.world_law.proofs.Facts.{Lease, Seen}
use Rattle.world_law.proofs.Changes.{at, at_cases}

abbrev pub as_lease : Leased → Lease
as_lease l = record { server = l.server; target = l.target }

abbrev pub lease_in : Option Leased → Option Lease
lease_in None = None
lease_in (Some l) = Some (as_lease l)

abbrev pub life_in : Option Leased → Life
life_in None = at_rest
life_in (Some l) = l.life

abbrev pub held_of : Lives → ℕ → Option Lease
held_of lives g = lease_in (get lives g)

abbrev pub life_of : Lives → ℕ → Life
life_of lives g = life_in (get lives g)

abbrev pub looked : World → Seen
looked w = record {
  pool = w.live.pool;
  next = w.live.next;
  held = held_of w.live.lives;
  life = life_of w.live.lives;
  table = routes_in w.table.rows;
  programs = w.programs;
  sent = w.sent;
  told = w.told;
  ready = w.were_ready;
  listed = w.were_listed;
  over = w.were_over;
}

pub holder : (lives : Lives) (g : ℕ) (a : Lease) → held_of lives g ≡ Some a → (l : Leased) × (get lives g ≡ Some l) × (as_lease l ≡ a)
holder lives g a h = by (get lives g) refl h
  where
    by : (o : Option Leased) → get lives g ≡ o → lease_in o ≡ Some a → (l : Leased) × (get lives g ≡ Some l) × (as_lease l ≡ a)
    by None e k = none_some a k
    by (Some l) e k = (l, e, some_same (as_lease l) a k)

inserted : {A : Type 0} (F : Option Leased → A) (lives : Lives) (g : ℕ) (v : Leased) (h : ℕ) → F (get (insert lives g v) h) ≡ at (λ k. F (get lives k)) g (F (Some v)) h
inserted F lives g v h = elim (at_cases (λ k. F (get lives k)) g (F (Some v)) h) [
  | inl x ↦ ap (λ k. F (get (insert lives g v) k)) (sym x.0) ∙ (ap F (get_same lives g v) ∙ sym x.1)
  | inr x ↦ ap F (get_other lives g v h (λ e. x.0 (sym e))) ∙ sym x.1
]

removed : {A : Type 0} (F : Option Leased → A) (lives : Lives) (g : ℕ) (h : ℕ) → F (get (remove lives g) h) ≡ at (λ k. F (get lives k)) g (F None) h
removed F lives g h = elim (at_cases (λ k. F (get lives k)) g (F None) h) [
  | inl x ↦ ap (λ k. F (get (remove lives g) k)) (sym x.0) ∙ (ap F (get_gone lives g) ∙ sym x.1)
  | inr x ↦ ap F (get_left lives g h (λ e. x.0 (sym e))) ∙ sym x.1
]

pub held_inserted : (lives : Lives) (g : ℕ) (v : Leased) → held_of (insert lives g v) ≡ at (held_of lives) g (Some (as_lease v))
held_inserted lives g v = λ j h. inserted lease_in lives g v h j

pub life_inserted : (lives : Lives) (g : ℕ) (v : Leased) → life_of (insert lives g v) ≡ at (life_of lives) g v.life
life_inserted lives g v = λ j h. inserted life_in lives g v h j

pub held_removed : (lives : Lives) (g : ℕ) → held_of (remove lives g) ≡ at (held_of lives) g None
held_removed lives g = λ j h. removed lease_in lives g h j

pub life_removed : (lives : Lives) (g : ℕ) → life_of (remove lives g) ≡ at (life_of lives) g at_rest
life_removed lives g = λ j h. removed life_in lives g h j

-- a life in another phase is of the same lease
same_at : (held : ℕ → Option Lease) (g : ℕ) (a : Lease) → held g ≡ Some a → (h : ℕ) → at held g (Some a) h ≡ held h
same_at held g a e h = elim (at_cases held g (Some a) h) [ inl x ↦ x.1 ∙ (sym e ∙ ap held x.0) | inr x ↦ x.1 ]

pub held_kept : (lives : Lives) (g : ℕ) (l : Leased) (life : Life) → get lives g ≡ Some l → held_of (insert lives g (record l { life = life })) ≡ held_of lives
held_kept lives g l life e = held_inserted lives g (record l { life = life }) ∙ (λ j h. same_at (held_of lives) g (as_lease l) (ap lease_in e) h j)

-- ---- which targets and servers are free

found_first : (p : List ℕ → Bool) (y : List ℕ) (ys : List (List ℕ)) (x : List ℕ) (b : Bool) → p y ≡ b → (find p ys ≡ Some x → Contains ys x × (p x ≡ true)) → cond b (Some y) (find p ys) ≡ Some x → Contains (y ∷ ys) x × (p x ≡ true)
found_first p y ys x true e later k = let q : y ≡ x = some_same y x k in ((zero, omega arith, q), ap p (sym q) ∙ e)
found_first p y ys x false e later k = let r = later k in let lt : r.0.0 < length ys = r.0.1 in ((suc r.0.0, omega arith, r.0.2), r.1)

found_in : (p : List ℕ → Bool) (xs : List (List ℕ)) (x : List ℕ) → find p xs ≡ Some x → Contains xs x × (p x ≡ true)
found_in p [] x h = none_some x h
found_in p (y ∷ ys) x h = found_first p y ys x (p y) refl (found_in p ys x) h

pub not_true : (b : Bool) → not b ≡ true → b ≡ true → ⊥
not_true true h e = cc
not_true false h e = cc

abbrev pub the_target : (pool : List (List ℕ)) → Lives → List ℕ
the_target pool lives = unwrap_or (free_target pool lives) []

pub target_is_free : (pool : List (List ℕ)) (lives : Lives) → free_target pool lives ≢ None → Contains pool (the_target pool lives) × ((g : ℕ) (l : Leased) → get lives g ≡ Some l → l.target ≢ the_target pool lives)
target_is_free pool lives n = by (free_target pool lives) refl
  where
    by : (o : Option (List ℕ)) → free_target pool lives ≡ o → Contains pool (the_target pool lives) × ((g : ℕ) (l : Leased) → get lives g ≡ Some l → l.target ≢ the_target pool lives)
    by None e = absurd (n e)
    by (Some t) e =
        let r = found_in (λ target. not (is_leased lives target)) pool t e in
        let q : the_target pool lives ≡ t = ap (λ o. unwrap_or o []) e in (
          subst (λ x. Contains pool x) (sym q) r.0,
          λ g l is same_target. not_true (is_leased lives t) r.1 (in_any (λ (l : Leased). same l.target t) lives g l is (is_same l.target t (same_target ∙ q))),
        )

pub server_is_free : (lives : Lives) (server : ServerKey) → ((g h : ℕ) (a b : Leased) → get lives g ≡ Some a → get lives h ≡ Some b → a.server ≡ b.server → g ≡ h)
    → lease_of lives server ≡ None → (g : ℕ) (l : Leased) → get lives g ≡ Some l → l.server ≢ server
server_is_free lives server one h g l is e =
    none_some (g, l) (sym h ∙ find_one (λ (x : ℕ × Leased). same_server x.1.server server) lives g l is (is_same_server l.server server e)
    (λ k m there t. one k g m l there is (same_server_is m.server server t ∙ sym e)))
