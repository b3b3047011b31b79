-- How a device's calls follow one another.
use Rattle.std.proofs.Common.{◌≡◌, ℕ, Bool, true, false, ◌≤◌, ◌-◌, ◌^◌, ⊎_elim, List, [], ◌∷◌, ◌++◌, Option, None, Result, Ok, Err, sym, ap, ◌∙◌, subst, append_assoc, arith}
use Rattle.std.specs.List.{flat_map}
use Rattle.std.specs.Result.{IfOk, OnErr}
use Rattle.std.proofs.lemmas.List.{append-nil, flat_map_more}
use Rattle.std.proofs.lemmas.Bool.{cases_lt}
use Rattle.hub_devices.specs.Calls.{Grows}
use Rattle.hub_devices.specs.FailingCalls.{Script, after_call, one_more}
use Rattle.hub_devices.specs.Faults.{Rises}

module _ {A : Type 0} where
  -- no call was made
  pub Grows_none : (calls : Option (List A)) → Grows calls [] calls
  Grows_none calls = record { adds = λ all told. (all, told, sym (append-nil all)) }

  -- some calls and then others
  pub Grows_then : (a b c : Option (List A)) (x y : List A) → Grows a x b → Grows b y c → Grows a (x ++ y) c
  Grows_then a b c x y one two = record {
    adds = λ all told.
        let second = two.adds all told in
        let first = one.adds second.0 second.1 in
        (first.0, first.1, second.2 ∙ (ap (λ calls. calls ++ y) first.2 ∙ append_assoc first.0 x y));
  }

  -- of a device that tells none any more
  pub Grows_lost : (a c : Option (List A)) (x : List A) → c ≡ None → Grows a x c
  Grows_lost a c x none = record { adds = λ all told. absurd (cc (none, told)) }

-- a call that was kept, or that found no memory to be kept
pub Grows_call : {C E A : Type 0} (told : C → A) (call : Result C E) (is : C) (before after : Option (List A))
    → IfOk call (λ c. c ≡ is) → IfOk call (λ c. Grows before (told c ∷ []) after) → OnErr call (after ≡ None) → Grows before (told is ∷ []) after
Grows_call told (Ok c) is before after same grows lost = subst (λ c. Grows before (told c ∷ []) after) same grows
Grows_call told (Err e) is before after same grows lost = Grows_lost before after (told is ∷ []) lost

-- what one outcome more did
pub Grows_one : {X A : Type 0} (f : X → List A) (xs : List X) (x : X) (a b c : Option (List A))
    → Grows a (flat_map f (xs ++ [])) b → Grows b (f x) c → Grows a (flat_map f (xs ++ x ∷ [])) c
Grows_one {X} {A} f xs x a b c one two =
    subst (λ (calls : List A). Grows a calls c) (ap (λ ys. flat_map f ys ++ f x) (append-nil xs) ∙ flat_map_more f [] xs x)
    (Grows_then a b c (flat_map f (xs ++ [])) (f x) one two)

-- a fault after the first failure, or before it
pub Rises_later : (a b c : ℕ) → Rises a b → b ≤ c → Rises a c
Rises_later a b c r le = λ below. omega (arith, r below, le)

pub Rises_earlier : (a b c : ℕ) → a ≤ b → Rises b c → b ≤ c → Rises a c
Rises_earlier a b c le r later = λ below.
    ⊎_elim (λ lt. omega (arith, le, r lt)) (λ ge. omega (arith, le, later, below, ge)) (cases_lt b (2 ^ 64 - 1))

-- a call that wasn't to fail, and failed
pub failed_after : (before between after : Script) (fails : Bool) → after ≡ record between { faults = one_more between.faults } → between ≡ after_call before fails → fails ≡ false → after ≡ after_call before true
failed_after before between after fails failed called was = failed ∙ ap (λ (s : Script). record s { faults = one_more s.faults }) (called ∙ ap (after_call before) was)
