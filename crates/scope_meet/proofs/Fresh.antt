-- Fewer than 2 ^ 64 names leave a name of 64 letters.
use Rattle.std.proofs.Common.{◌≡◌, ℕ, zero, suc, ◌+◌, ◌<◌, ◌≤◌, ◌^◌, Bool, true, false, ◌&&◌, ◌||◌, cond, List, [], ◌∷◌, length, refl, sym, ap, ◌∙◌, inl, inr, arith, None, true-eqb, pow-suc}
use Rattle.std.specs.Prelude.{nat_eq, nat_lt}
use Rattle.std.specs.List.{list_any, list_all}
use Rattle.std.proofs.lemmas.Bool.Decides.{nat_tests}
use Rattle.hub_kit.specs.Names.{bad_from, is_letter_or_digit, is_name_byte, IsServerName}
use Rattle.scope_filters.specs.declared.filter.Filter.{Filter}
use Rattle.scope_filters.specs.declared.filter.Filter.TheVariants as Fi
use Rattle.scope_filters.specs.Contexts.{same}
use Rattle.scope_meet.proofs.Exact.{left, right, or_cases}

-- a filter names a server of the name s
abbrev pub names_server : List ℕ → Filter → Bool
names_server s (Fi.Server k) = same k.server s
names_server s _ = false

-- what follows the byte c, of the texts that begin with it
tails : ℕ → List (List ℕ) → List (List ℕ)
tails c [] = []
tails c ([] ∷ used) = tails c used
tails c ((b ∷ bs) ∷ used) = cond (nat_eq b c) (bs ∷ tails c used) (tails c used)

abbrev is_in : List ℕ → List (List ℕ) → Bool
is_in t used = list_any (λ u. same u t) used

both_less : (a b : Bool) (xs ys : List (List ℕ)) (bs : List ℕ) (n : ℕ) → (a ≡ true → b ≡ true → ⊥) → length xs + length ys ≤ n → length (cond a (bs ∷ xs) xs) + length (cond b (bs ∷ ys) ys) ≤ n + 1
both_less true true xs ys bs n apart h = absurd (apart refl refl)
both_less true false xs ys bs n apart h = omega arith
both_less false true xs ys bs n apart h = omega arith
both_less false false xs ys bs n apart h = omega arith

not_both : (b : ℕ) → nat_eq b 97 ≡ true → nat_eq b 98 ≡ true → ⊥
not_both b h k = let e = true-eqb b 97 (sym h) in let f = true-eqb b 98 (sym k) in omega (arith, e, f)

halves : (used : List (List ℕ)) → length (tails 97 used) + length (tails 98 used) ≤ length used
unfolding tails
halves [] = omega arith
halves ([] ∷ used) = omega (arith, halves used)
halves ((b ∷ bs) ∷ used) = let h = both_less (nat_eq b 97) (nat_eq b 98) (tails 97 used) (tails 98 used) bs (length used) (not_both b) (halves used) in omega (arith, h)

in_tail : (b c : Bool) (x rest : Bool) → ((b && x) || rest) ≡ cond b (x || rest) rest
in_tail true c x rest = refl
in_tail false c x rest = refl

cond_in : (b : Bool) (bs t : List ℕ) (us : List (List ℕ)) → cond b (same bs t || is_in t us) (is_in t us) ≡ is_in t (cond b (bs ∷ us) us)
cond_in true bs t us = refl
cond_in false bs t us = refl

in_tails : (c : ℕ) (t : List ℕ) (used : List (List ℕ)) → is_in (c ∷ t) used ≡ is_in t (tails c used)
unfolding tails
in_tails c t [] = refl
in_tails c t ([] ∷ used) = in_tails c t used
in_tails c t ((b ∷ bs) ∷ used) =
    ap (λ r. (nat_eq b c && same bs t) || r) (in_tails c t used) ∙ in_tail (nat_eq b c) true (same bs t) _ ∙ cond_in (nat_eq b c) bs t (tails c used)

abbrev is_ab : ℕ → Bool
is_ab b = nat_eq b 97 || nat_eq b 98

-- a text of k letters that isn't used
record Fresh (k : ℕ) (used : List (List ℕ)) : Type 0 where
  pub text : List ℕ
  pub long : length text ≡ k
  pub letters : list_all is_ab text ≡ true
  pub new : is_in text used ≡ false

fresh : (k : ℕ) (used : List (List ℕ)) → length used < 2 ^ k → Fresh k used
fresh zero [] h = record { text = []; long = refl; letters = refl; new = refl }
fresh zero (u ∷ used) h = absurd (omega arith)
fresh (suc k) used h =
    elim (nat_lt (length (tails 97 used)) (2 ^ k)) as (λ b. nat_lt (length (tails 97 used)) (2 ^ k) ≡ b → Fresh (suc k) used) [
      | true ↦ λ e. let r = fresh k (tails 97 used) (grind (arith, nat_tests)) in
          record { text = 97 ∷ r.text; long = ap suc r.long; letters = r.letters; new = in_tails 97 r.text used ∙ r.new }
      | false ↦ λ e. let r = fresh k (tails 98 used) (grind (arith, nat_tests, halves used, pow-suc)) in
          record { text = 98 ∷ r.text; long = ap suc r.long; letters = r.letters; new = in_tails 98 r.text used ∙ r.new }
    ] refl

-- ---- such a text is a server's name
ab_letter : (b : ℕ) → is_ab b ≡ true → is_letter_or_digit b ≡ true
ab_letter b h = elim (or_cases (nat_eq b 97) (nat_eq b 98) h) as (λ _. is_letter_or_digit b ≡ true) [
  | inl e ↦ ap is_letter_or_digit (true-eqb b 97 (sym e))
  | inr e ↦ ap is_letter_or_digit (true-eqb b 98 (sym e))
]

or_others : (a b c d e : Bool) → a ≡ true → ((((a || b) || c) || d) || e) ≡ true
or_others true b c d e h = refl
or_others false b c d e h = cc

none_bad : (at : ℕ) (bs : List ℕ) → list_all is_ab bs ≡ true → bad_from at bs ≡ None
none_bad at [] h = refl
none_bad at (b ∷ bs) h =
    let letter : is_name_byte b ≡ true = or_others (is_letter_or_digit b) _ _ _ _ (ab_letter b (left (is_ab b) _ h)) in
    rw letter (none_bad (at + 1) bs (right (is_ab b) _ h))

letters_name : (t : List ℕ) → length t ≤ 64 → list_all is_ab t ≡ true → IsServerName t
letters_name [] l h = tt
letters_name (b ∷ bs) l h =
    let e : nat_lt 64 (length (b ∷ bs)) ≡ false = grind (arith, nat_tests) in
    rw (e, ab_letter b (left (is_ab b) _ h), none_bad 1 bs (right (is_ab b) _ h)) refl

names_of : List Filter → List (List ℕ)
names_of [] = []
names_of (Fi.Server k ∷ gs) = k.server ∷ names_of gs
names_of (_ ∷ gs) = names_of gs

few_names : (gs : List Filter) → length (names_of gs) ≤ length gs
unfolding names_of
few_names [] = omega arith
few_names (Fi.Server k ∷ gs) = omega (arith, few_names gs)
few_names (_ ∷ gs) = omega (arith, few_names gs)

named : (s : List ℕ) (gs : List Filter) → list_any (names_server s) gs ≡ is_in s (names_of gs)
unfolding names_of
named s [] = refl
named s (Fi.Server k ∷ gs) = ap (λ b. same k.server s || b) (named s gs)
named s (Fi.All ∷ gs) = named s gs
named s (Fi.User u ∷ gs) = named s gs
named s (Fi.Group u ∷ gs) = named s gs
named s (Fi.Service u ∷ gs) = named s gs
named s (Fi.OwnerOf u ∷ gs) = named s gs

-- a server's name that no filter has
pub unnamed : (gs : List Filter) → length gs < 2 ^ 64 → (s : List ℕ) × IsServerName s × (list_any (names_server s) gs ≡ false)
unnamed gs h =
    let r = fresh 64 (names_of gs) (omega (arith, few_names gs)) in
    (r.text, letters_name r.text (omega (arith, r.long)) r.letters, named r.text gs ∙ r.new)
