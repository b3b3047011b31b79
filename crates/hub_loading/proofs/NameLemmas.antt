-- The names of the users of a job.
use Rattle.std.proofs.Common.{◌≡◌, ◌<◌, ◌≤◌, ◌^◌, ◌+◌, ◌%◌, ◌/◌, arith, ℕ, Bool, true, List, [], ◌∷◌, ◌++◌, length, decimal, Option, Some, None, Result, Err, if◌then◌else◌, refl, ap, ◌∙◌}
use Rattle.std.specs.List.{list_all}
use Rattle.std.proofs.lemmas.Bool.{le-ltb}
use Rattle.std.proofs.lemmas.Bool.Decides.{nat_tests}
use Rattle.std.proofs.lemmas.Fmt.{length-decimal-le, decimal_by_steps}
use Rattle.std.proofs.lemmas.List.Folds.{list_all-append}
use Rattle.hub_kit.specs.Names.{IsName, is_name_byte, bad_from, bad_byte}
use Rattle.hub_kit.specs.declared.names.NameError.{NameError}
use Rattle.hub_kit.specs.declared.names.NameError.TheVariants.{TooLong}
use Rattle.load_asks.specs.Numbers.{name}
use Rattle.hub_loading.proofs.BoolLemmas.{both, both_first, both_rest}

none_bad : (at : ℕ) (bs : List ℕ) → list_all is_name_byte bs ≡ true → bad_from at bs ≡ None
none_bad at [] is = refl
none_bad at (b ∷ bs) is =
    ap (λ (t : Bool). if t then bad_from (at + 1) bs else Some at) (both_first (is_name_byte b) (list_all is_name_byte bs) is)
    ∙ none_bad (at + 1) bs (both_rest (is_name_byte b) (list_all is_name_byte bs) is)

digit_passes : (d : ℕ) → d < 10 → is_name_byte (48 + d) ≡ true
digit_passes d small = grind (arith, nat_tests)

abbrev Passes : ℕ → List ℕ → Type 0
Passes n ds = list_all is_name_byte ds ≡ true

one_passes : (n : ℕ) → n < 10 → Passes n ((48 + n) ∷ [])
one_passes n small = both (is_name_byte (48 + n)) true (digit_passes n small) refl

more_pass : (n : ℕ) (ds : List ℕ) → 10 ≤ n → Passes (n / 10) ds → Passes n (ds ++ ((48 + n % 10) ∷ []))
more_pass n ds many before =
    list_all-append is_name_byte ds ((48 + n % 10) ∷ [])
    ∙ both (list_all is_name_byte ds) (list_all is_name_byte ((48 + n % 10) ∷ [])) before
    (both (is_name_byte (48 + n % 10)) true (digit_passes (n % 10) (omega arith)) refl)

digits_pass : (n : ℕ) → n < 2 ^ 64 → Passes n (decimal n)
digits_pass n small = decimal_by_steps Passes one_passes more_pass n small

abbrev read_with : List ℕ → Bool → Option ℕ → Result (List ℕ) NameError
read_with bs long bad = if long then Err TooLong else bad_byte bs bad

pub name_is : (k : ℕ) → k < 1000000 → IsName (name k)
name_is k few =
    let short : length (decimal k) ≤ 6 = length-decimal-le 6 k (omega arith) (omega (arith, few)) (omega (arith, few)) in
    ap (λ (long : Bool). read_with (name k) long (bad_from 1 (decimal k))) (le-ltb 64 (length (name k)) (omega (arith, short)))
    ∙ ap (bad_byte (name k)) (none_bad 1 (decimal k) (digits_pass k (omega (arith, few))))
