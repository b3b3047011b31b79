-- Digits whose number no `u64` holds.
use Rattle.std.proofs.Common.{◌≡◌, ℕ, ◌<◌, ◌≤◌, ◌^◌, nat_lt, true, false, List, length, None, Err, refl, arith, rules}
use Rattle.std.specs.Char.{is_ascii_digit}
use Rattle.std.specs.List.{list_all}
use Rattle.std.specs.Str.Parse.{digits_value, ParsesUnsigned}
use Rattle.std.proofs.lemmas.Bool.Decides.{nat_tests}
use Rattle.std.proofs.lemmas.Str.Parse.{IsNumeralModel, numerals_by_value, parse_digits}
use Rattle.hub_words.specs.Values.{is_number, number_in}

decimal : IsNumeralModel (λ bytes. list_all is_ascii_digit bytes ≡ true) (digits_value 10)
decimal = numerals_by_value _ (search rules)

pub past_u64 : {E : Type 0} (bytes : List ℕ) (e : E) → ParsesUnsigned 64 10 bytes (Err e) → is_number bytes ≡ true → None ≡ number_in bytes
past_u64 bytes e parsed number =
    let digits : list_all is_ascii_digit bytes ≡ true = grind (arith, nat_tests) in
    let some : 0 < length bytes = grind (arith, nat_tests) in
    let value = digits_value 10 bytes in
    let no : ¬ ((0 < length bytes) × (digits_value 10 bytes < 2 ^ 64)) = parse_digits decimal 64 bytes (Err e) parsed digits in
    let never : digits_value 10 bytes < 2 ^ 64 → ⊥ = λ fits. no (some, fits) in
    let past : 2 ^ 64 ≤ digits_value 10 bytes = omega arith in
    let over : nat_lt (digits_value 10 bytes) (2 ^ 64) ≡ false = grind (arith, nat_tests) in
    rw (number, over) refl
