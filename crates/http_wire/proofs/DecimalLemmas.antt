-- Digits that are read one by one give the number of all.
use Rattle.std.proofs.Common.{◌≡◌, ℕ, ◌+◌, ◌-◌, ◌*◌, ◌^◌, ◌<◌, ◌≤◌, Bool, true, false, ◌&&◌, if◌then◌else◌, nat_lt, List, [], ◌∷◌, length, drop, Option, Some, None, option_and_then, refl, sym, ap, ◌∙◌, arith, inl, inr}
use Rattle.std.proofs.lemmas.List.{drop_all}
use Rattle.std.specs.Char.{is_ascii_digit, digit_value}
use Rattle.std.specs.List.{list_all}
use Rattle.std.specs.Str.Parse.{digits_value_after}
use Rattle.std.proofs.lemmas.Bool.{cases_Bool, le-ltb, lt-ltb, ltb-true, ltb-false}
use Rattle.std.proofs.lemmas.Bool.Decides.{nat_tests}
use Rattle.http_wire.specs.declared.decimal.Decimal.{Decimal}
use Rattle.http_wire.specs.declared.decimal.Decimal.TheVariants.{Number, Past, Other}
use Rattle.http_wire.specs.Decimal.{number_in}

-- the number with one more digit, unless it is past a `u64`
abbrev pub push_digit : Option ℕ → ℕ → Option ℕ
push_digit number digit = option_and_then (λ n. if nat_lt (n * 10 + digit) (2 ^ 64) then Some (n * 10 + digit) else None) number

abbrev pub settled : Option ℕ → Decimal
settled None = Past
settled (Some n) = Number n

-- what the rest of the digits makes of the number so far
abbrev pub read_on : Option ℕ → List ℕ → Decimal
read_on number [] = settled number
read_on number (b ∷ bytes) = if is_ascii_digit b then read_on (push_digit number (b - 48)) bytes else Other

abbrev sized : ℕ → Decimal
sized n = if nat_lt n (2 ^ 64) then Number n else Past

digit_is : (b : ℕ) → is_ascii_digit b ≡ true → digit_value b ≡ b - 48
digit_is b digit = grind (arith, nat_tests)

grows : (n : ℕ) (bytes : List ℕ) → n ≤ digits_value_after 10 n bytes
grows n [] = omega arith
grows n (b ∷ bytes) = omega (arith, grows (n * 10 + digit_value b) bytes)

read_past : (bytes : List ℕ) → read_on None bytes ≡ (if list_all is_ascii_digit bytes then Past else Other)
read_past [] = refl
read_past (b ∷ bytes) =
    elim (is_ascii_digit b) as (λ t. (if t then read_on None bytes else Other) ≡ (if t && list_all is_ascii_digit bytes then Past else Other)) [
      | true ↦ read_past bytes
      | false ↦ refl
    ]

sized_past : (n : ℕ) → 2 ^ 64 ≤ n → sized n ≡ Past
sized_past n past = let no : nat_lt n (2 ^ 64) ≡ false = le-ltb n (2 ^ 64) past in ap (λ (t : Bool). if t then Number n else Past) no

sized_fits : (n : ℕ) → n < 2 ^ 64 → sized n ≡ Number n
sized_fits n fits = let is : nat_lt n (2 ^ 64) ≡ true = lt-ltb n (2 ^ 64) fits in ap (λ (t : Bool). if t then Number n else Past) is

abbrev all_of : ℕ → List ℕ → Decimal
all_of n bytes = if list_all is_ascii_digit bytes then sized (digits_value_after 10 n bytes) else Other

pushed : (m : ℕ) (bytes : List ℕ) → (m < 2 ^ 64 → read_on (Some m) bytes ≡ all_of m bytes)
    → read_on (if nat_lt m (2 ^ 64) then Some m else None) bytes ≡ all_of m bytes
pushed m bytes more =
    elim (cases_Bool (nat_lt m (2 ^ 64))) [
      | inl fits ↦
          ap (λ (t : Bool). read_on (if t then Some m else None) bytes) fits ∙ more (ltb-true m (2 ^ 64) fits)
      | inr past ↦
          ap (λ (t : Bool). read_on (if t then Some m else None) bytes) past
          ∙ (read_past bytes
          ∙ ap (λ (d : Decimal). if list_all is_ascii_digit bytes then d else Other)
          (sym (sized_past (digits_value_after 10 m bytes) (omega (arith, grows m bytes, ltb-false m (2 ^ 64) past)))))
    ]

read_some : (n : ℕ) (bytes : List ℕ) → n < 2 ^ 64 → read_on (Some n) bytes ≡ all_of n bytes
read_some n [] fits = sym (sized_fits n fits)
read_some n (b ∷ bytes) fits =
    elim (cases_Bool (is_ascii_digit b)) [
      | inl digit ↦
          ap (λ (t : Bool). if t then read_on (push_digit (Some n) (b - 48)) bytes else Other) digit
          ∙ (pushed (n * 10 + (b - 48)) bytes (read_some (n * 10 + (b - 48)) bytes)
          ∙ (ap (λ (d : ℕ). all_of (n * 10 + d) bytes) (sym (digit_is b digit))
          ∙ ap (λ (t : Bool). if t && list_all is_ascii_digit bytes then sized (digits_value_after 10 (n * 10 + digit_value b) bytes) else Other) (sym digit)))
      | inr other ↦
          ap (λ (t : Bool). if t then read_on (push_digit (Some n) (b - 48)) bytes else Other) other
          ∙ ap (λ (t : Bool). if t && list_all is_ascii_digit bytes then sized (digits_value_after 10 (n * 10 + digit_value b) bytes) else Other) (sym other)
    ]

-- all the bytes, of which there is one at least
pub read_all : (bytes : List ℕ) → 0 < length bytes → read_on (Some 0) bytes ≡ number_in bytes
read_all [] some = absurd (omega (arith, some))
read_all (b ∷ bytes) some =
    read_some 0 (b ∷ bytes) (omega arith)
    ∙ ap (λ (t : Bool). if t && list_all is_ascii_digit (b ∷ bytes) then sized (digits_value_after 10 0 (b ∷ bytes)) else Other)
    (sym (lt-ltb 0 (length (b ∷ bytes)) some))

-- where no digit is left
pub read_ended : (number : Option ℕ) (bytes : List ℕ) (i : ℕ) → length bytes ≤ i → 0 < length bytes
    → read_on number (drop i bytes) ≡ read_on (Some 0) bytes → settled number ≡ number_in bytes
read_ended number bytes i ended some same =
    sym (ap (read_on number) (drop_all i bytes ended)) ∙ (same ∙ read_all bytes some)
