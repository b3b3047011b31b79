-- The tokens of a job are words of hex digits.
use Rattle.std.proofs.Common.{◌≡◌, ◌<◌, ◌≤◌, ◌/◌, ◌%◌, ◌+◌, arith, nat_lt, ℕ, zero, suc, Bool, true, not, List, [], ◌∷◌, length, slice_index, refl}
use Rattle.std.specs.Int.{byte_at, bytes_high_first}
use Rattle.std.specs.List.{list_all}
use Rattle.std.proofs.lemmas.Bool.Decides.{nat_tests}
use Rattle.std.proofs.lemmas.List.Elements.{All-weaker}
use Rattle.std.proofs.lemmas.List.Sums.{AllPass-from_list_all}
use Rattle.std.proofs.lemmas.Str.{IsUtf8-from_ascii, is_utf8-from_IsUtf8}
use Rattle.std.proofs.lemmas.Str.Ascii.{IsAscii-from_all}
use Rattle.hex.specs.Hex.{encode_with, lower_digits}
use Rattle.httparse.specs.Grammar.{is_value_byte}
use Rattle.http_wire.specs.Words.{is_blank}
use Rattle.access_laws.specs.Asks.{IsWord}
use Rattle.load_asks.specs.Numbers.{token}
use Rattle.hub_loading.proofs.BoolLemmas.{both, both_first, both_rest}

-- a test that all digits pass
abbrev IsOfDigits : (ℕ → Bool) → Type 0
IsOfDigits p = (i : ℕ) → i < 16 → p (slice_index lower_digits i) ≡ true

each_of : (p : ℕ → Bool) (ds : List ℕ) → list_all p ds ≡ true → (i : ℕ) → i < length ds → p (slice_index ds i) ≡ true
each_of p [] all i h = absurd (omega (arith, h))
each_of p (d ∷ ds) all zero h = both_first (p d) (list_all p ds) all
each_of p (d ∷ ds) all (suc i) h = each_of p ds (both_rest (p d) (list_all p ds) all) i (omega (arith, h))

byte_small : (k n : ℕ) → byte_at k n < 256
byte_small zero n = omega arith
byte_small (suc k) n = omega arith

-- bytes as digits
digits_pass : (p : ℕ → Bool) → IsOfDigits p → (k n : ℕ) → list_all p (encode_with lower_digits (bytes_high_first k n)) ≡ true
unfolding encode_with
digits_pass p each zero n = refl
digits_pass p each (suc k) n =
    both (p (slice_index lower_digits (byte_at k n / 16))) _ (each (byte_at k n / 16) (omega (arith, byte_small k n)))
    (both (p (slice_index lower_digits (byte_at k n % 16))) (list_all p (encode_with lower_digits (bytes_high_first k n))) (each (byte_at k n % 16) (omega arith))
    (digits_pass p each k n))

digits_long : (k n : ℕ) → length (encode_with lower_digits (bytes_high_first k n)) ≡ k + k
unfolding encode_with
digits_long zero n = refl
digits_long (suc k) n = omega (arith, digits_long k n)

abbrev whole : ℕ → Bool
whole b = not (is_blank b)

abbrev is_ascii : ℕ → Bool
is_ascii b = nat_lt b 128

pub token_long : (k : ℕ) → length (token k) ≤ 1000
token_long k = let long : length (token k) ≡ 32 = digits_long 16 (k + 1) in omega arith

some_digits : (k : ℕ) → 0 < length (token k)
some_digits k = let long : length (token k) ≡ 32 = digits_long 16 (k + 1) in omega arith

pub token_is : (k : ℕ) → IsWord (token k)
token_is k = record {
  some = some_digits k;
  value = digits_pass is_value_byte (each_of is_value_byte lower_digits refl) 16 (k + 1);
  unbroken = digits_pass whole (each_of whole lower_digits refl) 16 (k + 1);
  text = is_utf8-from_IsUtf8 (token k)
      (IsUtf8-from_ascii (token k)
      (IsAscii-from_all (token k)
      (All-weaker (λ b. is_ascii b ≡ true) (λ b. b < 128) (λ b good. grind (arith, nat_tests)) (token k)
      (AllPass-from_list_all is_ascii (token k) (digits_pass is_ascii (each_of is_ascii lower_digits refl) 16 (k + 1))))));
}
