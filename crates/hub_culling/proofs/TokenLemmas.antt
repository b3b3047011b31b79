-- A token is text.
use Rattle.std.proofs.Common.{◌≡◌, ℕ, ◌<◌, ◌&&◌, Bool, true, false, nat_le, List, [], ◌∷◌, length, All, arith, ⊎_elim}
use Rattle.std.specs.Prelude.{IsUtf8}
use Rattle.std.proofs.lemmas.Bool.{cases_Bool}
use Rattle.std.proofs.lemmas.Bool.Decides.{nat_tests}
use Rattle.std.proofs.lemmas.List.Elements.{All-nil, All-cons}
use Rattle.std.proofs.lemmas.Str.{IsUtf8-from_ascii}
use Rattle.std.proofs.lemmas.Str.Ascii.{IsAscii-from_all}
use Rattle.addresses.specs.Addresses.{is_visible}
use Rattle.hub_words.specs.Values.{are_visible, is_secret}

abbrev IsSmall : ℕ → Type 0
IsSmall b = b < 128

small : (b : ℕ) → is_visible b ≡ true → IsSmall b
small b h = grind (arith, nat_tests)

all_small : (bs : List ℕ) → are_visible bs ≡ true → All IsSmall bs
all_small [] h = All-nil IsSmall
all_small (b ∷ bs) h =
    ⊎_elim
    (λ good. All-cons IsSmall b bs (small b good) (all_small bs (rw good at h)))
    (λ bad. let here : false ≡ true = rw bad at h in cc)
    (cases_Bool (is_visible b))

third : (a b c : Bool) → (a && b && c) ≡ true → c ≡ true
third true true c h = h
third true false c h = absurd (cc h)
third false b c h = absurd (cc h)

pub is_text : (bs : List ℕ) → is_secret bs ≡ true → IsUtf8 bs
is_text bs h =
    IsUtf8-from_ascii bs (IsAscii-from_all bs (all_small bs (third (nat_le 8 (length bs)) (nat_le (length bs) 255) (are_visible bs) h)))
