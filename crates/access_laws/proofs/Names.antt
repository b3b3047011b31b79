-- The target of an ask for access.
use Rattle.std.proofs.Common.{◌≡◌, ℕ, ◌+◌, ◌<◌, Bool, true, ◌&&◌, ltb, List, [], ◌∷◌, ◌++◌, length, codes, Option, Some, None, Ok, Err, refl, sym, ap, ◌∙◌, arith, ⊎_elim}
use Rattle.std.specs.List.{list_all}
use Rattle.std.proofs.lemmas.Bool.{cases_Bool}
use Rattle.std.proofs.lemmas.Bool.Decides.{nat_tests}
use Rattle.std.proofs.lemmas.List.Folds.{list_all-append}
use Rattle.std.proofs.lemmas.List.Sums.{AllPass-from_list_all}
use Rattle.std.proofs.lemmas.List.Elements.{All-weaker}
use Rattle.std.proofs.lemmas.Str.{IsUtf8-from_ascii}
use Rattle.std.proofs.lemmas.Str.Ascii.{IsAscii-from_all}
use Rattle.httparse.specs.Grammar.{is_uri_byte}
use Rattle.hub_kit.specs.Names.{is_letter_or_digit, is_name_byte, bad_from, first_bad, bad_byte, IsName, IsServerName}
use Rattle.hub_kit.specs.declared.names.NameError.TheVariants.{TooLong}
use Rattle.hub_kit.specs.declared.names.ServerKey.{ServerKey}
use Rattle.hub_kit.proofs.NameTexts.{server_of_name}
use Rattle.access_laws.specs.Asks.{IsTarget, access_target}

-- ---- each byte of a name

abbrev pub EachByte : (ℕ → Bool) → Type 0
EachByte p = (b : ℕ) → is_name_byte b ≡ true → p b ≡ true

both : (x y : Bool) → x ≡ true → y ≡ true → (x && y) ≡ true
both x y one two = rw one two

letter : (b : ℕ) → is_letter_or_digit b ≡ true → is_name_byte b ≡ true
letter b h = grind (arith, nat_tests)

from_place : (p : ℕ → Bool) (each : EachByte p) (at : ℕ) (bs : List ℕ) → bad_from at bs ≡ None → list_all p bs ≡ true
from_place p each at [] h = refl
from_place p each at (b ∷ bs) h =
    ⊎_elim
    (λ good. both (p b) (list_all p bs) (each b good) (from_place p each (at + 1) bs (rw good at h)))
    (λ bad. let here : Some at ≡ None = rw bad at h in cc)
    (cases_Bool (is_name_byte b))

from_first : (p : ℕ → Bool) (each : EachByte p) (bs : List ℕ) → first_bad bs ≡ None → list_all p bs ≡ true
from_first p each [] h = refl
from_first p each (b ∷ bs) h =
    ⊎_elim
    (λ good. both (p b) (list_all p bs) (each b (letter b good)) (from_place p each 1 bs (rw good at h)))
    (λ bad. let here : Some 0 ≡ None = rw bad at h in cc)
    (cases_Bool (is_letter_or_digit b))

from_read : (p : ℕ → Bool) (each : EachByte p) (bs : List ℕ) (o : Option ℕ) → o ≡ first_bad bs → bad_byte bs o ≡ Ok bs → list_all p bs ≡ true
from_read p each bs None same h = from_first p each bs (sym same)
from_read p each bs (Some at) same h = cc

pub name_passes : (p : ℕ → Bool) (each : EachByte p) (bs : List ℕ) → IsServerName bs → list_all p bs ≡ true
name_passes p each [] h = refl
name_passes p each (b ∷ bs) h =
    ⊎_elim
    (λ long. let here : Err TooLong ≡ Ok (b ∷ bs) = rw long at h in cc)
    (λ short. from_read p each (b ∷ bs) (first_bad (b ∷ bs)) refl (rw short at h))
    (cases_Bool (ltb 64 (length (b ∷ bs))))

-- of a key's text
pub key_passes : (p : ℕ → Bool) (each : EachByte p) (key : ServerKey) → p 47 ≡ true → IsName key.user → IsServerName key.server
    → list_all p (key.user ++ codes "/" ++ key.server) ≡ true
key_passes p each key slash user server =
    list_all-append p (key.user ++ codes "/") key.server
    ∙ rw (list_all-append p key.user (codes "/"), name_passes p each key.user (server_of_name key.user user), slash, name_passes p each key.server server) refl

-- ---- the target

visible : EachByte is_uri_byte
visible b h = grind (arith, nat_tests)

abbrev is_ascii : ℕ → Bool
is_ascii b = ltb b 128

ascii : EachByte is_ascii
ascii b h = grind (arith, nat_tests)

-- behind the literal
arranged : (key : ServerKey) → access_target key ≡ codes "/hub/api/user?for=" ++ (key.user ++ codes "/" ++ key.server)
arranged key = ap (λ (t : List ℕ). codes "/hub/api/user?for=" ++ t) refl

pub target_is : (key : ServerKey) → IsName key.user → IsServerName key.server → IsTarget (access_target key)
target_is key user server = record {
  path = refl;
  bytes = key_passes is_uri_byte visible key refl user server;
  text = IsUtf8-from_ascii (access_target key)
      (IsAscii-from_all (access_target key)
      (All-weaker (λ b. is_ascii b ≡ true) (λ b. b < 128) (λ b good. grind (arith, nat_tests)) (access_target key)
      (AllPass-from_list_all is_ascii (access_target key) (key_passes is_ascii ascii key refl user server))));
}
