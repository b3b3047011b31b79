-- A secret is ASCII, so it is text.
use Rattle.std.proofs.Common.{◌≡◌, ℕ, ◌<◌, true, false, nat_le, ◌&&◌, List, length, All, inl, inr, ⊎_elim, sym, ◌∙◌, arith}
use Rattle.std.specs.Prelude.{IsUtf8}
use Rattle.std.specs.List.{list_all}
use Rattle.std.proofs.lemmas.Bool.{cases_Bool, and_right}
use Rattle.std.proofs.lemmas.Bool.Decides.{nat_tests}
use Rattle.std.proofs.lemmas.List.Elements.{All-weaker}
use Rattle.std.proofs.lemmas.List.Sums.{AllPass-from_list_all}
use Rattle.std.proofs.lemmas.Str.{IsUtf8-from_ascii}
use Rattle.std.proofs.lemmas.Str.Ascii.{IsAscii-from_all}
use Rattle.addresses.specs.Addresses.{is_visible}
use Rattle.secret_files.specs.SecretFiles.{are_visible, is_secret}

secret_visible : (bs : List ℕ) → is_secret bs ≡ true → are_visible bs ≡ true
secret_visible bs is =
    ⊎_elim (λ all. all)
    (λ some. absurd (cc (is, and_right (nat_le 8 (length bs) && nat_le (length bs) 255) (are_visible bs) some)))
    (cases_Bool (are_visible bs))

pub secret_is_text : (bs : List ℕ) → is_secret bs ≡ true → IsUtf8 bs
secret_is_text bs is =
    IsUtf8-from_ascii bs
    (IsAscii-from_all bs
    (All-weaker (λ b. is_visible b ≡ true) (λ b. b < 128) (λ b good. grind (arith, nat_tests)) bs
    (AllPass-from_list_all is_visible bs (secret_visible bs is))))
