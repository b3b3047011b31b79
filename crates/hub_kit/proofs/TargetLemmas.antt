-- What a text is as a target, from what it is as a URL.
use Rattle.std.proofs.Common.{◌≡◌, ℕ, List, true, Some, None, Ok, ap, ◌∙◌, ⊎_elim}
use Rattle.std.specs.Prelude.{IsUtf8}
use Rattle.std.specs.Str.{is_utf8}
use Rattle.std.proofs.lemmas.Bool.{cond-true, cond-false, cases_Bool}
use Rattle.std.proofs.lemmas.Str.{IsUtf8-from_is_utf8, is_utf8-from_IsUtf8}
use Rattle.url.specs.Parser.{parse_url}
use Rattle.url.specs.Parts.{Parts}
use Rattle.hub_kit.specs.Targets.{is_a_target, target_text, if_target, target_of}

pub no_text : (bytes : List ℕ) → ¬ (IsUtf8 bytes) → target_of bytes ≡ None
no_text bytes none =
    cond-false _ _ _ (⊎_elim (λ some. absurd (none (IsUtf8-from_is_utf8 bytes some))) (λ test. test) (cases_Bool (is_utf8 bytes)))

pub target_of_parsed : (bytes : List ℕ) (url : Parts) → IsUtf8 bytes → parse_url None bytes ≡ Ok url → is_a_target url ≡ true → target_of bytes ≡ Some (target_text url)
target_of_parsed bytes url text parsed fits =
    cond-true _ _ _ (is_utf8-from_IsUtf8 bytes text) ∙ ap if_target parsed ∙ cond-true _ _ _ fits
