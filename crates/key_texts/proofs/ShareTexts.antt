-- The text of a share is cut at its comma: names have none.
use Rattle.std.proofs.Common.{◌≡◌, ℕ, ◌+◌, true, not, ltb, ◌==◌, List, [], ◌∷◌, ◌++◌, length, Option, Some, None, Ok, Err, refl, sym, ap, ◌∙◌, arith, ⊎_elim, append_assoc}
use Rattle.std.specs.Prelude.{codes}
use Rattle.std.proofs.lemmas.Bool.{cases_Bool}
use Rattle.std.proofs.lemmas.Bool.Decides.{nat_tests}
use Rattle.std.proofs.lemmas.List.Folds.{list_all-append}
use Rattle.hub_kit.specs.Names.{is_letter_or_digit, is_name_byte, bad_from, first_bad, bad_byte, IsServerName}
use Rattle.hub_kit.specs.declared.names.NameError.TheVariants.{TooLong}
use Rattle.hub_kit.specs.declared.names.ServerKey.{ServerKey}
use Rattle.hub_kit.proofs.NameTexts.{server_of_name}
use Rattle.hub_rows.specs.declared.keys.ShareKey.{ShareKey}
use Rattle.scope_filters.specs.Scopes.{before, after}
use Rattle.scope_filters.proofs.Cuts.{is_without, before_marked, after_marked}
use Rattle.key_texts.specs.KeyTexts.{server_text, recipient_text, share_text, IsServer, IsShareKey}

byte_unmarked : (b : ℕ) → is_name_byte b ≡ true → not (b == 44) ≡ true
byte_unmarked b h = grind (arith, nat_tests)

letter_unmarked : (b : ℕ) → is_letter_or_digit b ≡ true → not (b == 44) ≡ true
letter_unmarked b h = grind (arith, nat_tests)

from_place : (at : ℕ) (bs : List ℕ) → bad_from at bs ≡ None → is_without 44 bs ≡ true
from_place at [] h = refl
from_place at (b ∷ bs) h =
    ⊎_elim
    (λ good. rw (byte_unmarked b good) (from_place (at + 1) bs (rw good at h)))
    (λ bad. let here : Some at ≡ None = rw bad at h in cc)
    (cases_Bool (is_name_byte b))

from_first : (bs : List ℕ) → first_bad bs ≡ None → is_without 44 bs ≡ true
from_first [] h = refl
from_first (b ∷ bs) h =
    ⊎_elim
    (λ good. rw (letter_unmarked b good) (from_place 1 bs (rw good at h)))
    (λ bad. let here : Some 0 ≡ None = rw bad at h in cc)
    (cases_Bool (is_letter_or_digit b))

from_read : (bs : List ℕ) (o : Option ℕ) → o ≡ first_bad bs → bad_byte bs o ≡ Ok bs → is_without 44 bs ≡ true
from_read bs None same h = from_first bs (sym same)
from_read bs (Some at) same h = cc

name_unmarked : (bs : List ℕ) → IsServerName bs → is_without 44 bs ≡ true
name_unmarked [] h = refl
name_unmarked (b ∷ bs) h =
    ⊎_elim
    (λ long. let here : Err TooLong ≡ Ok (b ∷ bs) = rw long at h in cc)
    (λ short. from_read (b ∷ bs) (first_bad (b ∷ bs)) refl (rw short at h))
    (cases_Bool (ltb 64 (length (b ∷ bs))))

server_unmarked : (key : ServerKey) → IsServer key → is_without 44 (server_text key) ≡ true
server_unmarked key h =
    list_all-append (λ b. not (b == 44)) (key.user ++ codes "/") key.server
    ∙ rw (list_all-append (λ b. not (b == 44)) key.user (codes "/"), name_unmarked key.user (server_of_name key.user h.user), name_unmarked key.server h.server) refl

pub share_front : (key : ShareKey) (text : List ℕ) → IsShareKey key → share_text key ≡ text → before 44 text ≡ server_text key.server
share_front key text h same =
    ap (before 44) (sym same ∙ append_assoc (server_text key.server) (44 ∷ []) (recipient_text key.to))
    ∙ before_marked 44 (server_text key.server) (recipient_text key.to) (server_unmarked key.server h.server)

pub share_back : (key : ShareKey) (text : List ℕ) → IsShareKey key → share_text key ≡ text → after 44 text ≡ Some (recipient_text key.to)
share_back key text h same =
    ap (after 44) (sym same ∙ append_assoc (server_text key.server) (44 ∷ []) (recipient_text key.to))
    ∙ after_marked 44 (server_text key.server) (recipient_text key.to) (server_unmarked key.server h.server)
