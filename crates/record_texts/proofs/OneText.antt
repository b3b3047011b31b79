-- Different keys have different texts.
use Rattle.std.proofs.Common.{◌≡◌, ℕ, List, [], ◌∷◌, sym, refl, ap, ◌∙◌, arith}
use Rattle.std.specs.Prelude.{drop, decimal}
use Rattle.std.proofs.lemmas.Fmt.{decimal_injective}
use Rattle.hub_kit.specs.ServerKeys.{key_read}
use Rattle.hub_kit.specs.declared.names.ServerKey.{ServerKey}
use Rattle.hub_kit.proofs.NameTexts.{key_reads}
use Rattle.hub_rows.specs.declared.keys.Recipient.{Recipient}
use Rattle.hub_rows.specs.declared.keys.Recipient.TheVariants as To
use Rattle.hub_rows.specs.declared.keys.ShareKey.{ShareKey}
use Rattle.scope_filters.specs.Scopes.{before, after}
use Rattle.record_texts.specs.Fields.{IsWord}
use Rattle.key_texts.specs.KeyTexts.{server_text, recipient_text, share_text, IsServer, IsShareKey}
use Rattle.key_texts.proofs.Results.{same_ok, same_some}
use Rattle.key_texts.proofs.ShareTexts.{share_front, share_back}

abbrev first_byte : List ℕ → ℕ
first_byte [] = 0
first_byte (b ∷ bs) = b

pub one_decimal : (a b : ℕ) → IsWord a → IsWord b → decimal a ≡ decimal b → a ≡ b
one_decimal a b p q e = decimal_injective a b p q e

pub one_server : (a b : ServerKey) → IsServer a → IsServer b → server_text a ≡ server_text b → a ≡ b
one_server a b p q e = same_ok a b (sym (key_reads a.user a.server p.user p.server) ∙ ap key_read e ∙ key_reads b.user b.server q.user q.server)

one_recipient : (a b : Recipient) → recipient_text a ≡ recipient_text b → a ≡ b
one_recipient (To.User a) (To.User b) e = ap To.User (ap (drop 5) e)
one_recipient (To.Group a) (To.Group b) e = ap To.Group (ap (drop 6) e)
one_recipient (To.User a) (To.Group b) e = let first : 117 ≡ 103 = ap first_byte e in absurd (omega (arith, first))
one_recipient (To.Group a) (To.User b) e = let first : 103 ≡ 117 = ap first_byte e in absurd (omega (arith, first))

pub one_share : (a b : ShareKey) → IsShareKey a → IsShareKey b → share_text a ≡ share_text b → a ≡ b
one_share a b p q e =
    let server = one_server a.server b.server p.server q.server (sym (share_front a (share_text a) p refl) ∙ ap (before 44) e ∙ share_front b (share_text b) q refl) in
    let to = one_recipient a.to b.to (same_some _ _ (sym (share_back a (share_text a) p refl) ∙ ap (after 44) e ∙ share_back b (share_text b) q refl)) in
    λ i. record { server = server i; to = to i }
