-- The order of shares: by the server, and then by the recipient. Keys that compare alike are one.
use Rattle.std.proofs.Common.{ap}
use Rattle.std.specs.declared.cmp.Ordering.{Ordering}
use Rattle.std.specs.Ordering.{ordering_then}
use Rattle.std.specs.FinMap.{IsAntisymmetric, nat_cmp-IsAntisymmetric, slice_cmp-IsAntisymmetric}
use Rattle.std.proofs.lemmas.Map.Lookups.{exact_pairs}
use Rattle.hub_kit.specs.declared.names.ServerKey.{ServerKey}
use Rattle.hub_kit.specs.KeyOrder.{name_cmp, key_cmp, key_exact}
use Rattle.hub_rows.specs.declared.keys.Recipient.{Recipient}
use Rattle.hub_rows.specs.declared.keys.Recipient.TheVariants as To
use Rattle.hub_rows.specs.declared.keys.ShareKey.{ShareKey}
use Rattle.hub_rows.specs.contracts.keys.RecipientOrd.TheImpl as recipient

-- The order of recipients: users before groups, each by name
abbrev pub recipient_cmp : Recipient → Recipient → Ordering
recipient_cmp = recipient.ghosts.cmp

-- The order of shares: by the server, and then by the recipient
abbrev pub share_cmp : ShareKey → ShareKey → Ordering
share_cmp a b = ordering_then (key_cmp a.server b.server) (recipient_cmp a.to b.to)

-- ---- keys that compare alike are one: proofs of laws of `Key`, which stand here since a source cites only what stands in specs/

abbrev pub names_exact : IsAntisymmetric name_cmp
names_exact = slice_cmp-IsAntisymmetric nat_cmp-IsAntisymmetric

pub recipient_exact : IsAntisymmetric recipient_cmp
recipient_exact (To.User u) (To.User w) h = ap To.User (names_exact u w h)
recipient_exact (To.Group u) (To.Group w) h = ap To.Group (names_exact u w h)
recipient_exact _ _ h = cc

pub share_exact : IsAntisymmetric share_cmp
share_exact a b h = ap (λ (p : ServerKey × Recipient). record { server = p.0; to = p.1 })
    (exact_pairs key_cmp recipient_cmp key_exact recipient_exact (a.server, a.to) (b.server, b.to) h)
