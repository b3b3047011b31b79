-- Different keys have different kinds or texts, and the key of a valid row is valid.
use Rattle.std.proofs.Common.{◌≡◌, ℕ, ◌==◌, false, refl, ap, arith}
use Rattle.std.proofs.lemmas.Bool.Decides.{nat_tests}
use Rattle.hub_rows.specs.RowKeys.{key_of}
use Rattle.hub_rows.specs.declared.rows.Row.{Row}
use Rattle.hub_rows.specs.declared.rows.Row.TheVariants as Row
use Rattle.hub_rows.specs.declared.rows.RowKey.{RowKey}
use Rattle.hub_rows.specs.declared.rows.RowKey.TheVariants as RowKey
use Rattle.record_texts.specs.Items.{kind_of, key_text, IsRow, IsKey}
use Rattle.record_texts.proofs.OneText.{one_decimal, one_server, one_share}

other_kind : {k l : ℕ} → (k == l) ≡ false → k ≡ l → ⊥
other_kind {k = k} {l = l} e h = grind (arith, nat_tests)

pub one_key : (a b : RowKey) → IsKey a → IsKey b → kind_of a ≡ kind_of b → key_text a ≡ key_text b → a ≡ b
one_key (RowKey.User a) (RowKey.User b) p q k e = ap RowKey.User e
one_key (RowKey.Group a) (RowKey.Group b) p q k e = ap RowKey.Group e
one_key (RowKey.Service a) (RowKey.Service b) p q k e = ap RowKey.Service e
one_key (RowKey.Role a) (RowKey.Role b) p q k e = ap RowKey.Role e
one_key (RowKey.Token a) (RowKey.Token b) p q k e = ap RowKey.Token (one_decimal a b p q e)
one_key (RowKey.ServerRow a) (RowKey.ServerRow b) p q k e = ap RowKey.ServerRow (one_server a b p q e)
one_key (RowKey.Lease a) (RowKey.Lease b) p q k e = ap RowKey.Lease e
one_key (RowKey.Share a) (RowKey.Share b) p q k e = ap RowKey.Share (one_share a b p q e)
one_key (RowKey.ShareCode a) (RowKey.ShareCode b) p q k e = ap RowKey.ShareCode (one_decimal a b p q e)
one_key (RowKey.OAuthClient a) (RowKey.OAuthClient b) p q k e = ap RowKey.OAuthClient e
one_key (RowKey.OAuthCode a) (RowKey.OAuthCode b) p q k e = ap RowKey.OAuthCode e
one_key (RowKey.Next a) (RowKey.Next b) p q k e = ap RowKey.Next e
one_key _ _ p q k e = absurd (other_kind refl k)

pub valid_key : (row : Row) → IsRow row → IsKey (key_of row)
valid_key (Row.User row) h = h.name
valid_key (Row.Group row) h = h.name
valid_key (Row.Service row) h = h.name
valid_key (Row.Role row) h = h.name
valid_key (Row.Token row) h = h.id
valid_key (Row.ServerRow row) h = h.key
valid_key (Row.Lease row) h = h.target
valid_key (Row.Share row) h = h.key
valid_key (Row.ShareCode row) h = h.id
valid_key (Row.OAuthClient row) h = tt
valid_key (Row.OAuthCode row) h = tt
valid_key (Row.Next row) h = tt
