use Rattle.std.proofs.Common.{◌≡◌, [], ◌∷◌, sym, ap, ◌∙◌}
use Rattle.row_table.proofs.Schemas.{only_item}
use Rattle.row_table.proofs.Tests.{same_bytes}
use Rattle.row_table.proofs.schema.has_one_key.Goals as goal

pub returns-clause-is : goal.returns-clause-is
returns-clause-is c holds =
    let same : c.unique-item.result ≡ c.args.places.now = sym c.as_slice-2.ensures ∙ same_bytes c.as_slice-2.result.now c.args.places.now (sym c.eq.ensures ∙ holds) in
    sym c.as_slice.ensures ∙ only_item c.as_slice.result.now c.unique-item.result c.in-len1.len_at_least c.in-len1.len_below c.unique-item.is ∙ ap (λ p. p ∷ []) same
