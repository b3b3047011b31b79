use Rattle.std.proofs.Common.{◌≡◌, ◌++◌, ◌∷◌, [], ℕ, List, ap, take, ◌∙◌}
use Rattle.scope_names.specs.declared.custom.CustomRow.{CustomRow}
use Rattle.scope_names.proofs.Growth.{taken_more}
use Rattle.scope_names.proofs.table.copy_rows.Goals as goal

pub loop-row-preserved : goal.loop-row-preserved
loop-row-preserved c =
    let row : List (List ℕ) → CustomRow = λ subscopes. record { name = c.row-item.result.name; subscopes = subscopes } in
    let same : c.from_vec.result ≡ c.row-item.result.subscopes = c.from_vec.ensures ∙ c.in_ok-names.ensures.items ∙ c.as_slice.ensures in
    c.in_ok-push.ensures.items ∙ ap (λ (ys : List CustomRow). ys ++ row c.from_vec.result ∷ []) c.loop-row.invariant ∙ ap (λ subscopes. take c.loop-row.row-index c.args.rows.now ++ row subscopes ∷ []) same ∙ taken_more c.args.rows.now c.loop-row.row-index c.row-item.result c.loop-row-test.true c.row-item.is
