use Rattle.std.proofs.Common.{List, subst}
use Rattle.std.specs.Prelude.{Err}
use Rattle.row_rules.specs.Across.{IsAnswer}
use Rattle.row_rules.specs.declared.kept.RowsError.{RowsError}
use Rattle.scope_names.specs.declared.custom.CustomRow.{CustomRow}
use Rattle.hub_opening.specs.Kept.{AreTables}
use Rattle.hub_opening.proofs.Judging.{broken}
use Rattle.hub_opening.proofs.loading.sound_tables.Goals as goal

pub returns-in-Err-Broken : goal.returns-in-Err-Broken
returns-in-Err-Broken c kept are =
    let told = subst (λ (e : RowsError). IsAnswer c.args.config.now.limits c.in-Ok.scopes c.args.rows.items (Err e)) c.in-Err-Broken.field-0-is c.in-Err-Broken.ensures in
    subst (λ (scopes : List CustomRow). AreTables c.args.config.now.limits scopes kept (Err c.bad_row.result)) c.in-Ok.ensures
    (broken c.args.config.now.limits c.in-Ok.scopes kept c.args.rows.items c.in-Err-Broken.field-0-0 c.in-Err-Broken.row c.bad_row.result are
    told.0 told.1 c.bad_row.ensures)
