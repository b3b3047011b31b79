use Rattle.std.proofs.Common.{IsTrue, ap, sym, subst, ◌∙◌}
use Rattle.sqlite.specs.Held.{state}
use Rattle.sqlite.specs.Steps.{over_memory}
use Rattle.sqlite.proofs.Callers.{memory_is_clean}
use Rattle.keeper_sqlite.specs.Own.{told_rows}
use Rattle.keeper_sqlite.proofs.Told.{rows_of_empty}
use Rattle.keeper_sqlite.proofs.sqlite_keeper.SqliteKeeper+MemStore.in_memory.Goals as goal

pub returns-clause-told : goal.returns-clause-told
returns-clause-told c =
    let conn = c.in_ok-open_in_memory.field-0 in
    let empty = c.in_ok-open_in_memory.ensures.empty in
    let same = c.over.ensures.taken.0 in
    let own = c.over.ensures.own empty.0.autocommit empty.2 in (
      (memory_is_clean c.over.result.connection, subst (λ h. IsTrue (state over_memory h).is_open) (sym same) empty.0.is_open, own),
      λ kind key. ap (λ h. told_rows over_memory h kind key) same ∙ ap (λ r. r kind key) (rows_of_empty (state over_memory conn).now empty.2),
    )
