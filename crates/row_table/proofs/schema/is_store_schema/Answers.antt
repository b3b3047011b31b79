use Rattle.row_table.proofs.Schemas.{schema_is, indexes_are}
use Rattle.row_table.proofs.schema.is_store_schema.Goals as goal

pub returns-then-has_both_tables-clause-is : goal.returns-then-has_both_tables-clause-is
returns-then-has_both_tables-clause-is c holds =
    schema_is c.args.schema.now (c.has_both_tables.ensures.is c.if-has_both_tables.true) (c.has_both_indexes.ensures.is holds) (c.is_empty.ensures.0 c.if-not-is_empty.false)

pub returns-then-has_both_tables-clause-only : goal.returns-then-has_both_tables-clause-only
returns-then-has_both_tables-clause-only c is = c.has_both_indexes.ensures.only (indexes_are c.args.schema.now is)
