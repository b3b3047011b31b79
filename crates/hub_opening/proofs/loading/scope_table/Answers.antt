use Rattle.std.proofs.Common.{sym, subst}
use Rattle.hub_opening.specs.Kept.{MakeTable}
use Rattle.hub_opening.proofs.Scopes.{never_both}
use Rattle.hub_opening.proofs.loading.scope_table.Goals as goal

pub unreachable-requires : goal.unreachable-requires
unreachable-requires c =
    never_both c.as_slice.result.now c.in-Err.error (c.is_memory.ensures c.if-is_memory.false) c.in-Err.ensures (subst MakeTable (sym c.as_slice.ensures) c.requires)
