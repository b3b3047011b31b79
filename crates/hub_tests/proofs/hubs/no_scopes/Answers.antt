use Rattle.std.proofs.Common.{sym, subst}
use Rattle.hub_opening.specs.Kept.{MakeTable}
use Rattle.hub_opening.proofs.Scopes.{none_make_table}
use Rattle.hub_tests.proofs.hubs.no_scopes.Goals as goal

pub returns : goal.returns
returns c = subst MakeTable (sym c.new.ensures) none_make_table
