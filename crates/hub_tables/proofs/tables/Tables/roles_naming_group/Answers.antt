use Rattle.std.proofs.Common.{◌∙◌, ap}
use Rattle.hub_tables.specs.Kept.{Roles}
use Rattle.hub_tables.specs.Lookups.{roles_naming_group}
use Rattle.hub_tables.specs.State.{State}
use Rattle.row_indexes.proofs.Indexed.{if_ok}
use Rattle.hub_tables.proofs.tables.Tables.roles_naming_group.Goals as goal

pub keys_with-requires : goal.keys_with-requires
keys_with-requires c = record { own = (c.self.invariant Roles).own; told = (c.self.invariant Roles).told.groups }

pub returns : goal.returns
returns c = if_ok c.keys_with.result (λ names e. e ∙ ap (λ (s : State). roles_naming_group s c.args.group.now) c.self.view_is) c.keys_with.ensures
