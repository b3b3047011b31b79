use Rattle.std.proofs.Common.{◌∙◌, ap}
use Rattle.hub_kit.specs.KeyOrder.{name_cmp}
use Rattle.hub_rows.specs.declared.records.Group.{Group}
use Rattle.keyed_rows.specs.Rows.{map_of}
use Rattle.keyed_rows.specs.Sorted.{is_among}
use Rattle.hub_tables.specs.Kept.{Groups}
use Rattle.hub_tables.specs.Lookups.{groups_of}
use Rattle.hub_tables.specs.State.{State}
use Rattle.hub_tables.proofs.GroupNames.{names_in_order}
use Rattle.hub_tables.proofs.tables.Tables.groups_of.Goals as goal

pub keys_with-requires : goal.keys_with-requires
keys_with-requires c = record { own = (c.self.invariant Groups).own; told = (c.self.invariant Groups).told }

pub returns : goal.returns
returns c =
    c.from_vec.ensures
    ∙ names_in_order (λ (group : Group). is_among name_cmp c.args.user.now group.users) (map_of name_cmp c.self.inside.trees.groups) (c.self.invariant Groups).own _ c.in_ok-names.ensures
    ∙ ap (λ (s : State). groups_of s c.args.user.now) c.self.view_is
