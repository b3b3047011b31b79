use Rattle.std.specs.Cmp.Lexicographic.{nat_list_cmp_total}
use Rattle.keyed_rows.proofs.Finite.{own_removed}
use Rattle.hub_rows.specs.declared.records.Group.{Group}
use Rattle.hub_tables.specs.Kept.{Groups}
use Rattle.hub_rows.specs.ShareOrder.{names_exact}
use Rattle.hub_tables.proofs.Kept.{groups_kept}
use Rattle.hub_tables.proofs.tables.Tables.remove_group.Goals as goal

pub remove_group-requires : goal.remove_group-requires
remove_group-requires c = record { told = (c.self.invariant Groups).told }

pub invariant_of-self : goal.invariant_of-self
invariant_of-self c =
    groups_kept c.self.inside.trees c.remove_group.new.rows c.remove_group.new.users c.self.invariant (record {
      own = own_removed nat_list_cmp_total names_exact (λ (row : Group). row.name) _ _ c.args.key.now c.remove_group.ensures.removed (c.self.invariant Groups).own;
      told = c.remove_group.ensures.told;
    })
