use Rattle.std.specs.Cmp.Lexicographic.{nat_list_cmp_total}
use Rattle.keyed_rows.proofs.Finite.{own_removed}
use Rattle.hub_rows.specs.declared.records.Role.{Role}
use Rattle.hub_tables.specs.Kept.{Roles}
use Rattle.hub_rows.specs.ShareOrder.{names_exact}
use Rattle.hub_tables.proofs.Kept.{roles_kept}
use Rattle.hub_tables.proofs.tables.Tables.remove_role.Goals as goal

pub remove_role-requires : goal.remove_role-requires
remove_role-requires c = record { told = (c.self.invariant Roles).told }

pub invariant_of-self : goal.invariant_of-self
invariant_of-self c =
    roles_kept c.self.inside.trees c.remove_role.new.rows c.remove_role.new.indexes c.self.invariant (record {
      own = own_removed nat_list_cmp_total names_exact (λ (row : Role). row.name) _ _ c.args.key.now c.remove_role.ensures.removed (c.self.invariant Roles).own;
      told = c.remove_role.ensures.told;
    })
