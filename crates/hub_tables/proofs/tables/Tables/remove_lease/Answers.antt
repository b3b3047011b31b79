use Rattle.std.specs.Cmp.Lexicographic.{nat_list_cmp_total}
use Rattle.keyed_rows.proofs.Finite.{own_removed}
use Rattle.hub_rows.specs.declared.records.Lease.{Lease}
use Rattle.hub_tables.specs.Kept.{Leases}
use Rattle.hub_rows.specs.ShareOrder.{names_exact}
use Rattle.hub_tables.proofs.Kept.{leases_kept}
use Rattle.hub_tables.proofs.tables.Tables.remove_lease.Goals as goal

pub invariant_of-self : goal.invariant_of-self
invariant_of-self c =
    leases_kept c.self.inside.trees c.remove_row.new.rows c.self.invariant (own_removed nat_list_cmp_total names_exact (λ (row : Lease). row.target) _ _ c.args.key.now c.remove_row.ensures.removed (c.self.invariant Leases))
