use Rattle.std.specs.Cmp.Lexicographic.{nat_list_cmp_total}
use Rattle.keyed_rows.proofs.Finite.{own_removed}
use Rattle.hub_rows.specs.declared.records.OAuthClient.{OAuthClient}
use Rattle.hub_tables.specs.Kept.{Clients}
use Rattle.hub_rows.specs.ShareOrder.{names_exact}
use Rattle.hub_tables.proofs.Kept.{clients_kept}
use Rattle.hub_tables.proofs.tables.Tables.remove_client.Goals as goal

pub invariant_of-self : goal.invariant_of-self
invariant_of-self c =
    clients_kept c.self.inside.trees c.remove_row.new.rows c.self.invariant (own_removed nat_list_cmp_total names_exact (λ (row : OAuthClient). row.id) _ _ c.args.key.now c.remove_row.ensures.removed (c.self.invariant Clients))
