use Rattle.hub_kit.specs.contracts.names.ServerKeyOrd.TheImpl.Laws.{total-law}
use Rattle.keyed_rows.proofs.Finite.{own_removed}
use Rattle.hub_rows.specs.declared.records.ServerRow.{ServerRow}
use Rattle.hub_tables.specs.Kept.{Servers}
use Rattle.hub_kit.specs.KeyOrder.{key_exact}
use Rattle.hub_tables.proofs.Kept.{servers_kept}
use Rattle.hub_tables.proofs.tables.Tables.remove_server.Goals as goal

pub invariant_of-self : goal.invariant_of-self
invariant_of-self c =
    servers_kept c.self.inside.trees c.remove_row.new.rows c.self.invariant (own_removed total-law key_exact (λ (row : ServerRow). row.key) _ _ c.args.key.now c.remove_row.ensures.removed (c.self.invariant Servers))
