use Rattle.hub_kit.specs.contracts.names.ServerKeyOrd.TheImpl.Laws.{total-law}
use Rattle.keyed_rows.proofs.Finite.{own_put}
use Rattle.hub_rows.specs.declared.records.ServerRow.{ServerRow}
use Rattle.hub_tables.specs.Kept.{Servers}
use Rattle.hub_kit.specs.KeyOrder.{key_exact}
use Rattle.hub_tables.proofs.Kept.{servers_kept}
use Rattle.hub_tables.proofs.tables.Tables.put_server.Goals as goal

pub invariant_of-self : goal.invariant_of-self
invariant_of-self c =
    servers_kept c.self.inside.trees c.put.new.rows c.self.invariant (own_put total-law key_exact (λ (row : ServerRow). row.key) _ _ c.args.value c.put.result c.put.ensures.ok c.put.ensures.err (c.self.invariant Servers))

pub returns-clause-answer : goal.returns-clause-answer
returns-clause-answer c = rw (← c.self.view_is) c.put.ensures.answer
