use Rattle.hub_tables.proofs.Owners.{share_taken, parties_forgotten}
use Rattle.hub_tables.proofs.owned.remove_share.Goals as goal

pub returns-clause-owned : goal.returns-clause-owned
returns-clause-owned c =
    share_taken _ _ _ _ c.requires.owned c.requires.own c.args.key.now c.remove_row.ensures.removed
    (parties_forgotten c.args.key.now _ _ _ c.giver_of.result c.of_recipient.result c.giver_of.ensures c.of_recipient.ensures c.forget.ensures c.forget-2.ensures)
