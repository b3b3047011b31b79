use Rattle.hub_tables.proofs.SharesTo.{Collecting}
use Rattle.hub_tables.proofs.owned.share_keys_to.Given as goal

abbrev pub invariant-loop-entry : goal.invariant-loop-entry
invariant-loop-entry l = Collecting l.party l.to l.parties.entries l.keys.items l.entry-iterator
