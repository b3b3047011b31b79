use Rattle.row_indexes.proofs.Indexed.{on_ok, on_err}
use Rattle.hub_tables.proofs.Owners.{parties_noted, one_noted}
use Rattle.hub_tables.proofs.owned.note_parties.Goals as goal

pub returns-clause-ok : goal.returns-clause-ok
returns-clause-ok c = on_ok c.note-2.result (parties_noted c.args.key.now _ _ _ c.giver_of.result c.of_recipient.result c.giver_of.ensures c.of_recipient.ensures c.in_ok-note.ensures.ok) c.note-2.ensures.ok

pub returns-clause-err : goal.returns-clause-err
returns-clause-err c = on_err c.note-2.result (one_noted c.args.key.now _ _ _ c.giver_of.result c.giver_of.ensures c.in_ok-note.ensures.ok) c.note-2.ensures.err
