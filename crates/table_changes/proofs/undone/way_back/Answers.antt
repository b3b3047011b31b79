use Rattle.table_changes.proofs.Asked.{fitting_back, kept_back}
use Rattle.table_changes.proofs.LeadsBack.{leads_back}
use Rattle.table_changes.proofs.undone.way_back.Goals as goal

pub returns-clause-undoes : goal.returns-clause-undoes
returns-clause-undoes c = leads_back c.args.tables.now c.args.change.now c.own_keys.ensures c.back_of.result c.back_of.ensures

pub returns-clause-fits : goal.returns-clause-fits
returns-clause-fits c = fitting_back c.args.tables.now c.args.change.now c.own_keys.ensures c.back_of.result c.back_of.ensures

pub returns-clause-kept : goal.returns-clause-kept
returns-clause-kept c = kept_back c.args.tables.now c.args.change.now c.own_keys.ensures c.back_of.result c.back_of.ensures
