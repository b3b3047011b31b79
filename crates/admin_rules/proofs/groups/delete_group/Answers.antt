use Rattle.admin_rules.proofs.Plain.{group_plain}
use Rattle.admin_rules.proofs.groups.delete_group.Goals as goal

pub returns-clause-plain : goal.returns-clause-plain
returns-clause-plain c = group_plain c.args.tables.now c.args.group.now _ c.in_ok-group_rows.ensures
