use Rattle.admin_rules.proofs.Plain.{user_plain}
use Rattle.admin_rules.proofs.users.delete_user.Goals as goal

pub returns-clause-plain : goal.returns-clause-plain
returns-clause-plain c = user_plain c.args.tables.now c.args.user.now _ c.in_ok-user_rows.ensures
