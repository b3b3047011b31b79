use Rattle.admin_rules.proofs.Plain.{users_plain}
use Rattle.admin_rules.proofs.users.add_users.Goals as goal

pub returns-clause-plain : goal.returns-clause-plain
returns-clause-plain c = users_plain c.args.admin c.args.now _ _ c.in_ok-new_users.ensures
