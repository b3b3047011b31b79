use Rattle.admin_rules.proofs.Plain.{activity_plain}
use Rattle.admin_rules.proofs.servers.note_activity.Goals as goal

pub returns-clause-plain : goal.returns-clause-plain
returns-clause-plain c =
    activity_plain c.args.tables.now c.args.user.now c.args.now c.args.told c.args.servers.now c.push_user.new.rows.items c.push_servers.new.rows.items
    (rw c.new-rows.ensures.items at c.in_ok-push_user.ensures) c.in_ok-push_servers.ensures
