use Rattle.admin_rules.proofs.Found.{group_shares}
use Rattle.admin_rules.proofs.of_groups.purge_group.Goals as goal

-- each step appends its changes to those before
pub returns : goal.returns
returns c =
    rw (
      c.in_ok-remove_shares.ensures,
      c.in_ok-append.ensures,
      c.in_ok-purge_rows.ensures,
      c.requires,
      c.roles.ensures.rows,
      group_shares c.args.tables.now c.args.group.now,
    )
