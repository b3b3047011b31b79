use Rattle.admin_rules.proofs.Found.{user_tokens, user_servers, user_shares}
use Rattle.admin_rules.proofs.of_users.purge_user.Goals as goal

-- each step appends its changes to those before
pub returns : goal.returns
returns c =
    rw (
      c.in_ok-purge_rows-4.ensures,
      c.in_ok-remove_clients.ensures,
      c.in_ok-purge_rows-3.ensures,
      c.in_ok-remove_shares.ensures,
      c.in_ok-remove_servers.ensures,
      c.in_ok-remove_tokens.ensures,
      c.in_ok-append.ensures,
      c.in_ok-purge_rows-2.ensures,
      c.in_ok-purge_rows.ensures,
      c.requires,
      c.groups.ensures.rows,
      c.roles.ensures.rows,
      c.codes.ensures.rows,
      c.grant_codes.ensures.rows,
      user_tokens c.args.tables.now c.args.user.now,
      user_servers c.args.tables.now c.args.user.now,
      user_shares c.args.tables.now c.args.user.now,
    )
