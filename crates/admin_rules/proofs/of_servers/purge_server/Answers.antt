use Rattle.admin_rules.proofs.of_servers.purge_server.Goals as goal

-- each step appends its changes to those before
pub returns : goal.returns
returns c =
    rw (
      c.in_ok-purge_rows-2.ensures,
      c.in_ok-purge_rows.ensures,
      c.in_ok-append.ensures,
      c.requires,
      c.shares.ensures.rows,
      c.codes.ensures.rows,
    )
