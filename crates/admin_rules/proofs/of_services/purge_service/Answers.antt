use Rattle.admin_rules.proofs.Found.{service_tokens}
use Rattle.admin_rules.proofs.of_services.purge_service.Goals as goal

-- each step appends its changes to those before
pub returns : goal.returns
returns c =
    rw (
      c.in_ok-remove_client.ensures,
      c.in_ok-remove_tokens.ensures,
      c.in_ok-append.ensures,
      c.in_ok-purge_rows.ensures,
      c.requires,
      c.roles.ensures.rows,
      service_tokens c.args.tables.now c.args.service.now,
    )
