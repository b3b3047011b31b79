use Rattle.std.proofs.Common.{rules, ◌≡◌, true}
use Rattle.help_command.specs.Refused.{AreRefused}
use Rattle.help_command.proofs.refused.are_refused.Goals as goal

pub returns : goal.returns
returns c = λ load. record {
  serve = c.is_refused.ensures _ c.read_serve.ensures (search rules);
  check = c.is_refused-2.ensures _ c.read_check.ensures (search rules);
  backup = c.is_refused-3.ensures _ c.read_backup.ensures (search rules);
  proxy = c.is_refused-4.ensures _ c.read_proxy.ensures (search rules);
  guard = c.is_refused-5.ensures _ c.read_guard.ensures (search rules);
  cull = c.is_refused-6.ensures _ c.read_cull.ensures (search rules);
  session = c.is_refused-7.ensures _ c.read_session.ensures (search rules);
  load = c.is_refused-8.ensures _ c.read_load.ensures load;
}
