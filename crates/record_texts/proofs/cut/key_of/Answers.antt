use Rattle.std.proofs.Common.{sym}
use Rattle.scope_filters.proofs.NameTexts.{key_only}
use Rattle.record_texts.proofs.cut.key_of.Goals as goal

pub returns-in-Ok : goal.returns-in-Ok
returns-in-Ok c = (
  key_only c.args.text.now c.in-Ok.key (sym c.in-Ok.ensures),
  record { user = c.as_str-user.ensures.name; server = c.as_str-server.ensures.name },
)
