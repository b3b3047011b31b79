use Rattle.std.proofs.Common.{◌∙◌}
use Rattle.scope_meet.proofs.Contained.{number_of}
use Rattle.scope_meet.proofs.inside.number_at.Goals as goal

pub returns-in-Some : goal.returns-in-Some
returns-in-Some c = c.len.ensures ∙ number_of c.in-Some.others.now _ c.in-Some.ensures
