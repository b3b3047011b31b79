use Rattle.std.proofs.Common.{◌+◌, ap, ◌∙◌}
use Rattle.scope_filters.proofs.FilterRows.{number_with, number_without}
use Rattle.scope_filters.proofs.grant.number_of.Goals as goal

pub returns-in-Some : goal.returns-in-Some
returns-in-Some c = ap (λ n. n + 1) c.len.ensures.len ∙ number_with c.args.first.now c.args.others.now c.in-Some.field-0 c.in-Some.is c.requires

pub returns-in-None : goal.returns-in-None
returns-in-None c = number_without c.args.first.now c.args.others.now c.in-None.is c.requires
