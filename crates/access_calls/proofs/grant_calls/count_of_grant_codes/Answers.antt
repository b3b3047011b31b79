use Rattle.std.proofs.Common.{ap, length, ◌∙◌}
use Rattle.access_calls.proofs.Ruling.{length_values}
use Rattle.access_calls.proofs.grant_calls.count_of_grant_codes.Goals as goal

pub returns : goal.returns
returns c = c.len.ensures.value ∙ ap length c.grant_codes.ensures.rows ∙ length_values c.args.tables.now.grant_codes
