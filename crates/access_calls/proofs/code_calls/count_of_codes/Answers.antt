use Rattle.std.proofs.Common.{ap, length, ◌∙◌}
use Rattle.access_calls.proofs.Ruling.{length_values}
use Rattle.access_calls.proofs.code_calls.count_of_codes.Goals as goal

pub returns : goal.returns
returns c = c.len.ensures.value ∙ ap length c.codes.ensures.rows ∙ length_values c.args.tables.now.codes
