use Rattle.std.proofs.Common.{ap, length, ◌∙◌}
use Rattle.access_calls.proofs.Ruling.{length_values}
use Rattle.access_calls.proofs.share_calls.count_of_shares.Goals as goal

pub returns : goal.returns
returns c = c.len.ensures.value ∙ ap length c.shares.ensures.rows ∙ length_values c.args.tables.now.shares
