use Rattle.std.proofs.Common.{◌∙◌}
use Rattle.row_rules.proofs.Marks.{all_servers}
use Rattle.row_rules.proofs.standing.leased_in.Goals as goal

pub returns : goal.returns
returns c = λ server. c.in_ok-add_servers.ensures server ∙ all_servers c.new-leased.result c.leases.result _ c.new-leased.ensures.empty c.leases.ensures.rows server
