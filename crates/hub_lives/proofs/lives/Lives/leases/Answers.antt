use Rattle.std.proofs.Common.{sym, ap, ◌∙◌}
use Rattle.std.specs.Cmp.{nat_cmp_total}
use Rattle.std.specs.FinMap as map
use Rattle.keyed_rows.proofs.Finite.{values_row}
use Rattle.hub_lives.specs.LiveServers.{LiveServers}
use Rattle.hub_lives.proofs.lives.Lives.leases.Goals as goal

pub returns-clause-rows : goal.returns-clause-rows
returns-clause-rows c = c.values.ensures.rest ∙ sym (values_row nat_cmp_total c.self.inside.rows c.values.ensures.ordered) ∙ ap (λ (x : LiveServers). map.values x.lives) c.self.view_is
