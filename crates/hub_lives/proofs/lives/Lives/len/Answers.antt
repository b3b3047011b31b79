use Rattle.std.proofs.Common.{sym, ap, ◌∙◌}
use Rattle.std.specs.Cmp.{nat_cmp_total}
use Rattle.std.specs.FinMap as map
use Rattle.keyed_rows.proofs.Finite.{len_row}
use Rattle.hub_lives.specs.LiveServers.{LiveServers}
use Rattle.hub_lives.proofs.lives.Lives.len.Goals as goal

pub returns : goal.returns
returns c = c.len.ensures.len ∙ sym (len_row nat_cmp_total c.self.inside.rows c.len.ensures.ordered) ∙ ap (λ (x : LiveServers). map.len x.lives) c.self.view_is
