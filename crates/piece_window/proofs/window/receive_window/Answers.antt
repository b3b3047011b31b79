use Rattle.std.proofs.Common.{◌∙◌, arith}
use Rattle.piece_window.proofs.InsideLemmas.{came}
use Rattle.piece_window.proofs.window.receive_window.Goals as goal

pub returns-in-Ok-clause-ok : goal.returns-in-Ok-clause-ok
returns-in-Ok-clause-ok g c =
    let at = c.settle-start.ensures in
    came (g.U.Upstream.told c.args.up.now) (g.U.Upstream.told c.receive_behind.new.up) c.args.window.now c.settle-start.new.bytes c.receive_behind.new.bytes
    c.settle-start.result.0 c.settle-start.result.1 c.in-Ok.count at.within.order
    (omega (arith, c.in-Ok.ensures.ok.0, c.receive_behind.ensures.size)) c.receive_behind.ensures.front (at.held ∙ c.window.view_is) c.in-Ok.ensures.ok.1
