use Rattle.std.proofs.Common.{◌∙◌, arith}
use Rattle.piece_window.proofs.InsideLemmas.{took, none_came}
use Rattle.piece_window.proofs.window.fill_window.Goals as goal

pub returns-in-Ok-clause-took : goal.returns-in-Ok-clause-took
returns-in-Ok-clause-took g c =
    let at = c.settle-start.ensures in
    took (g.I.Source.left c.args.input.now) (g.I.Source.left c.take_behind.new.input) c.args.window.now c.args.kept.now c.take_behind.new.kept
    c.settle-start.new.bytes c.take_behind.new.bytes c.settle-start.result.0 c.settle-start.result.1 c.in-Ok.count at.within.order
    (omega (arith, at.within.fits, at.within.size, c.take_behind.ensures.size)) c.take_behind.ensures.front (at.held ∙ c.window.view_is) c.in-Ok.ensures.ok.1

pub returns-in-Ok-clause-same : goal.returns-in-Ok-clause-same
returns-in-Ok-clause-same g c = λ none.
    let at = c.settle-start.ensures in
    none_came c.args.window.now c.settle-start.new.bytes c.take_behind.new.bytes c.settle-start.result.0 c.settle-start.result.1 c.in-Ok.count
    c.take_behind.ensures.front (at.held ∙ c.window.view_is) none
