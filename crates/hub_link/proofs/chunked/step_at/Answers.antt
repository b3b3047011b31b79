use Rattle.std.proofs.Common.{ap, arith, length, length-take}
use Rattle.hub_link.proofs.ChunkLemmas.{whole_step, open_step, bad_step}
use Rattle.hub_link.proofs.chunked.step_at.Goals as goal

pub next_part-requires-clause-short : goal.next_part-requires-clause-short
next_part-requires-clause-short c = omega (arith, ap length c.window_of-window.ensures, length-take 16384 c.args.rest.now)

pub returns-in-Whole : goal.returns-in-Whole
returns-in-Whole c = whole_step c.args.at c.args.rest.now c.window_of-window.result.now c.in-Whole.len c.in-Whole.next c.window_of-window.ensures c.in-Whole.ensures

pub returns-in-Open : goal.returns-in-Open
returns-in-Open c = open_step c.args.at c.args.rest.now c.window_of-window.result.now c.window_of-window.ensures c.in-Open.ensures

pub returns-in-Bad : goal.returns-in-Bad
returns-in-Bad c = bad_step c.args.at c.args.rest.now c.window_of-window.result.now c.window_of-window.ensures c.in-Bad.ensures
