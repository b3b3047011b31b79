use Rattle.std.proofs.Common.{sym, arith, take_all, length-take}
use Rattle.hub_link.proofs.chunked.window_of.Goals as goal

pub slice_bounds-result-end : goal.slice_bounds-result-end
slice_bounds-result-end c = omega (arith, c.if-rest-gt-PART_LIMIT.true, length-take 16384 c.args.rest.now)

pub returns-else-rest-gt-PART_LIMIT : goal.returns-else-rest-gt-PART_LIMIT
returns-else-rest-gt-PART_LIMIT c = sym (take_all 16384 c.args.rest.now (omega (arith, c.if-rest-gt-PART_LIMIT.false)))
