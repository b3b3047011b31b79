use Rattle.std.proofs.Common.{sym}
use Rattle.scope_meet.proofs.Witnesses.{something}
use Rattle.scope_meet.proofs.asks.holds_any.Goals as goal

pub returns-in-Some : goal.returns-in-Some
returns-in-Some c = something c.args.grant.now c.args.action c.in-Some.filters.now c.has_filter.result (sym c.in-Some.ensures) c.has_filter.ensures.named c.has_filter.ensures.some c.has_filter.ensures.none
