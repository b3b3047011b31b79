use Rattle.std.proofs.Common.{◌∙◌}
use Rattle.access_calls.proofs.Traded.{is_new}
use Rattle.access_calls.proofs.grant_calls.trade_for.Goals as goal

pub traded-requires : goal.traded-requires
traded-requires c =
    (is_new c.args.tables.now c.args.ask.now c.args.text.now c.in_ok-id.id c.args.now (c.in-Ok.code, c.in-Ok.token) c.in-Ok.ensures).numbered ∙ c.in_ok-id.ensures
