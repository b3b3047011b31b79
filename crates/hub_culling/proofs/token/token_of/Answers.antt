use Rattle.std.proofs.Common.{sym, ◌∙◌}
use Rattle.hub_culling.proofs.TokenLemmas.{is_text}
use Rattle.hub_culling.proofs.token.token_of.Goals as goal

pub returns-in-Err : goal.returns-in-Err
returns-in-Err c = absurd (c.in-Err.ensures.cases.0 (is_text c.args.bytes.now (sym c.is_token.ensures ∙ c.if-not-is_token.false)))
