use Rattle.oauth_flow.proofs.Revoked.{to_revoke, revoked}
use Rattle.oauth_flow.proofs.trades.used_codes_revoke.Goals as goal

pub returns : goal.returns
returns c = λ t ask text id now token. (to_revoke t ask text id now token, revoked t ask text id now token)
