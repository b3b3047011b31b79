-- Which calls draw random bytes before their visit.
use Rattle.std.specs.Prelude.{Bool, true, false}
use Rattle.hub_machine.specs.declared.call.Call.{Call}
use Rattle.hub_machine.specs.declared.call.Call.TheVariants.{GetAuthorize, PostCode, PostServer, PostToken, PostTrade}

-- a start draws the secret of the server's token; a new token, a new share code and a new code of the grant draw their texts
abbrev pub draws : Call → Bool
draws (PostServer server) = true
draws (PostToken ask) = true
draws (PostCode server scopes expires_in) = true
draws (GetAuthorize ask) = true
draws (PostTrade ask) = true
draws call = false
