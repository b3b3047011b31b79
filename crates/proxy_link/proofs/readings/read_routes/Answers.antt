use Rattle.std.proofs.Common.{Some}
use Rattle.proxy_link.proofs.AskLemmas.{listed}
use Rattle.proxy_link.proofs.readings.read_routes.Goals as goal

pub returns-in-Some : goal.returns-in-Some
returns-in-Some c = listed c.args.bytes.now (Some (c.in-Some.status, c.in-Some.body.now)) c.listed_in.result c.in-Some.ensures.some c.listed_in.ensures
