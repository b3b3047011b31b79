use Rattle.std.proofs.Common.{codes}
use Rattle.load_asks.proofs.PostLemmas.{three_on}
use Rattle.load_asks.proofs.requests.add_end.Goals as goal

pub returns : goal.returns
returns c =
    three_on c.push_all-3.result c.args.text.now c.push_all.new.self c.push_all-2.new.self c.push_all-3.new.self
    (codes " HTTP/1.1\r\nHost: hub\r\nAuthorization: token ") c.args.token.now (codes "\r\nConnection: close\r\n\r\n")
    c.in_ok-push_all.ensures.ok c.in_ok-push_all-2.ensures.ok c.push_all-3.ensures.ok
