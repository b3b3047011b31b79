use Rattle.std.proofs.Common.{codes}
use Rattle.proxy_link.proofs.Additions.{both, renamed}
use Rattle.proxy_link.proofs.requests.add_front.Goals as goal

pub returns : goal.returns
returns c =
    both c.push_all-2.result c.args.text.now c.push_all.new.self c.push_all-2.new.self
    (codes " HTTP/1.1\r\nHost: proxy\r\nAuthorization: token ") c.args.secret.now c.in_ok-push_all.ensures.ok
    (renamed c.push_all-2.result c.push_all.new.self c.push_all-2.new.self c.as_bytes.result.now c.args.secret.now c.as_bytes.ensures c.push_all-2.ensures.ok)
