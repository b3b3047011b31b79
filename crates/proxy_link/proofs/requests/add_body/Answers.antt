use Rattle.std.proofs.Common.{◌≡◌, ◌++◌, ap, ◌∙◌, codes, decimal, length}
use Rattle.proxy_link.specs.Requests.{end}
use Rattle.proxy_link.proofs.Additions.{four}
use Rattle.proxy_link.proofs.requests.add_body.Goals as goal

pub returns : goal.returns
returns c =
    let value = c.as_bytes.ensures.value in
    let written = c.in_ok-digits.ensures.ok in
    let digits : c.as_bytes.result.now ≡ decimal (length c.args.body.now) = cc in
    four c.push_all-3.result c.args.text.now c.push_all.new.self c.push_all-2.new.self c.add_end.new.text c.push_all-3.new.self
    (codes "\r\nContent-Type: application/json\r\nContent-Length: ") (decimal (length c.args.body.now)) end c.args.body.now
    c.in_ok-push_all.ensures.ok (c.in_ok-push_all-2.ensures.ok ∙ ap (λ d. c.push_all.new.self ++ d) digits) c.in_ok-add_end.ensures c.push_all-3.ensures.ok
