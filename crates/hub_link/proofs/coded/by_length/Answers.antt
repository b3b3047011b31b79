use Rattle.std.proofs.Common.{◌≡◌, ◌++◌, List, ℕ, [], decimal, codes, length, ap, ◌∙◌, arith}
use Rattle.hub_link.proofs.TextLemmas.{text_is, piece_more}
use Rattle.hub_link.proofs.coded.by_length.Goals as goal

pub returns : goal.returns
returns c =
    let value = c.as_bytes.ensures.value in
    let written = c.in_ok-code.ensures.ok in
    let code : c.as_bytes.result.now ≡ decimal c.args.status = cc in
    let value-2 = c.as_bytes-2.ensures.value in
    let written-2 = c.in_ok-digits.ensures.ok in
    let size : c.as_bytes-2.result.now ≡ decimal (length c.args.body.now) = cc in
    let one = piece_more c.push_all.new.self c.new-text.result (codes "HTTP/1.1 ") [] c.in_ok-push_all.ensures.ok c.new-text.ensures in
    let two = piece_more c.push_all-2.new.self c.push_all.new.self (decimal c.args.status) (codes "HTTP/1.1 ") (c.in_ok-push_all-2.ensures.ok ∙ ap (λ (x : List ℕ). c.push_all.new.self ++ x) code) one in
    let three = piece_more c.push_all-3.new.self c.push_all-2.new.self (codes "\r\nContent-Length: ") _ c.in_ok-push_all-3.ensures.ok two in
    let four = piece_more c.push_all-4.new.self c.push_all-3.new.self (decimal (length c.args.body.now)) _ (c.in_ok-push_all-4.ensures.ok ∙ ap (λ (x : List ℕ). c.push_all-3.new.self ++ x) size) three in
    let five = piece_more c.push_all-5.new.self c.push_all-4.new.self (codes "\r\n\r\n") _ c.in_ok-push_all-5.ensures.ok four in
    let six = piece_more c.push_all-6.new.self c.push_all-5.new.self c.args.body.now _ c.in_ok-push_all-6.ensures.ok five in
    text_is c.args.status c.args.body.now c.push_all-6.new.self c.requires.least c.requires.most (omega arith) six
