use Rattle.std.proofs.Common.{codes, decimal}
use Rattle.reply_texts.specs.ReplyText.{header}
use Rattle.reply_texts.proofs.Additions.{both}
use Rattle.reply_texts.proofs.replies.add_body_headers.Goals as goal

pub returns-then-has_body : goal.returns-then-has_body
returns-then-has_body c =
    rw c.if-has_body.true
    (both c.add_number.result c.args.text.now c.add_header.new.text c.add_number.new.text
    (header (codes "Content-Type") (codes "application/json")) (header (codes "Content-Length") (decimal c.args.length))
    c.in_ok-add_header.ensures c.add_number.ensures)
