use Rattle.std.proofs.Common.{rules, ◌≡◌, true, codes}
use Rattle.reply_texts.specs.ReplyText.{header}
use Rattle.reply_texts.proofs.Additions.{both}
use Rattle.reply_texts.proofs.replies.add_store_headers.Goals as goal

pub returns : goal.returns
returns c =
    let on : c.args.no_store ≡ true = search rules in
    rw on
    (both c.add_header-2.result c.args.text.now c.add_header.new.text c.add_header-2.new.text
    (header (codes "Cache-Control") (codes "no-store")) (header (codes "Pragma") (codes "no-cache"))
    c.in_ok-add_header.ensures c.add_header-2.ensures)
