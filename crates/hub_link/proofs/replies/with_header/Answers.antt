use Rattle.std.proofs.Common.{◌∙◌, sym, ap, codes}
use Rattle.http_wire.specs.Due.{number_said}
use Rattle.hub_link.proofs.ReplyLemmas.{header, more_other}
use Rattle.hub_link.proofs.replies.with_header.Goals as goal

pub returns-else-is_content_length : goal.returns-else-is_content_length
returns-else-is_content_length c = λ headers is.
    is ∙ sym (ap number_said (more_other (codes "content-length") headers (header c.args.name.now c.args.value.now) (sym c.is_content_length.ensures ∙ c.if-is_content_length.false)))
