use Rattle.std.proofs.Common.{◌∙◌, sym, ap, codes}
use Rattle.hub_link.specs.Chunked.{coding_of}
use Rattle.hub_link.proofs.ReplyLemmas.{header, more_other}
use Rattle.hub_link.proofs.codings.with_header.Goals as goal

pub returns-else-is_coding_name : goal.returns-else-is_coding_name
returns-else-is_coding_name c = λ headers is.
    is ∙ sym (ap coding_of (more_other (codes "transfer-encoding") headers (header c.args.name.now c.args.value.now) (sym c.is_coding_name.ensures ∙ c.if-is_coding_name.false)))
