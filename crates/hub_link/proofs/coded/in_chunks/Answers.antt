use Rattle.std.proofs.Common.{List, ℕ, length, Some, None, sym, ap, ◌∙◌, subst, arith}
use Rattle.std.proofs.lemmas.Slice.{between_to_end}
use Rattle.std.specs.List.{between}
use Rattle.hub_link.specs.Replies.{IsReply}
use Rattle.hub_link.specs.Chunked.{IsDataOf, may_have_chunks}
use Rattle.hub_link.proofs.CodedLemmas.{may_not, no_body, in_chunks, refused_by}
use Rattle.hub_link.proofs.coded.in_chunks.Goals as goal

pub returns-then-not-may_have_chunks : goal.returns-then-not-may_have_chunks
returns-then-not-may_have_chunks c =
    refused_by c.args.bytes.now c.args.spans.now c.args.r c.requires.within c.requires.head c.requires.room c.requires.coded
    (may_not c.args.bytes.now c.args.spans.now c.args.r c.requires.head
    (ap (may_have_chunks c.args.r.code c.args.r.version) (sym c.length_said-said.ensures) ∙ (sym c.may_have_chunks.ensures ∙ c.if-not-may_have_chunks.true)))

pub returns-in_ok-by_length-in-Some : goal.returns-in_ok-by_length-in-Some
returns-in_ok-by_length-in-Some c =
    in_chunks c.args.bytes.now c.args.spans.now c.args.r c.in-Some.body c.in_ok-by_length-in-Some.field-0 c.requires.within c.requires.head c.requires.room c.requires.coded
    (ap (may_have_chunks c.args.r.code c.args.r.version) (sym c.length_said-said.ensures) ∙ (sym c.may_have_chunks.ensures ∙ c.if-not-may_have_chunks.false))
    (subst (λ (x : List ℕ). IsDataOf x (Some c.in-Some.body)) (between_to_end c.args.bytes.now c.args.r.len (length c.args.bytes.now) (omega arith))
    (subst (IsDataOf (between c.args.r.len (length c.args.bytes.now) c.args.bytes.now)) c.in-Some.is c.in_ok-body.ensures))
    (subst (λ (x : List ℕ). IsReply c.in_ok-by_length-in-Some.field-0 c.args.r.code x) c.as_slice.ensures c.in_ok-by_length-in-Some.ensures)

pub returns-in-None : goal.returns-in-None
returns-in-None c =
    refused_by c.args.bytes.now c.args.spans.now c.args.r c.requires.within c.requires.head c.requires.room c.requires.coded
    (no_body c.args.bytes.now c.args.spans.now c.args.r c.requires.head
    (subst (λ (x : List ℕ). IsDataOf x None) (between_to_end c.args.bytes.now c.args.r.len (length c.args.bytes.now) (omega arith))
    (subst (IsDataOf (between c.args.r.len (length c.args.bytes.now) c.args.bytes.now)) c.in-None.is c.in_ok-body.ensures)))
