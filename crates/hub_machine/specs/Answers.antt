-- What contracts see of answers, replies and outcomes of the program: their bodies as tokens.
use Rattle.hub_view.specs.Body.{body_tokens}
use Rattle.hub_machine.specs.Replies as spec
use Rattle.hub_machine.specs.declared.answer.Answer.{Answer}
use Rattle.hub_machine.specs.declared.answer.Answer.TheVariants.{Refuses, RefusesWith, Gives, Changes, Works}
use Rattle.hub_machine.specs.declared.answer.Good.{Good}
use Rattle.hub_machine.specs.declared.reply.Reply.{Reply}
use Rattle.hub_machine.specs.declared.reply.Outcome as out
use Rattle.hub_machine.specs.declared.reply.Outcome.TheVariants as given

-- The Ok of a call, with its body as tokens
abbrev pub good_view : Good → spec.Good
good_view g = record { status = g.status; body = body_tokens g.body; location = g.location; no_store = g.no_store }

-- An answer, with its body as tokens
abbrev pub answer_view : Answer → spec.Answer
answer_view (Refuses r) = spec.refuses r
answer_view (RefusesWith c r) = spec.refuses_with c r
answer_view (Gives g) = spec.gives (good_view g)
answer_view (Changes c g) = spec.changes c (good_view g)
answer_view (Works c w) = spec.works c w

-- A reply, with its body as tokens
abbrev pub reply_view : Reply → spec.Reply
reply_view r = record { status = r.status; body = body_tokens r.body; location = r.location; no_store = r.no_store; revision = r.revision }

-- An outcome, with its body as tokens
abbrev pub outcome_view : out.Outcome → spec.Outcome
outcome_view (given.Answer r) = spec.answered (reply_view r)
outcome_view (given.Work w) = spec.working w
