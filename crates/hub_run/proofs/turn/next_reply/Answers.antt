use Rattle.std.proofs.Common.{◌++◌, refl, rules}
use Rattle.hub_run.proofs.AnswerLemmas.{made_refused}
use Rattle.hub_run.specs.Written.{written_bytes}
use Rattle.hub_run.proofs.turn.next_reply.Goals as goal

pub returns-in-Ok-clause-ok : goal.returns-in-Ok-clause-ok
returns-in-Ok-clause-ok g c = λ start base.
    let found = c.in-Ok.ensures.ok in
    let made = c.answer.ensures.answers start base found.0 found.1 in (
      made.0,
      found.0 ++ c.read_request.new.kept,
      found.2,
      made.1 (g.I.Source.left c.read_request.new.input) c.read_request.new.kept,
      made.2,
      made.3,
      made.4,
    )

pub returns-in-Err-Ended-clause-err : goal.returns-in-Err-Ended-clause-err
returns-in-Err-Ended-clause-err g c =
    let found = rw c.in-Err-Ended.field-0-is at c.in-Err-Ended.ensures.err in
    (found.0 ++ c.read_request.new.kept, found.2, found.3, refl)

pub returns-in-Err-Cut-clause-err : goal.returns-in-Err-Cut-clause-err
returns-in-Err-Cut-clause-err g c =
    let found = rw c.in-Err-Cut.field-0-is at c.in-Err-Cut.ensures.err in
    (found.0 ++ c.read_request.new.kept, found.2, found.3, refl)

pub returns-in-Err-ReadFault-clause-err : goal.returns-in-Err-ReadFault-clause-err
returns-in-Err-ReadFault-clause-err g c =
    let found = rw c.in-Err-ReadFault.field-0-is at c.in-Err-ReadFault.ensures.err in
    (found.0 ++ c.read_request.new.kept, found.2, found.3, refl)

pub returns-in-Err : goal.returns-in-Err
returns-in-Err g c =
    let found = rw c.in-Err.error-is at c.in-Err.ensures.err in record {
      of = refl;
      base = refl;
      alone = refl;
      last = λ e. refl;
      ok = λ start base.
          let made = made_refused start _ _ found.0 c.read_request.new.kept c.in-Err.error c.args.last (written_bytes c.text_of_wire.result) found.1 found.3 c.text_of_wire.ensures in
          (made.0, found.0 ++ c.read_request.new.kept, found.2, made.1, made.2, made.3, made.4);
      err = search rules;
      kept = c.read_request.ensures.short;
      counted = c.in-Err.ensures.counted;
      cause = λ e. absurd (cc);
    }
