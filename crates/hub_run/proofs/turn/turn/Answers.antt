use Rattle.std.proofs.Common.{◌∙◌, ℕ, Bool, List, ap, sym, subst}
use Rattle.hub_devices.specs.Streams.{Appends}
use Rattle.hub_run.specs.Turns.{turn_text}
use Rattle.hub_run.proofs.AnswerLemmas.{stops}
use Rattle.hub_run.proofs.turn.turn.Goals as goal

pub returns-in-Ok-write_all-clause-ok : goal.returns-in-Ok-write_all-clause-ok
returns-in-Ok-write_all-clause-ok g c = λ start base.
    let found = c.in-Ok.ensures.ok start base in (
      found.0,
      found.1,
      found.2,
      found.3,
      found.4,
      found.5,
      subst (λ (text : List ℕ). Appends (g.O.Sink.held c.args.output.now) text (g.O.Sink.held c.write_all.new.output))
          (c.as_slice.ensures ∙ found.6) c.in-Ok-write_all.ensures.ok,
    )

pub returns-in-Err-write_all-clause-err : goal.returns-in-Err-write_all-clause-err
returns-in-Err-write_all-clause-err g c = λ start base.
    let found = c.in-Ok.ensures.ok start base in
    let broken = c.in-Err-write_all.ensures.err in (
      found.1,
      found.2,
      record {
        turn = found.0;
        rest = c.next_reply.new.kept;
        part = broken.0;
        more = broken.1;
        at = found.3;
        kept = c.in-Ok.ensures.kept;
        moves = found.4;
        text = ap (λ (b : Bool). turn_text found.0 b) (sym found.5) ∙ (sym found.6 ∙ (sym c.as_slice.ensures ∙ broken.2));
        wrote = broken.3;
      },
    )

pub returns-in-Err-clause-err : goal.returns-in-Err-clause-err
returns-in-Err-clause-err g c = λ start base.
    let found = c.in-Err.ensures.err in
    (found.0, found.1, stops start _ _ _ _ _ found.0 c.in-Err.end found.2 found.3)
