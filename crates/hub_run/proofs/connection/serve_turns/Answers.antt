use Rattle.std.proofs.Common.{◌+◌, ◌++◌, ◌∷◌, ◌∙◌, [], Err, sym, ap, refl, arith}
use Rattle.std.proofs.lemmas.List.{length_push}
use Rattle.hub_devices.proofs.CallLemmas.{Rises_earlier}
use Rattle.hub_run.specs.Turns.{turn_text}
use Rattle.hub_run.proofs.RanLemmas.{Ran_empty, Ran_reply, Ran_turn, Ran_last, below_limit}
use Rattle.hub_run.proofs.TurnsLemmas.{turns_more}
use Rattle.hub_run.proofs.StopLemmas.{stopped}
use Rattle.hub_run.proofs.connection.serve_turns.Goals as goal

pub turns-init : goal.turns-init
turns-init g c = record {
  of = refl;
  base = refl;
  alone = refl;
  ran = λ start base. ([], refl, Ran_empty start _ _ _ c.requires.kept, refl);
  below = omega arith;
  reads = omega arith;
  writes = omega arith;
}

pub turns-preserved : goal.turns-preserved
turns-preserved g c = record {
  of = c.in-Ok.ensures.of ∙ c.turns.invariant.of;
  base = c.in-Ok.ensures.base ∙ c.turns.invariant.base;
  alone = c.in-Ok.ensures.alone ∙ c.turns.invariant.alone;
  ran = λ start base.
      let before = c.turns.invariant.ran start base in
      let found = c.in-Ok.ensures.ok start (c.turns.invariant.base ∙ base) in
      let ran = Ran_reply found.1 (turn_text found.0 c.in-Ok.close) before.2 found.2 found.6 in (
        before.0 ++ found.0 ∷ [],
        length_push before.0 found.0 ∙ ap (λ k. k + 1) before.1,
        Ran_turn start _ _ _ _ before.0 found.1 _ found.0 c.in-Ok.close _ ran found.3 found.5 c.if-close.false,
        turns_more _ _ _ before.0 found.0 before.3 found.4,
      );
  below = below_limit c.in-Ok.close c.turns.count c.turns.invariant.below c.in-Ok.ensures.last c.if-close.false;
  reads = omega (arith, c.turns.invariant.reads, c.in-Ok.ensures.reads);
  writes = omega (arith, c.turns.invariant.writes, c.in-Ok.ensures.writes);
}

pub returns-then-close-clause-ends : goal.returns-then-close-clause-ends
returns-then-close-clause-ends g c = λ start base.
    let before = c.turns.invariant.ran start base in
    let found = c.in-Ok.ensures.ok start (c.turns.invariant.base ∙ base) in
    let ran = Ran_reply found.1 (turn_text found.0 c.in-Ok.close) before.2 found.2 found.6 in (
      before.0,
      found.0,
      found.1,
      _,
      ap (λ k. k + 1) (sym before.1),
      omega (arith, c.turns.invariant.below),
      Ran_last found.0 c.in-Ok.close ran c.if-close.true,
      turns_more _ _ _ before.0 found.0 before.3 found.4,
      (found.3, c.in-Ok.ensures.kept),
      sym found.5 ∙ c.if-close.true,
    )

pub returns-in-Err-clause-ends : goal.returns-in-Err-clause-ends
returns-in-Err-clause-ends g c = λ start base.
    let before = c.turns.invariant.ran start base in
    let found = c.in-Err.ensures.err start (c.turns.invariant.base ∙ base) in
    stopped start _ _ _ _ _ _ c.in-Err.end c.turns.count c.ended.result before.0 found.0 before.1 c.turns.invariant.below before.2 before.3 found.1 found.2
    (λ is. Rises_earlier _ _ _ c.turns.invariant.reads (c.in-Err.ensures.read_fault (ap Err is)) c.in-Err.ensures.reads)
    (λ is. Rises_earlier _ _ _ c.turns.invariant.writes (c.in-Err.ensures.write_fault (ap Err is)) c.in-Err.ensures.writes)
    c.ended.ensures.ended c.ended.ensures.cut c.ended.ensures.read_fault c.ended.ensures.write_fault

pub returns-then-close-clause-goes : goal.returns-then-close-clause-goes
returns-then-close-clause-goes g c = record {
  reads = omega (arith, c.turns.invariant.reads, c.in-Ok.ensures.reads);
  writes = omega (arith, c.turns.invariant.writes, c.in-Ok.ensures.writes);
}

pub returns-in-Err-clause-goes : goal.returns-in-Err-clause-goes
returns-in-Err-clause-goes g c = record {
  reads = omega (arith, c.turns.invariant.reads, c.in-Err.ensures.reads);
  writes = omega (arith, c.turns.invariant.writes, c.in-Err.ensures.writes);
}
