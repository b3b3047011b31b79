use Rattle.std.proofs.Common.{◌≡◌, take, drop, length, sym, subst, arith, ◌-◌, length-drop, ◌∙◌}
use Rattle.std.proofs.lemmas.List.{take-append-drop, take_rest}
use Rattle.hub_devices.specs.Streams.{Appends}
use Rattle.http_wire.proofs.TookLemmas.{Appends_part}
use Rattle.http_wire.proofs.writes.write_all.Goals as goal

pub writes-preserved : goal.writes-preserved
writes-preserved g c =
    let rest : take (length c.args.bytes.now - c.writes.at) (drop c.writes.at c.args.bytes.now) ≡ drop c.writes.at c.args.bytes.now =
    take_rest c.args.bytes.now c.writes.at in
    let fits = rw rest at c.in-Ok.ensures.fits in record {
      within = omega (arith, fits, length-drop c.writes.at c.args.bytes.now, c.writes.invariant.within);
      appends = Appends_part _ _ _ c.args.bytes.now c.writes.at c.in-Ok.count c.writes.invariant.appends (rw rest at c.in-Ok.ensures.appends);
      open' = λ _.
          sym c.writes.invariant.stays
          ∙ c.in-Ok.ensures.open (rw rest (omega (arith, length-drop c.writes.at c.args.bytes.now)));
      stays = c.in-Ok.ensures.stays ∙ c.writes.invariant.stays;
      counted = omega (arith, c.writes.invariant.counted, c.in-Ok.ensures.counted);
    }

pub returns-in-Err-clause-err : goal.returns-in-Err-clause-err
returns-in-Err-clause-err g c = (
  take c.writes.at c.args.bytes.now,
  drop c.writes.at c.args.bytes.now,
  sym (take-append-drop c.writes.at c.args.bytes.now),
  subst (Appends (g.O.Sink.held c.args.output.now) (take c.writes.at c.args.bytes.now)) (sym c.in-Err.ensures.kept) c.writes.invariant.appends,
)
