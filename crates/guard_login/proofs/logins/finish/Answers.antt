use Rattle.std.proofs.Common.{[], ◌++◌, None, refl}
use Rattle.proxy_core.specs.Passes.{Place}
use Rattle.guard_login.specs.declared.steps.Step.TheVariants.{Pass, Start}
use Rattle.guard_login.proofs.LoginLemmas.{finishes_by, started_ends}
use Rattle.guard_login.proofs.logins.finish.Goals as goal

pub returns-in-Pass-clause-ends : goal.returns-in-Pass-clause-ends
returns-in-Pass-clause-ends g c =
    let passed = c.pass_on.ensures.ends in
    let old : Place = record {
      left = g.I.Source.left c.args.input.now;
      kept = c.args.rooms.now.kept;
      held = g.O.Sink.held c.args.output.now;
      told = g.U.Upstream.told c.args.up.now;
      reads = g.I.Source.faults c.args.input.now;
      links = g.U.Upstream.faults c.args.up.now;
      writes = g.O.Sink.faults c.args.output.now;
    } in
    let new : Place = record {
      left = g.I.Source.left c.pass_on.new.input;
      kept = passed.0 ++ c.pass_on.new.rooms.kept;
      held = g.O.Sink.held c.pass_on.new.output;
      told = g.U.Upstream.told c.pass_on.new.up;
      reads = g.I.Source.faults c.pass_on.new.input;
      links = g.U.Upstream.faults c.pass_on.new.up;
      writes = g.O.Sink.faults c.pass_on.new.output;
    } in (
      passed.0,
      finishes_by g.R.Random.left g.R.Random.faults c.args.random.now c.args.random.now c.args.door.now c.args.head.now c.args.framing
          c.args.step.now Pass old new c.carrying.result c.in-Pass.is (None, refl, (c.pass_on.result, passed.1, c.carrying.ensures)),
    )

pub returns-in-Deny-clause-ends : goal.returns-in-Deny-clause-ends
returns-in-Deny-clause-ends g c =
    let old : Place = record {
      left = g.I.Source.left c.args.input.now;
      kept = c.args.rooms.now.kept;
      held = g.O.Sink.held c.args.output.now;
      told = g.U.Upstream.told c.args.up.now;
      reads = g.I.Source.faults c.args.input.now;
      links = g.U.Upstream.faults c.args.up.now;
      writes = g.O.Sink.faults c.args.output.now;
    } in
    let new : Place = record old { held = g.O.Sink.held c.deny.new.output; writes = g.O.Sink.faults c.deny.new.output } in (
      [],
      finishes_by g.R.Random.left g.R.Random.faults c.args.random.now c.args.random.now c.args.door.now c.args.head.now c.args.framing
          c.args.step.now _ old new c.deny.result c.in-Deny.is
          (None, refl, (record { left = refl; kept = refl; told = refl }, c.deny.ensures.written)),
    )

pub returns-in-Start-clause-ends : goal.returns-in-Start-clause-ends
returns-in-Start-clause-ends g c =
    let starts = c.start.ensures.starts in
    let old : Place = record {
      left = g.I.Source.left c.args.input.now;
      kept = c.args.rooms.now.kept;
      held = g.O.Sink.held c.args.output.now;
      told = g.U.Upstream.told c.args.up.now;
      reads = g.I.Source.faults c.args.input.now;
      links = g.U.Upstream.faults c.args.up.now;
      writes = g.O.Sink.faults c.args.output.now;
    } in
    let new : Place = record old { held = g.O.Sink.held c.start.new.output; writes = g.O.Sink.faults c.start.new.output } in (
      [],
      finishes_by g.R.Random.left g.R.Random.faults c.args.random.now c.start.new.random c.args.door.now c.args.head.now c.args.framing
          c.args.step.now Start old new c.start.result c.in-Start.is (
            starts.0,
            starts.1,
            started_ends c.args.door.now c.args.head.now c.args.framing starts.0 old new c.start.result
                (record { left = refl; kept = refl; told = refl }) starts.2,
          ),
    )

pub returns-in-Give-clause-ends : goal.returns-in-Give-clause-ends
returns-in-Give-clause-ends g c =
    let old : Place = record {
      left = g.I.Source.left c.args.input.now;
      kept = c.args.rooms.now.kept;
      held = g.O.Sink.held c.args.output.now;
      told = g.U.Upstream.told c.args.up.now;
      reads = g.I.Source.faults c.args.input.now;
      links = g.U.Upstream.faults c.args.up.now;
      writes = g.O.Sink.faults c.args.output.now;
    } in
    let new : Place = record old { held = g.O.Sink.held c.give.new.output; writes = g.O.Sink.faults c.give.new.output } in (
      [],
      finishes_by g.R.Random.left g.R.Random.faults c.args.random.now c.args.random.now c.args.door.now c.args.head.now c.args.framing
          c.args.step.now _ old new c.give.result c.in-Give.is
          (None, refl, (record { left = refl; kept = refl; told = refl }, c.give.ensures.gives)),
    )
