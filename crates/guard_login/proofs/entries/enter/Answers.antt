use Rattle.std.proofs.Common.{◌++◌, true, false, refl}
use Rattle.proxy_wire.specs.Upgrades.{is_upgrade}
use Rattle.proxy_core.specs.Passes.{Place}
use Rattle.carries.specs.Carries.{Sides}
use Rattle.guard_login.proofs.EntryLemmas.{enters_by}
use Rattle.guard_login.proofs.entries.enter.Goals as goal

pub returns-then-is_upgrade-clause-ends : goal.returns-then-is_upgrade-clause-ends
returns-then-is_upgrade-clause-ends g c =
    let judged = c.judge_given-verdict.ensures.judges in
    let carried = c.carry_follow.ensures.ends in
    let sides : g.row.U-Reads.Denot → g.row.U-Writes.Denot → Sides = λ reads writes. record {
      left = g.U.Reads.Source.left reads;
      held = g.U.Writes.Sink.held writes;
      reads = g.U.Reads.Source.faults reads;
      writes = g.U.Writes.Sink.faults writes;
      upper_shut = g.U.Writes.Sink.closed writes;
      lower_shut = g.O.Sink.closed c.carry_follow.new.output;
    } in
    let old : Place = record {
      left = g.I.Source.left c.args.input.now;
      kept = c.args.rooms.now.kept;
      held = g.O.Sink.held c.args.output.now;
      told = g.U.Upstream.told c.args.up.now;
      reads = g.I.Source.faults c.args.input.now;
      links = g.U.Upstream.faults c.args.up.now;
      writes = g.O.Sink.faults c.args.output.now;
    } in
    let new : Place = record {
      left = g.I.Source.left c.carry_follow.new.input;
      kept = carried.0 ++ c.carry_follow.new.rooms.kept;
      held = g.O.Sink.held c.carry_follow.new.output;
      told = g.U.Upstream.told c.carry_follow.new.up;
      reads = g.I.Source.faults c.carry_follow.new.input;
      links = g.U.Upstream.faults c.carry_follow.new.up;
      writes = g.O.Sink.faults c.carry_follow.new.output;
    } in (
      judged.0,
      carried.0,
      judged.1,
      enters_by g.R.Random.left g.R.Random.faults c.args.random.now c.args.random.now sides c.args.door.now true
          (is_upgrade c.args.head.now c.args.framing) c.args.head.now c.args.framing judged.0 (g.H.HubLink.faults c.args.link.now)
          (g.H.HubLink.faults c.judge_given-verdict.new.link) old new c.carried_as.result c.if-is_upgrade.ensures
          (c.carry_follow.result, c.carried_as.ensures, refl, (c.judge_given-verdict.result, judged.2, carried.1)),
    )

pub returns-else-is_upgrade-clause-ends : goal.returns-else-is_upgrade-clause-ends
returns-else-is_upgrade-clause-ends g c =
    let signed = c.sign_in.ensures.ends in
    let sides : g.row.U-Reads.Denot → g.row.U-Writes.Denot → Sides = λ reads writes. record {
      left = g.U.Reads.Source.left reads;
      held = g.U.Writes.Sink.held writes;
      reads = g.U.Reads.Source.faults reads;
      writes = g.U.Writes.Sink.faults writes;
      upper_shut = g.U.Writes.Sink.closed writes;
      lower_shut = g.O.Sink.closed c.sign_in.new.output;
    } in
    let old : Place = record {
      left = g.I.Source.left c.args.input.now;
      kept = c.args.rooms.now.kept;
      held = g.O.Sink.held c.args.output.now;
      told = g.U.Upstream.told c.args.up.now;
      reads = g.I.Source.faults c.args.input.now;
      links = g.U.Upstream.faults c.args.up.now;
      writes = g.O.Sink.faults c.args.output.now;
    } in
    let new : Place = record {
      left = g.I.Source.left c.sign_in.new.input;
      kept = signed.1 ++ c.sign_in.new.rooms.kept;
      held = g.O.Sink.held c.sign_in.new.output;
      told = g.U.Upstream.told c.sign_in.new.up;
      reads = g.I.Source.faults c.sign_in.new.input;
      links = g.U.Upstream.faults c.sign_in.new.up;
      writes = g.O.Sink.faults c.sign_in.new.output;
    } in (
      signed.0,
      signed.1,
      signed.2,
      enters_by g.R.Random.left g.R.Random.faults c.args.random.now c.sign_in.new.random sides c.args.door.now false
          (is_upgrade c.args.head.now c.args.framing) c.args.head.now c.args.framing signed.0 (g.H.HubLink.faults c.args.link.now)
          (g.H.HubLink.faults c.sign_in.new.link) old new c.signed_as.result c.if-is_upgrade.ensures
          (c.sign_in.result, c.signed_as.ensures, signed.3),
    )
