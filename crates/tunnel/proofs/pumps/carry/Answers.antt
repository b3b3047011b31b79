use Rattle.std.proofs.Common.{rules, ◌≡◌, ℕ, ◌<◌, ◌≤◌, ◌+◌, ◌-◌, length, take, drop, arith, subst, List, ◌++◌}
use Rattle.std.proofs.lemmas.List.{take-append-le, length-take-le}
use Rattle.hub_devices.specs.Streams.{Appends}
use Rattle.tunnel.proofs.FlowLemmas.{Flowed, cut_at_first, cut_later, flowed_more}
use Rattle.tunnel.proofs.pumps.carry.Goals as goal

pub returns-in-Err-clause-passed : goal.returns-in-Err-clause-passed
returns-in-Err-clause-passed g c =
    cut_at_first _ _ _ c.args.first.now c.args.most c.min.result c.in-Err.count (search rules) (search rules) c.in-Err.ensures.part.0 c.in-Err.ensures.part.1

pub turns-preserved : goal.turns-preserved
turns-preserved g c =
    let got = take c.in-Ok.count c.read.new.into in
    let same : take c.in-Ok.count (c.read.new.into ++ drop c.min-room.result c.turns.buffer) ≡ got =
    take-append-le c.in-Ok.count c.read.new.into (drop c.min-room.result c.turns.buffer) c.in-Ok.ensures.fits in
    let size : length got ≡ c.in-Ok.count = length-take-le c.in-Ok.count c.read.new.into c.in-Ok.ensures.fits in
    let room : c.in-Ok.count ≤ c.args.most - c.turns.passed = search rules in record {
      flowed =
          subst (λ (n : ℕ). Flowed (g.I.Source.left c.args.input.now) (g.O.Sink.held c.args.output.now) (g.I.Source.left c.read.new.self)
          (g.O.Sink.held c.send-in-Ok.new.output) c.args.first.now c.args.most (c.turns.passed + n)) size
          (flowed_more _ _ _ _ _ _ c.args.first.now got c.args.most c.turns.passed c.turns.invariant.flowed c.turns-test.true
          (omega (arith, size, room)) c.in-Ok.ensures.takes
          (subst (λ (bytes : List ℕ). Appends (g.O.Sink.held c.turns.output) bytes (g.O.Sink.held c.send-in-Ok.new.output)) same c.in-Ok-send.ensures.ok));
      room = search rules;
      reads = omega (arith, c.turns.invariant.reads, c.in-Ok.ensures.counted);
      writes = omega (arith, c.turns.invariant.writes, c.in-Ok-send.ensures.counted);
    }

pub returns-in-Err-send-clause-passed : goal.returns-in-Err-send-clause-passed
returns-in-Err-send-clause-passed g c =
    let got = take c.in-Ok.count c.read.new.into in
    let part = c.in-Err-send.part in
    let same : take c.in-Ok.count (c.read.new.into ++ drop c.min-room.result c.turns.buffer) ≡ got =
    take-append-le c.in-Ok.count c.read.new.into (drop c.min-room.result c.turns.buffer) c.in-Ok.ensures.fits in
    let size : length got ≡ c.in-Ok.count = length-take-le c.in-Ok.count c.read.new.into c.in-Ok.ensures.fits in
    let room : c.in-Ok.count ≤ c.args.most - c.turns.passed = search rules in
    cut_later _ _ _ _ _ _ c.args.first.now got c.args.most c.turns.passed part c.turns.invariant.flowed c.turns-test.true
    (omega (arith, size, room)) c.in-Ok.ensures.takes
    (subst (λ (bytes : List ℕ). part < length bytes) same c.in-Err-send.ensures.part.0)
    (subst (λ (bytes : List ℕ). Appends (g.O.Sink.held c.turns.output) (take part bytes) (g.O.Sink.held c.send-in-Ok.new.output)) same c.in-Err-send.ensures.part.1)
