use Rattle.std.proofs.lemmas.Result.{on_ok_weaker}
use Rattle.proxy_core.proofs.JoinLemmas.{both_err, gave_both, gave_part, gave_front, gave_rest, gave_apart}
use Rattle.proxy_core.proofs.passes.give_head.Goals as goal

pub returns-then-put_front-clause-ok : goal.returns-then-put_front-clause-ok
returns-then-put_front-clause-ok g c =
    on_ok_weaker c.write_first.result (λ ok.
    gave_both (g.O.Sink.held c.args.output.now) (g.O.Sink.held c.write_first.new.output) c.args.text.now c.args.back.now c.put_front.new.self c.write_first.new.window
    c.args.n (c.put_front.ensures.put c.if-put_front.true) ok.0 ok.1) c.write_first.ensures.ok

pub returns-then-put_front-clause-err : goal.returns-then-put_front-clause-err
returns-then-put_front-clause-err g c =
    both_err c.write_first.result (λ same e.
    gave_part (g.O.Sink.held c.args.output.now) (g.O.Sink.held c.write_first.new.output) c.args.text.now c.args.back.now c.put_front.new.self c.write_first.new.window
    e.0 e.1 c.args.n (c.put_front.ensures.put c.if-put_front.true) same e.2 e.3) c.write_first.ensures.kept c.write_first.ensures.err

pub returns-in-Ok-clause-ok : goal.returns-in-Ok-clause-ok
returns-in-Ok-clause-ok g c =
    on_ok_weaker c.write_first-in-Ok.result (λ ok.
    gave_apart (g.O.Sink.held c.args.output.now) (g.O.Sink.held c.write_all.new.output) (g.O.Sink.held c.write_first-in-Ok.new.output)
    c.args.text.now c.args.back.now c.put_front.new.self c.write_first-in-Ok.new.window c.args.n (c.put_front.ensures.kept c.if-put_front.false) ok.0
    c.in-Ok.ensures.ok ok.1) c.write_first-in-Ok.ensures.ok

pub returns-in-Ok-clause-err : goal.returns-in-Ok-clause-err
returns-in-Ok-clause-err g c =
    both_err c.write_first-in-Ok.result (λ same e.
    gave_rest (g.O.Sink.held c.args.output.now) (g.O.Sink.held c.write_all.new.output) (g.O.Sink.held c.write_first-in-Ok.new.output)
    c.args.text.now c.args.back.now c.put_front.new.self c.write_first-in-Ok.new.window e.0 e.1 c.args.n (c.put_front.ensures.kept c.if-put_front.false) same
    c.in-Ok.ensures.ok e.2 e.3) c.write_first-in-Ok.ensures.kept c.write_first-in-Ok.ensures.err

pub returns-in-Err-clause-err : goal.returns-in-Err-clause-err
returns-in-Err-clause-err g c =
    let e = c.in-Err.ensures.err in
    gave_front (g.O.Sink.held c.args.output.now) (g.O.Sink.held c.write_all.new.output) c.args.text.now c.args.back.now e.0 e.1 c.args.n e.2 e.3
