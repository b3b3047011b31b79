use Rattle.std.proofs.Common.{ap, subst, sym}
use Rattle.store_thread.specs.declared.mailbox.Talk.{Talk}
use Rattle.store_thread.specs.Mailbox.{exchange}
use Rattle.store_thread.specs.Told.{IsFaithful, known_of}
use Rattle.store_thread.proofs.Running.{makes_faithful, at_rest, gave_went, untaken_went}
use Rattle.store_thread.proofs.store_thread.answer_one.Goals as goal

pub give-requires : goal.give-requires
give-requires g c =
    let b = g.K.Keeper in
    let k' = c.answer-said.new.store in (
      c.in-Some.call,
      ap (λ (t : Talk). t.asked) c.in-Some.ensures.1,
      subst (λ (t : Talk). IsFaithful (known_of t.seen) (exchange c.in-Some.call c.answer-said.result (b.is_told k'))) (sym c.in-Some.ensures.1)
          (makes_faithful b.Tells b.rows b.is_told b.faults b.Chooses g.met.K.Keeper.decides c.requires.0 c.args.store.now k' c.args.end.now.seen c.in-Some.call c.answer-said.result
          (at_rest b.Tells b.rows b.is_told b.faults b.Chooses g.met.K.Keeper.decides c.requires.0 c.args.store.now c.args.end.now c.in-Some.ensures.0 c.requires.1) c.answer-said.ensures),
    )

pub returns : goal.returns
returns g c began went =
    let b = g.K.Keeper in
    gave_went b.Tells b.rows b.is_told b.faults b.Chooses g.met.K.Keeper.decides began c.args.store.now c.answer-said.new.store c.give.result c.args.end.now c.take.new.self c.give.new.end c.in-Some.call
    c.answer-said.result c.in-Some.ensures.0 c.in-Some.ensures.1 c.give.ensures went c.answer-said.ensures

pub returns-in_default : goal.returns-in_default
returns-in_default g c began went =
    let b = g.K.Keeper in
    untaken_went b.Tells b.rows b.is_told b.faults b.Chooses g.met.K.Keeper.decides began c.args.store.now c.args.end.now c.take.new.self c.in_default.ensures went
