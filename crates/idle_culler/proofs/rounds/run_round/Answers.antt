use Rattle.std.proofs.Common.{List, sym, subst}
use Rattle.idle_culler.specs.declared.rules.Cull.{Cull}
use Rattle.idle_culler.proofs.LoopLemmas.{HasRead, round_early, round_late, round_whole}
use Rattle.idle_culler.proofs.rounds.run_round.Goals as goal

pub returns-in-Err-clause-err : goal.returns-in-Err-clause-err
returns-in-Err-clause-err g c =
    round_early g.H.HubLink.asked g.H.HubLink.does c.args.link.now c.read_pages.new.link c.args.token.now c.args.options.now c.args.now c.in-Err.fault
    c.in-Err.ensures.err

pub returns-in-Ok-delete_all-clause-ok : goal.returns-in-Ok-delete_all-clause-ok
returns-in-Ok-delete_all-clause-ok g c =
    let read = subst (λ (list : List Cull). HasRead g.H.HubLink.asked g.H.HubLink.does c.args.link.now c.args.token.now c.args.options.now c.args.now list c.in-Ok.users c.read_pages.new.link)
    (sym c.as_slice.ensures) c.in-Ok.ensures.ok in
    round_whole g.H.HubLink.asked g.H.HubLink.does c.args.link.now c.read_pages.new.link c.delete_all.new.link c.args.token.now c.args.options.now c.args.now
    c.as_slice.result.now c.in-Ok.users c.in-Ok-delete_all.counts read c.in-Ok-delete_all.ensures.ok

pub returns-in-Err-delete_all-clause-err : goal.returns-in-Err-delete_all-clause-err
returns-in-Err-delete_all-clause-err g c =
    let read = subst (λ (list : List Cull). HasRead g.H.HubLink.asked g.H.HubLink.does c.args.link.now c.args.token.now c.args.options.now c.args.now list c.in-Ok.users c.read_pages.new.link)
    (sym c.as_slice.ensures) c.in-Ok.ensures.ok in
    round_late g.H.HubLink.asked g.H.HubLink.does c.args.link.now c.read_pages.new.link c.delete_all.new.link c.args.token.now c.args.options.now c.args.now
    c.as_slice.result.now c.in-Ok.users c.in-Err-delete_all.fault read c.in-Err-delete_all.ensures.err
