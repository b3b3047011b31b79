use Rattle.std.proofs.Common.{Some, refl, ap, ◌∙◌}
use Rattle.hub_loading.proofs.LinkLemmas.{guarded}
use Rattle.hub_loading.proofs.rounds.ask_guard.Goals as goal

pub returns-clause-guarded : goal.returns-clause-guarded
returns-clause-guarded g c =
    let (asks, kept, chain, ends) = c.guard_direct-ended.ensures.ends in
    guarded c.admitted_by.result _ _ c.args.token.now c.args.key.now c.args.target.now asks _ _ c.guard_direct-ended.result c.requires.user c.requires.server c.requires.word c.requires.short
    (c.new-input.ensures.left ∙ ap Some c.in-Ok.ensures) refl chain ends c.guard_direct-ended.ensures.decided c.admitted_by.ensures
