use Rattle.std.proofs.Common.{sym, ap, subst, ◌∙◌}
use Rattle.hub_lives.specs.Lives.{Lives}
use Rattle.hub_lives.specs.LiveServers.{LiveServers}
use Rattle.hub_machine.specs.State.{KeepsLeases}
use Rattle.hub_opening.proofs.opening.machine_of.Goals as goal

pub opening-requires-clause-kept : goal.opening-requires-clause-kept
opening-requires-clause-kept c =
    subst (λ (lives : Lives). KeepsLeases c.args.changed.tables lives) (sym (ap (λ (live : LiveServers). live.lives) c.in-Ok.ensures.0)) c.requires.open.kept
