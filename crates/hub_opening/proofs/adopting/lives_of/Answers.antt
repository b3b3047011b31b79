use Rattle.std.proofs.Common.{◌∙◌, ap}
use Rattle.std.specs.Prelude.{fold}
use Rattle.std.specs.FinMap.{values, empty}
use Rattle.hub_lives.specs.LiveServers.{LiveServers}
use Rattle.hub_machine.specs.State.{next_generation}
use Rattle.hub_opening.specs.Adopting.{with_lease}
use Rattle.hub_opening.specs.Kept.{lives_in}
use Rattle.hub_opening.proofs.Fitting.{leases_adopted, begins}
use Rattle.hub_opening.proofs.adopting.lives_of.Goals as goal

pub returns : goal.returns
returns c =
    let leases = values c.args.changed.now.tables.leases in
    c.in_ok-adopt_all.ensures
    ∙ ap (λ (live : LiveServers). fold with_lease live leases) (begins c.args.pool.now c.in_ok-copy.field-0 c.in_ok-next.next c.args.changed.now.tables c.in_ok-lives.lives c.in_ok-lives.ensures c.in_ok-copy.ensures c.in_ok-next.ensures)
    ∙ leases_adopted leases (record { pool = c.args.pool.now; lives = empty; next = next_generation c.args.changed.now.tables })
