use Rattle.std.proofs.Common.{◌≤◌, ◌^◌, sym, ap, subst, ◌∙◌}
use Rattle.hub_rows.specs.declared.limits.Limits.{Limits}
use Rattle.hub_tables.specs.State.{State}
use Rattle.hub_opening.specs.Adopting.{IsOpenable}
use Rattle.hub_opening.proofs.Fitting.{opened_openable}
use Rattle.hub_opening.proofs.Opened.{opened_limits}
use Rattle.hub_opening.proofs.opening.make_pooled.Goals as goal

pub machine_of-requires-clause-open : goal.machine_of-requires-clause-open
machine_of-requires-clause-open c =
    subst (λ (t : State). IsOpenable c.args.config.now.pool t) (sym c.in-Ok.ensures.tables)
    (opened_openable c.args.config.now c.args.now c.args.tables c.requires.leasable c.requires.pooled c.requires.pool.few)

pub machine_of-requires-clause-limit : goal.machine_of-requires-clause-limit
machine_of-requires-clause-limit c =
    subst (λ (l : Limits). l.trail_bytes ≤ 2 ^ 62) (sym (ap (λ (t : State). t.limits) c.in-Ok.ensures.tables ∙ opened_limits c.args.config.now c.args.now c.args.tables)) c.requires.limit
