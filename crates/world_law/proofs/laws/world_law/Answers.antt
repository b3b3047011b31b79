use Rattle.std.proofs.Common.{◌*◌, ap, sym, ◌∙◌}
use Rattle.world_law.specs.World.{World}
use Rattle.world_law.specs.Steps.{take, then_step}
use Rattle.world_law.specs.Law.{IsReached}
use Rattle.world_law.proofs.Tables.{none_some}
use Rattle.world_law.proofs.Facts.{Lease, Inv}
use Rattle.world_law.proofs.Views.{as_lease, lease_in, looked, holder}
use Rattle.world_law.proofs.World.{run_keeps, run_on, run_over, ends_over, opened_has, own_phase, entry_listed, half}
use Rattle.world_law.proofs.laws.world_law.Goals as goal

reached : (w : World) → IsReached w → Inv (looked w)
reached w r = run_keeps r.0 w r.2 (opened_has r.0 r.1)

pub returns-clause-leases : goal.returns-clause-leases
returns-clause-leases c w r = let i = reached w r in record {
  targets = λ g h a b e f q. i.targets g h (as_lease a) (as_lease b) (ap lease_in e) (ap lease_in f) q;
  servers = λ g h a b e f q. i.servers g h (as_lease a) (as_lease b) (ap lease_in e) (ap lease_in f) q;
  pooled = λ g a e. i.pooled g (as_lease a) (ap lease_in e);
  below = λ g a e. i.below g (as_lease a) (ap lease_in e);
  phases = λ g a e. own_phase w g a e i;
}

pub returns-clause-routes : goal.returns-clause-routes
returns-clause-routes c w r path route serial h k =
    let l = (reached w r).routes path (record { target = route.entry.target; serial = route.entry.serial }) serial (entry_listed w.table path route h) k in
    let o = holder w.live.lives l.0 l.2.0 l.2.1 in
    record {
      generation = l.0;
      lease = o.0;
      held = o.1;
      number = l.1;
      at = ap (λ (x : Lease). Rattle.world_law.proofs.Facts.path_of x.server) o.2 ∙ l.2.2;
      leads = sym (ap (λ (x : Lease). x.target) o.2 ∙ l.2.3);
    }

pub returns-clause-programs : goal.returns-clause-programs
returns-clause-programs c w r = let i = reached w r in record {
  leased = λ p m. let l = i.programs p m in let o = holder w.live.lives p.generation l.0 l.1 in record {
    lease = o.0;
    held = o.1;
    at = λ j. record { generation = p.generation; server = (ap (λ (x : Lease). x.server) o.2 ∙ l.2) j; target = (ap (λ (x : Lease). x.target) o.2 ∙ l.3) j };
  };
  apart = i.apart;
}

pub returns-clause-over : goal.returns-clause-over
returns-clause-over c w v u g e r t n s path route h k =
    let i = reached w r in
    let o = run_over v u g s (ends_over w v g e t n i) in
    let l = (reached u (r.0, r.1, run_on r.0 v u (then_step r.2 (take t)) s)).routes path (record { target = route.entry.target; serial = route.entry.serial }) (2 * g) (entry_listed u.table path route h) k in
    let x = holder u.live.lives l.0 l.2.0 l.2.1 in
    none_some x.0 (sym o.1 ∙ (ap (Rattle.std.specs.FinMap.get u.live.lives) (half g l.0 l.1) ∙ x.1))

pub returns-clause-spared : goal.returns-clause-spared
returns-clause-spared c w r path g l m e q =
    let o = (reached w r).over (record { path = path; serial = 2 * g }) m in
    o.3 (as_lease l) (ap lease_in (ap (Rattle.std.specs.FinMap.get w.live.lives) (sym (half g o.0 o.1)) ∙ e)) q
