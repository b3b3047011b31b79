use Rattle.std.proofs.Common.{arith, List, map, refl, ap, ◌∙◌, subst}
use Rattle.server_work.specs.declared.work.Work.{Work}
use Rattle.server_work.specs.Adoptions.{Adoptions}
use Rattle.server_work.specs.Chains.{At}
use Rattle.server_work.specs.Gains.{sum_of}
use Rattle.hub_core.specs.LifeBook.{LeadsToLives, Notes}
use Rattle.hub_core.specs.Visits.{Entry}
use Rattle.hub_core.specs.declared.start.Start.{Start}
use Rattle.hub_core.specs.Views.{View, at_chain, view_of}
use Rattle.hub_adopt.specs.Adopting.{work_of}
use Rattle.hub_adopt.proofs.Looking.{all_small, finds, gains_since, looks}
use Rattle.hub_adopt.proofs.adoption.adopt.Goals as goal

pub adopt-told-requires-clause-small : goal.adopt-told-requires-clause-small
adopt-told-requires-clause-small g c =
    all_small c.in_ok-servers.servers.items c.as_slice-2.result.now
    (c.as_slice-2.ensures.value ∙ (c.in_ok-works.ensures ∙ ap (map work_of) c.as_slice.ensures.value))
    c.in_ok-servers.ensures.visit.2.1.1

pub returns-clause-adopted : goal.returns-clause-adopted
returns-clause-adopted g c = λ start base.
    let visit = c.in_ok-servers.ensures.visit in
    let x : View = view_of g.C.Clock.to_come g.R.Random.left g.S.Spawner.calls g.P.RouteLink.calls g.R.Random.faults g.S.Spawner.faults g.P.RouteLink.faults c.args.pass.now c.args.kit.now in
    let z : View = record x { pass = c.visit.new.pass } in
    let y : At Entry Start = record { pass = c.adopt-told.new.pass; spawner = g.S.Spawner.calls c.adopt-told.new.spawner; routes = g.P.RouteLink.calls c.adopt-told.new.routes } in
    let look = looks x c.visit.new.pass visit.0 visit.1 visit.2.0 visit.3 in
    let told = c.adopt-told.ensures.adopted in
    record {
      looked = z;
      looks = look;
      servers = c.in_ok-servers.servers.items;
      found = finds start c.args.pass.now c.visit.new.pass visit.0 visit.1 c.in_ok-servers.servers.items base visit.2.0 visit.3 visit.2.1.0;
      ends = told.0;
      gains = told.1;
      chains = subst (λ (works : List Work). Adoptions LeadsToLives Notes (at_chain z) works told.0 told.1 y)
          (c.as_slice-2.ensures.value ∙ (c.in_ok-works.ensures ∙ ap (map work_of) c.as_slice.ensures.value)) told.2;
      gained = gains_since x z (sum_of told.1) y look told.3;
      ready = told.4;
      stopped = told.5;
      parked = told.6;
      clock = refl {a = x.clock};
      draws = refl {a = x.draws};
      random = refl {a = x.faults.random};
      spawner = c.adopt-told.ensures.spawner_counted;
      routes = c.adopt-told.ensures.routes_counted;
    }

pub returns-clause-counted : goal.returns-clause-counted
returns-clause-counted g c =
    let visit = c.in_ok-servers.ensures.visit.3 in
    let gained = c.adopt-told.ensures.adopted.3 in
    omega (arith, visit.known, visit.grown, visit.count, gained.counted)
