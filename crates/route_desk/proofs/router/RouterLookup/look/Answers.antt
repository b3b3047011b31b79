use Rattle.route_desk.specs.declared.step.Step.TheVariants.{Looked}
use Rattle.route_desk.proofs.StepLemmas.{stepped}
use Rattle.route_desk.proofs.router.RouterLookup.look.Goals as goal

pub returns-clause-found : goal.returns-clause-found
returns-clause-found g c =
    let v = c.visit.ensures.visit in
    stepped c.args.self.now.pass c.visit.new.pass v.0 v.1 (Looked c.args.path.now c.args.now c.visit.result) v.2.0 v.3
