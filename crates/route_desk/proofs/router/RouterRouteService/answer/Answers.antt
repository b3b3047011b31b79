use Rattle.route_desk.specs.declared.step.Step.TheVariants.{Asked}
use Rattle.route_desk.proofs.StepLemmas.{stepped}
use Rattle.route_desk.proofs.router.RouterRouteService.answer.Goals as goal

pub returns : goal.returns
returns g c =
    let v = c.visit.ensures.visit in
    stepped c.args.self.now.pass c.visit.new.pass v.0 v.1 (Asked c.args.secret.now c.args.now c.args.request.now c.visit.result) v.2 v.3
