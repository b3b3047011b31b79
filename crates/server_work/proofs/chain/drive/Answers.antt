use Rattle.std.proofs.Common.{rules, ◌≡◌, ◌≢◌, ◌≤◌, ◌<◌, ◌+◌, ℕ, Some, refl, sym, ap, ◌∙◌, arith, [], ◌∷◌, ◌++◌}
use Rattle.server_life.specs.declared.life.Todo.TheVariants.{Nothing}
use Rattle.server_work.specs.declared.work.Device.TheVariants as Device
use Rattle.server_work.proofs.Driving.{drove_none, drove_on, told_on, owes_less, owes_no_start, drove_broken, drove_ended, caused_on, stopped_on}
use Rattle.server_work.proofs.Running.{keeps_same, keeps_then, keeps_sets}
use Rattle.server_work.proofs.chain.drive.Goals as goal

pub steps-init : goal.steps-init
steps-init g c = record {
  drove = ([], drove_none g.B.LifeBook.reached g.B.LifeBook.notes c.args.work.now _ c.args.first, c.new-tale.ensures);
  of = c.requires.of;
  some = c.requires.owed;
  secret = c.requires.secret;
  others = keeps_same _ c.args.work.now.generation _ refl;
  spawner_counted = omega arith;
  routes_counted = omega arith;
  spawner_cause = λ e. absurd (cc (e, ap (λ t. t.failed) c.new-tale.ensures));
  routes_cause = λ e. absurd (cc (e, ap (λ t. t.failed) c.new-tale.ensures));
}

pub steps-smaller : goal.steps-smaller
steps-smaller g c = owes_less g.B.LifeBook.reached g.B.LifeBook.notes _ _ c.args.work.now.generation c.ask-outcome.result c.in-Ok.lived c.steps.owed
    c.in-Ok.ensures.took c.ask-outcome.ensures.of c.steps.invariant.some

pub steps-preserved : goal.steps-preserved
steps-preserved g c =
    let m = c.in-Ok.ensures.took in
    let d = c.steps.invariant.drove in
    record {
      drove = (
        d.0 ++ m.step ∷ [],
        drove_on g.B.LifeBook.reached g.B.LifeBook.notes c.args.work.now _ _ _ c.args.first c.steps.owed d.0 c.ask-outcome.result c.in-Ok.lived
            d.1 c.ask-outcome.ensures.of c.ask-outcome.ensures.spawner c.ask-outcome.ensures.routes m,
        told_on g.B.LifeBook.reached g.B.LifeBook.notes _ _ _ d.0 c.ask-outcome.result c.in-Ok.lived m c.steps.tale c.with-tale.result d.2 c.with-tale.ensures,
      );
      of = m.same.0 ∙ c.steps.invariant.of;
      some = search rules;
      secret = λ start. absurd (owes_no_start g.B.LifeBook.reached g.B.LifeBook.notes _ _ c.args.work.now.generation c.ask-outcome.result c.in-Ok.lived c.steps.owed
          m c.ask-outcome.ensures.of c.steps.invariant.some start);
      others = keeps_then _ _ _ c.args.work.now.generation c.steps.invariant.others c.ask-outcome.ensures.others;
      spawner_counted = omega (arith, c.steps.invariant.spawner_counted, c.ask-outcome.ensures.spawner_counted);
      routes_counted = omega (arith, c.steps.invariant.routes_counted, c.ask-outcome.ensures.routes_counted);
      spawner_cause = caused_on c.steps.tale c.with-tale.result c.ask-outcome.result c.in-Ok.lived Device.Spawner _ _ _ c.with-tale.ensures
          c.steps.invariant.spawner_counted c.ask-outcome.ensures.spawner_counted c.steps.invariant.spawner_cause c.ask-outcome.ensures.spawner_cause;
      routes_cause = caused_on c.steps.tale c.with-tale.result c.ask-outcome.result c.in-Ok.lived Device.Proxy _ _ _ c.with-tale.ensures
          c.steps.invariant.routes_counted c.ask-outcome.ensures.routes_counted c.steps.invariant.routes_cause c.ask-outcome.ensures.routes_cause;
    }

pub returns-then-is_nothing-clause-ends : goal.returns-then-is_nothing-clause-ends
returns-then-is_nothing-clause-ends g c =
    let m = c.in-Ok.ensures.took in
    let d = c.steps.invariant.drove in
    let none : c.in-Ok.lived.todo ≡ Nothing = search rules in
    drove_ended g.B.LifeBook.reached g.B.LifeBook.notes c.args.work.now _ _ c.args.first c.in-Ok.lived.todo (d.0 ++ m.step ∷ []) c.with-tale.result
    (drove_on g.B.LifeBook.reached g.B.LifeBook.notes c.args.work.now _ _ _ c.args.first c.steps.owed d.0 c.ask-outcome.result c.in-Ok.lived
    d.1 c.ask-outcome.ensures.of c.ask-outcome.ensures.spawner c.ask-outcome.ensures.routes m)
    none
    (told_on g.B.LifeBook.reached g.B.LifeBook.notes _ _ _ d.0 c.ask-outcome.result c.in-Ok.lived m c.steps.tale c.with-tale.result d.2 c.with-tale.ensures)

pub returns-in-Err-clause-ends : goal.returns-in-Err-clause-ends
returns-in-Err-clause-ends g c =
    let d = c.steps.invariant.drove in
    drove_broken g.B.LifeBook.reached g.B.LifeBook.notes c.args.work.now _ _ _ c.args.first c.steps.owed d.0 c.ask-outcome.result
    d.1 c.steps.invariant.some c.ask-outcome.ensures.of c.ask-outcome.ensures.spawner c.ask-outcome.ensures.routes c.in-Err.ensures.took

pub returns-then-is_nothing-clause-spawner_cause : goal.returns-then-is_nothing-clause-spawner_cause
returns-then-is_nothing-clause-spawner_cause g c = caused_on c.steps.tale c.with-tale.result c.ask-outcome.result c.in-Ok.lived Device.Spawner _ _ _ c.with-tale.ensures
    c.steps.invariant.spawner_counted c.ask-outcome.ensures.spawner_counted c.steps.invariant.spawner_cause c.ask-outcome.ensures.spawner_cause

pub returns-then-is_nothing-clause-routes_cause : goal.returns-then-is_nothing-clause-routes_cause
returns-then-is_nothing-clause-routes_cause g c = caused_on c.steps.tale c.with-tale.result c.ask-outcome.result c.in-Ok.lived Device.Proxy _ _ _ c.with-tale.ensures
    c.steps.invariant.routes_counted c.ask-outcome.ensures.routes_counted c.steps.invariant.routes_cause c.ask-outcome.ensures.routes_cause

pub returns-then-is_nothing-clause-of : goal.returns-then-is_nothing-clause-of
returns-then-is_nothing-clause-of g c = c.in-Ok.ensures.took.same.0 ∙ c.steps.invariant.drove.1.same.0

pub returns-in-Err-clause-of : goal.returns-in-Err-clause-of
returns-in-Err-clause-of g c = c.in-Err.ensures.took.same.0 ∙ c.steps.invariant.drove.1.same.0

pub returns-then-is_nothing-clause-others : goal.returns-then-is_nothing-clause-others
returns-then-is_nothing-clause-others g c = keeps_then _ _ _ c.args.work.now.generation c.steps.invariant.others c.ask-outcome.ensures.others

pub returns-in-Err-clause-others : goal.returns-in-Err-clause-others
returns-in-Err-clause-others g c = keeps_then _ _ _ c.args.work.now.generation c.steps.invariant.others c.ask-outcome.ensures.others

pub returns-then-is_nothing-clause-gone : goal.returns-then-is_nothing-clause-gone
returns-then-is_nothing-clause-gone g c = λ stopped.
    keeps_sets _ _ _ c.args.work.now.generation _ c.steps.invariant.others
    (c.ask-outcome.ensures.gone (stopped_on c.steps.tale c.with-tale.result c.ask-outcome.result c.in-Ok.lived c.with-tale.ensures stopped))
