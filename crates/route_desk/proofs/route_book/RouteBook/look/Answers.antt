use Rattle.std.proofs.Common.{rules, ◌≡◌, ◌+◌, List, [], ◌∷◌, ◌++◌, length, ap, subst, sym, arith, length-append}
use Rattle.route_desk.specs.declared.step.Step.{Step}
use Rattle.route_desk.specs.declared.step.Step.TheVariants.{Looked}
use Rattle.route_desk.specs.History.{Leads, Standing, Steps, IsUnmade}
use Rattle.route_desk.proofs.StepLemmas.{leads_on, not_made}
use Rattle.route_desk.proofs.route_book.RouteBook.look.Goals as goal

pub invariant_of-self : goal.invariant_of-self
invariant_of-self c =
    let step = Looked c.args.path.now c.args.now c.look-answer.result in
    let past : c.note_look.new.self ≡ c.self.inside.past ++ step ∷ [] = c.note_look.ensures in (
      subst (λ (xs : List Step). Leads c.self.inside.first.value xs c.look-answer.new.self) (sym past)
          (leads_on c.self.inside.first.value c.self.inside.past c.self.inside.routes step c.look-answer.new.self c.self.invariant.0 c.look-answer.ensures.found),
      omega (arith, ap length past, length-append c.self.inside.past (step ∷ []), c.self.invariant.1),
      search rules,
    )

pub returns-then-self-ge-MOST-clause-steps : goal.returns-then-self-ge-MOST-clause-steps
returns-then-self-ge-MOST-clause-steps c =
    let step = Looked c.args.path.now c.args.now c.look_untold.result in
    subst (λ (b : Standing). Steps b step b) c.self.view_is (
    not_made (record { first = c.self.inside.first.value; past = c.self.inside.past; table = c.self.inside.routes }) step
    (omega (arith, c.self.invariant.1, c.if-self-ge-MOST.true))
    c.self.invariant.0
    (subst (λ (b : Standing). IsUnmade b.table step) (sym c.self.view_is) (c.look_untold.ensures.unmade c.args.now))
    )
