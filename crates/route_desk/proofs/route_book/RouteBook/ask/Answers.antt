use Rattle.std.proofs.Common.{rules, ◌≡◌, ◌+◌, List, [], ◌∷◌, ◌++◌, length, ap, subst, sym, arith, length-append, refl}
use Rattle.proxy_api.specs.declared.calls.ApiRefusal.TheVariants.{Memory}
use Rattle.proxy_api.specs.declared.texts.ApiReply.TheVariants.{Refused}
use Rattle.route_desk.specs.declared.step.Step.{Step}
use Rattle.route_desk.specs.declared.step.Step.TheVariants.{Asked}
use Rattle.route_desk.specs.History.{Leads, Standing, Steps}
use Rattle.route_desk.proofs.StepLemmas.{leads_on, not_made}
use Rattle.route_desk.proofs.route_book.RouteBook.ask.Goals as goal

pub invariant_of-self : goal.invariant_of-self
invariant_of-self c =
    let step = Asked c.args.secret.now c.args.now c.args.request.now c.answer-reply.result in
    let past : c.note_asked.new.self ≡ c.self.inside.past ++ step ∷ [] = c.note_asked.ensures in (
      subst (λ (xs : List Step). Leads c.self.inside.first.value xs c.answer-reply.new.self) (sym past)
          (leads_on c.self.inside.first.value c.self.inside.past c.self.inside.routes step c.answer-reply.new.self c.self.invariant.0 c.answer-reply.ensures),
      omega (arith, ap length past, length-append c.self.inside.past (step ∷ []), c.self.invariant.1),
      search rules,
    )

pub returns-then-self-ge-MOST : goal.returns-then-self-ge-MOST
returns-then-self-ge-MOST c =
    let step = Asked c.args.secret.now c.args.now c.args.request.now (Refused Memory) in
    subst (λ (b : Standing). Steps b step b) c.self.view_is (
    not_made (record { first = c.self.inside.first.value; past = c.self.inside.past; table = c.self.inside.routes }) step
    (omega (arith, c.self.invariant.1, c.if-self-ge-MOST.true))
    c.self.invariant.0
    refl
    )
