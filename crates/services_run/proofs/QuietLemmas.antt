-- Visits that call nothing.
use Rattle.std.proofs.Common.{◌≡◌, ℕ, Bool, true, false, nat_lt, if◌then◌else◌, List, [], Option, None, sym, ap, ◌∙◌, subst}
use Rattle.hub_devices.specs.Calls.{Grows}
use Rattle.services_run.specs.Calls.{RunCall, PathCall}
use Rattle.services_run.specs.declared.place.State.{State}
use Rattle.services_run.specs.declared.place.State.TheVariants.{Down, GivenUp}
use Rattle.services_run.specs.declared.place.Outcome.TheVariants.{Quiet}
use Rattle.services_run.specs.declared.place.Place.{Place}
use Rattle.services_run.specs.Rules.{Answers, tending, halting, turn, Visited, tend_turn, tend_runs, tend_paths, halt_turn, halt_runs, halt_paths, begin_turn, begin_runs, begin_paths, next_number}
use Rattle.hub_devices.proofs.CallLemmas.{Grows_none}

abbrev silent : Answers
silent = record { start = true; add = true; delete = true; stop = true; poll = None }

pub no_calls : {A : Type 0} → (r : Option (List A)) (calls : List A) → calls ≡ [] → Grows r calls r
no_calls {A} r calls is = subst (λ (xs : List A). Grows r xs r) (sym is) (Grows_none r)

pub tend_tired : (now last : ℕ) (p : Place) (r : Option (List RunCall)) (q : Option (List PathCall)) → p.state ≡ Down → nat_lt p.tries 5 ≡ false
    → Visited (tending now) last p (turn GivenUp p.tries last Quiet) r r q q
tend_tired now last p r q is tired = record {
  answers = silent;
  turn_is =
      sym (ap (λ (s : State). tend_turn silent now last p.tries s) is
      ∙ ap (λ (b : Bool). if b then begin_turn silent (next_number now last) p.tries else turn GivenUp p.tries last Quiet) tired);
  runs = no_calls r (tend_runs silent now last p p.state)
      (ap (λ (s : State). tend_runs silent now last p s) is
      ∙ ap (λ (b : Bool). if b then begin_runs silent (next_number now last) p else []) tired);
  paths = no_calls q (tend_paths silent now last p p.state)
      (ap (λ (s : State). tend_paths silent now last p s) is
      ∙ ap (λ (b : Bool). if b then begin_paths silent (next_number now last) p else []) tired);
}

pub tend_given_up : (now last : ℕ) (p : Place) (r : Option (List RunCall)) (q : Option (List PathCall)) → p.state ≡ GivenUp
    → Visited (tending now) last p (turn GivenUp p.tries last Quiet) r r q q
tend_given_up now last p r q is = record {
  answers = silent;
  turn_is = sym (ap (λ (s : State). tend_turn silent now last p.tries s) is);
  runs = no_calls r (tend_runs silent now last p p.state) (ap (λ (s : State). tend_runs silent now last p s) is);
  paths = no_calls q (tend_paths silent now last p p.state) (ap (λ (s : State). tend_paths silent now last p s) is);
}

pub halt_down : (last : ℕ) (p : Place) (r : Option (List RunCall)) (q : Option (List PathCall)) → p.state ≡ Down
    → Visited halting last p (turn Down p.tries last Quiet) r r q q
halt_down last p r q is = record {
  answers = silent;
  turn_is = sym (ap (λ (s : State). halt_turn silent last p.tries s) is);
  runs = no_calls r (halt_runs silent p p.state) (ap (λ (s : State). halt_runs silent p s) is);
  paths = no_calls q (halt_paths silent p p.state) (ap (λ (s : State). halt_paths silent p s) is);
}

pub halt_given_up : (last : ℕ) (p : Place) (r : Option (List RunCall)) (q : Option (List PathCall)) → p.state ≡ GivenUp
    → Visited halting last p (turn GivenUp p.tries last Quiet) r r q q
halt_given_up last p r q is = record {
  answers = silent;
  turn_is = sym (ap (λ (s : State). halt_turn silent last p.tries s) is);
  runs = no_calls r (halt_runs silent p p.state) (ap (λ (s : State). halt_runs silent p s) is);
  paths = no_calls q (halt_paths silent p p.state) (ap (λ (s : State). halt_paths silent p s) is);
}
