use Rattle.std.proofs.Common.{◌<◌, ℕ, List, subst}
use Rattle.services_run.specs.declared.place.Managed.{Managed}
use Rattle.services_run.specs.New.{IsRepeated}
use Rattle.services_run.proofs.NewLemmas.{book_new}
use Rattle.services_run.proofs.services.Services.new.Goals as goal

pub returns-in-Some-clause-err : goal.returns-in-Some-clause-err
returns-in-Some-clause-err c =
    subst (λ (ms : List Managed). IsRepeated ms c.in-Some.at × ((i : ℕ) → i < c.in-Some.at → ¬ (IsRepeated ms i))) c.as_slice.ensures.value c.in-Some.ensures

pub invariant_of-result : goal.invariant_of-result
invariant_of-result c =
    book_new c.args.list.items c.in-Ok.places.items c.requires
    (subst (λ (ms : List Managed). (i : ℕ) → ¬ (IsRepeated ms i)) c.as_slice.ensures.value c.in_default.ensures) c.in-Ok.ensures

pub returns-in-Ok-clause-apart : goal.returns-in-Ok-clause-apart
returns-in-Ok-clause-apart c =
    subst (λ (ms : List Managed). (i : ℕ) → ¬ (IsRepeated ms i)) c.as_slice.ensures.value c.in_default.ensures

pub returns-in-Ok-clause-lawful : goal.returns-in-Ok-clause-lawful
returns-in-Ok-clause-lawful c =
    let b =
    book_new c.args.list.items c.in-Ok.places.items c.requires
    (subst (λ (ms : List Managed). (i : ℕ) → ¬ (IsRepeated ms i)) c.as_slice.ensures.value c.in_default.ensures) c.in-Ok.ensures in
    (b.distinct, b.paths)
