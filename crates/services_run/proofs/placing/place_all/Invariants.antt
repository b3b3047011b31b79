use Rattle.services_run.specs.New.{ArePlaced}
use Rattle.services_run.proofs.placing.place_all.Given as goal

abbrev pub invariant-list : goal.invariant-list
invariant-list l = record { placed : ArePlaced l.yielded l.places.items }
