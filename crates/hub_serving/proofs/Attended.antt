-- Services from the first round to the end.
use Rattle.std.proofs.Common.{◌≡◌, ℕ, List, Option}
use Rattle.std.proofs.Math.Logic.{∥∥₁_map}
use Rattle.services_run.specs.Book.{Book}
use Rattle.services_run.specs.New.{ArePlaced}
use Rattle.services_run.specs.declared.place.Managed.{Managed}
use Rattle.service_doors.specs.Tending.{ServicesTold, Halts, Tends, Attended}

pub whole : (managed : List Managed) (begun tended ended : Book) (s told s' : ServicesTold) (given given' : Option ℕ) (loose : ℕ)
    → ArePlaced managed begun.places × (begun.last ≡ 0) → ∥ Tends begun s given tended told given' ∥₁ → Halts tended told ended s' loose
    → ∥ Attended managed s given s' given' ∥₁
whole managed begun tended ended s told s' given given' loose placed tended_so halts = ∥∥₁_map tended_so (λ tends. record {
  begun = begun;
  placed = placed;
  tended = tended;
  told = told;
  tends = tends;
  ended = ended;
  loose = loose;
  halts = halts;
})
