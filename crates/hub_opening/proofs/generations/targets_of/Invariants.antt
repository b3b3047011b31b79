use Rattle.std.proofs.Common.{◌≡◌, ◌++◌, map}
use Rattle.hub_rows.specs.declared.records.Lease.{Lease}
use Rattle.hub_opening.proofs.generations.targets_of.Given as goal

abbrev pub invariant-loop-lease : goal.invariant-loop-lease
invariant-loop-lease l = l.targets.items ++ map (λ (x : Lease). x.target) l.lease-iterator ≡ map (λ (x : Lease). x.target) l.initial.lease-iterator
