use Rattle.std.proofs.Common.{◌≡◌, drop}
use Rattle.std.specs.Prelude.{fold}
use Rattle.hub_opening.specs.Changing.{Leads}
use Rattle.hub_opening.specs.Kept.{generation_given}
use Rattle.hub_opening.proofs.generations.give_at.Given as goal

abbrev pub invariant-loop-target : goal.invariant-loop-target
invariant-loop-target l = record {
  folded : fold generation_given l.changed.tables (drop l.target-index l.targets) ≡ fold generation_given l.fn.changed.tables l.targets;
  leads : Leads l.fn.changed l.changed;
}
