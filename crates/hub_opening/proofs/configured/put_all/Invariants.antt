use Rattle.std.proofs.Common.{◌≡◌, drop}
use Rattle.std.specs.Prelude.{fold}
use Rattle.hub_opening.specs.Changing.{Leads}
use Rattle.hub_opening.proofs.configured.put_all.Given as goal

abbrev pub invariant-loop-row : goal.invariant-loop-row
invariant-loop-row g l = record {
  folded : fold (g.C.Configured.put l.now) l.changed.tables (drop l.row-index l.rows) ≡ fold (g.C.Configured.put l.now) l.fn.changed.tables l.rows;
  leads : Leads l.fn.changed l.changed;
}
