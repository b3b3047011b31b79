use Rattle.std.proofs.Common.{◌≡◌, ◌++◌}
use Rattle.admin_rules.specs.Purges.{changes_of}
use Rattle.admin_rules.proofs.purges.purge_rows.Given as goal

-- the changes so far, and those of the rows to come
abbrev pub invariant-loop-row : goal.invariant-loop-row
invariant-loop-row g l =
    l.changes.items ++ changes_of (g.P.Purge.takes l.gone) (g.P.Purge.makes l.gone) l.row-iterator
    ≡ l.initial.changes.items ++ changes_of (g.P.Purge.takes l.gone) (g.P.Purge.makes l.gone) l.initial.row-iterator
