-- Which objects of one kind a grant admits an action on, by their names.
use Rattle.std.specs.Prelude.{Bool, true}
use Rattle.std.specs.declared.cmp.Ordering.{Ordering}
use Rattle.keyed_rows.specs.Sorted.{is_among}
use Rattle.scope_meet.specs.declared.admitted.Admitted.{Admitted}
use Rattle.scope_meet.specs.declared.admitted.Admitted.TheVariants.{Every, These}

-- the object of this name is one of them
abbrev pub is_admitted : {K : Type 0} → (K → K → Ordering) → Admitted K → K → Bool
is_admitted R Every name = true
is_admitted R (These names) name = is_among R name names
