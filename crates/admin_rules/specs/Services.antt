-- The calls that add and delete services.
use Rattle.std.specs.Prelude.{ℕ, List, [], ◌∷◌, Ok, if◌then◌else◌}
use Rattle.std.specs.FinMap.{contains_key, len}
use Rattle.hub_rows.specs.declared.changes.RowChange.TheVariants.{Put}
use Rattle.hub_rows.specs.declared.rows.Row.TheVariants as Row
use Rattle.hub_tables.specs.State.{State}
use Rattle.admin_rules.specs.declared.refusals.RuleRefusal.TheVariants.{Exists}
use Rattle.admin_rules.specs.Purges.{service_rows}
use Rattle.admin_rules.specs.Rules.{Answer, by_rules, if_so, if_full}

abbrev pub add_service : State → List ℕ → Answer
add_service s service =
    by_rules (
    if_so (contains_key s.services service) (Exists service)
    ∷ if_full 3 s.limits.services (len s.services) 1
    ∷ [])
    (Put (Row.Service (record { name = service })) ∷ [])

abbrev pub delete_service : State → List ℕ → Answer
delete_service s service = Ok (if contains_key s.services service then service_rows s service else [])
