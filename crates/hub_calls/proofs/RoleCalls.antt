-- The calls on roles: none is answered by a 503.
use Rattle.std.proofs.Common.{◌≡◌, ◌==◌, ℕ, Bool, true, false, cond, List, refl}
use Rattle.std.specs.FinMap.{contains_key}
use Rattle.hub_rows.specs.declared.records.Role.{Role}
use Rattle.admin_rules.specs.Roles as roles
use Rattle.hub_view.specs.Records.{role_body}
use Rattle.hub_machine.specs.State.{Hub}
use Rattle.hub_machine.specs.Replies.{good}
use Rattle.hub_calls.specs.Calling.{done}
use Rattle.hub_calls.specs.RoleCalls as calls
use Rattle.hub_machine.proofs.Statuses.{is_503}
use Rattle.hub_calls.proofs.Statuses.{ruled}

put_or_made : (b : Bool) → (cond b 200 201 == 503) ≡ false
put_or_made true = refl
put_or_made false = refl

pub put_role : (s : Hub) (role : Role) → is_503 (calls.put_role s role) ≡ false
put_role s role =
    ruled s (roles.put_role s.tables role) (λ after. good (cond (contains_key s.tables.roles role.name) 200 201) (role_body role)) (λ t. put_or_made (contains_key s.tables.roles role.name))

pub delete_role : (s : Hub) (role : List ℕ) → is_503 (calls.delete_role s role) ≡ false
delete_role s role = ruled s (roles.delete_role s.tables role) done (λ t. refl)
