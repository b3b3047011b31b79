-- The calls on groups: none is answered by a 503.
use Rattle.std.proofs.Common.{◌≡◌, ℕ, false, List, refl}
use Rattle.admin_rules.specs.Groups as groups
use Rattle.hub_view.specs.Fields.{Rights}
use Rattle.hub_machine.specs.State.{Hub}
use Rattle.hub_machine.specs.Replies.{good}
use Rattle.hub_calls.specs.Calling.{done}
use Rattle.hub_calls.specs.Facts.{group_at}
use Rattle.hub_calls.specs.GroupCalls as calls
use Rattle.hub_machine.proofs.Statuses.{is_503}
use Rattle.hub_calls.proofs.Statuses.{ruled}

pub post_group : (s : Hub) (may : Rights) (group : List ℕ) (names : List (List ℕ)) → is_503 (calls.post_group s may group names) ≡ false
post_group s may group names = ruled s (groups.add_group s.tables group names) (λ after. good 201 (group_at may after group)) (λ t. refl)

pub delete_group : (s : Hub) (group : List ℕ) → is_503 (calls.delete_group s group) ≡ false
delete_group s group = ruled s (groups.delete_group s.tables group) done (λ t. refl)

pub join_group : (s : Hub) (may : Rights) (group : List ℕ) (names : List (List ℕ)) → is_503 (calls.join_group s may group names) ≡ false
join_group s may group names = ruled s (groups.join_group s.tables group names) (λ after. good 200 (group_at may after group)) (λ t. refl)

pub leave_group : (s : Hub) (may : Rights) (group : List ℕ) (names : List (List ℕ)) → is_503 (calls.leave_group s may group names) ≡ false
leave_group s may group names = ruled s (groups.leave_group s.tables group names) (λ after. good 200 (group_at may after group)) (λ t. refl)
