-- The calls on users: none is answered by a 503.
use Rattle.std.proofs.Common.{◌≡◌, ℕ, Bool, false, [], ◌∷◌, List, map, refl}
use Rattle.admin_rules.specs.Users as users
use Rattle.hub_view.specs.Fields.{Rights}
use Rattle.hub_view.specs.Json.{items}
use Rattle.hub_machine.specs.State.{Hub, has_live_server}
use Rattle.hub_machine.specs.Replies.{good}
use Rattle.hub_calls.specs.Calling.{done}
use Rattle.hub_calls.specs.Facts.{user_at}
use Rattle.hub_calls.specs.UserCalls as calls
use Rattle.hub_machine.proofs.Statuses.{is_503}
use Rattle.hub_calls.proofs.Statuses.{ruled}

pub post_users : (s : Hub) (may : Rights) (now : ℕ) (names : List (List ℕ)) (admin : Bool) → is_503 (calls.post_users s may now names admin) ≡ false
post_users s may now names admin =
    ruled s (users.add_users s.tables names admin now) (λ after. good 201 (items (map (user_at may after) (users.unkept_users s.tables names)))) (λ t. refl)

pub post_user : (s : Hub) (may : Rights) (now : ℕ) (user : List ℕ) → is_503 (calls.post_user s may now user) ≡ false
post_user s may now user = ruled s (users.add_users s.tables (user ∷ []) false now) (λ after. good 201 (user_at may after user)) (λ t. refl)

pub patch_user : (s : Hub) (may : Rights) (user : List ℕ) (admin : Bool) → is_503 (calls.patch_user s may user admin) ≡ false
patch_user s may user admin = ruled s (users.set_admin s.tables user admin) (λ after. good 200 (user_at may after user)) (λ t. refl)

pub delete_user : (s : Hub) (user : List ℕ) → is_503 (calls.delete_user s user) ≡ false
delete_user s user = ruled s (users.delete_user s.tables user (has_live_server s.lives user)) done (λ t. refl)
