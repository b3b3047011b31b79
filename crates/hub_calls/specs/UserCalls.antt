-- The calls on the hub, the identity and users.
use Rattle.std.specs.Prelude.{ℕ, Bool, false, List, [], ◌∷◌, map, length, codes, Option, Some, None}
use Rattle.std.specs.FinMap.{get, len, values}
use Rattle.hub_kit.specs.declared.names.ServerKey.{ServerKey}
use Rattle.scope_filters.specs.declared.holder.Owner.{Owner}
use Rattle.scope_filters.specs.declared.holder.Owner.TheVariants as Own
use Rattle.hub_rows.specs.declared.records.User.{User}
use Rattle.hub_rows.specs.declared.records.Token.{Token}
use Rattle.hub_view.specs.Json.{Json, line, whole, nothing, pairs, items}
use Rattle.hub_view.specs.Fields.{Rights, user_identity, service_identity}
use Rattle.hub_view.specs.Pages.{paged_list}
use Rattle.hub_view.specs.declared.pages.Page.{Page}
use Rattle.admin_rules.specs.Users.{add_users, set_admin, unkept_users}
use Rattle.admin_rules.specs.Users as rules
use Rattle.hub_tables.specs.Lookups.{roles_naming_service}
use Rattle.hub_machine.specs.State.{Hub, has_live_server}
use Rattle.hub_calls.specs.Facts.{facts_of, users_shown, user_at}
use Rattle.hub_machine.specs.Replies.{Answer, gives, good}
use Rattle.hub_calls.specs.Calling.{by_rules, done}

-- GET /
abbrev pub get_version : Answer
get_version = gives (good 200 (pairs ((codes "version", line (codes "5.0.0")) ∷ [])))

-- GET /info
abbrev pub get_info : Hub → Answer
get_info s = gives (good 200 (pairs (
    (codes "leases", whole (len s.lives))
    ∷ (codes "pool", whole (length s.pool))
    ∷ (codes "version", line (codes "5.0.0"))
    ∷ [])))

-- ---- GET /user: the token's owner

-- The identity of a token whose owner is a user; nothing is shown where the user isn't kept
abbrev pub identity_of_user : Rights → Hub → Token → Option ServerKey → Option User → Json
identity_of_user may s k server None = nothing
identity_of_user may s k server (Some u) = user_identity may (facts_of s u) k.scopes server

-- The identity of a token whose owner is a service
abbrev pub identity_of_service : Rights → Hub → Token → Option ServerKey → List ℕ → Json
identity_of_service may s k server v = service_identity may v (roles_naming_service s.tables v) k.scopes server

-- The identity of the token k, by its owner; `server` is the one that the call asks about, if any
abbrev pub identity : Rights → Hub → Token → Option ServerKey → Owner → Json
identity may s k server (Own.User u) = identity_of_user may s k server (get s.tables.users u)
identity may s k server (Own.Service v) = identity_of_service may s k server v

abbrev pub get_identity : Hub → Rights → Token → Option ServerKey → Answer
get_identity s may k server = gives (good 200 (identity may s k server k.owner))

-- ---- users

-- GET /users: those that the caller may list
abbrev pub get_users : Hub → Rights → Page → Answer
get_users s may page = gives (good 200 (paged_list (codes "/users") page (users_shown may s (values s.tables.users))))

-- POST /users: the names that aren't kept are put, and shown in the order given
abbrev pub post_users : Hub → Rights → ℕ → List (List ℕ) → Bool → Answer
post_users s may now names admin = by_rules s (add_users s.tables names admin now)
    (λ after. good 201 (items (map (user_at may after) (unkept_users s.tables names))))

-- GET /users/{user}
abbrev pub get_user : Hub → Rights → List ℕ → Answer
get_user s may u = gives (good 200 (user_at may s u))

-- POST /users/{user}
abbrev pub post_user : Hub → Rights → ℕ → List ℕ → Answer
post_user s may now u = by_rules s (add_users s.tables (u ∷ []) false now) (λ after. good 201 (user_at may after u))

-- PATCH /users/{user}
abbrev pub patch_user : Hub → Rights → List ℕ → Bool → Answer
patch_user s may u admin = by_rules s (set_admin s.tables u admin) (λ after. good 200 (user_at may after u))

-- DELETE /users/{user}
abbrev pub delete_user : Hub → List ℕ → Answer
delete_user s u = by_rules s (rules.delete_user s.tables u (has_live_server s.lives u)) done
