-- Members that are added one after the other.
use Rattle.std.proofs.Common.{◌≡◌, ℕ, Bool, ◌||◌, List, ◌++◌, ◌∙◌, ap, map, codes, Result}
use Rattle.std.specs.Prelude.{IfOk}
use Rattle.std.proofs.lemmas.List.{append_assoc, map-id}
use Rattle.std.proofs.lemmas.Result.{IfOk-weaker}
use Rattle.scope_names.specs.declared.action.Action.TheVariants.{ReadUsersName, ReadUsers, ReadUsersGroups, ReadUsersActivity, ReadRolesUsers}
use Rattle.scope_filters.specs.declared.object.Object.TheVariants as Ob
use Rattle.hub_view.specs.Json.{Json, Member, line, lines, truth, maybe, member}
use Rattle.hub_view.specs.Body.{body_tokens}
use Rattle.hub_view.specs.Made.{holds}
use Rattle.hub_view.specs.Servers.{at}
use Rattle.hub_view.specs.Fields.{Rights, user_members}
use Rattle.hub_view.specs.declared.body.Body.{Body}
use Rattle.hub_view.specs.declared.facts.UserFacts.{UserFacts}
use Rattle.hub_view.specs.declared.fields.Fields.{Fields}

-- the same value, said in other words
pub retold : {E : Type 0} (r : Result Body E) (x y : Json) → IfOk r (λ b. body_tokens b ≡ x) → x ≡ y → IfOk r (λ b. body_tokens b ≡ y)
retold r x y h e = IfOk-weaker r (λ b. body_tokens b ≡ x) (λ b. body_tokens b ≡ y) (λ b t. t ∙ e) h

-- a text that is said in other words
pub spelled : {E : Type 0} (r : Result Body E) (s t : List ℕ) → IfOk r (λ b. body_tokens b ≡ line s) → s ≡ t → IfOk r (λ b. body_tokens b ≡ line t)
spelled r s t h e = retold r (line s) (line t) h (ap line e)

-- names are shown as their texts, which they are themselves
pub named : {E : Type 0} (r : Result Body E) (names same : List (List ℕ)) → IfOk r (λ b. body_tokens b ≡ lines (map (λ (n : List ℕ). n) names))
    → names ≡ same → IfOk r (λ b. body_tokens b ≡ lines same)
named r names same h e = retold r (lines (map (λ (n : List ℕ). n) names)) (lines same) h (ap lines (map-id names ∙ e))

-- what is added stands behind the first members together with what was added before
pub joined : (f : Fields) (x so_far more : List Member) → holds f ((x ++ so_far) ++ more) → holds f (x ++ (so_far ++ more))
joined f x so_far more h = λ kept. h kept ∙ append_assoc x so_far more

-- a user's own fields, where each is shown as the rights say
pub user_shown : (may : Rights) (named : Bool) (u : UserFacts) (account groups name activity roles : Bool)
    → account ≡ may ReadUsers (Ob.User u.user.name) → groups ≡ may ReadUsersGroups (Ob.User u.user.name)
    → name ≡ (named || may ReadUsersName (Ob.User u.user.name)) → activity ≡ may ReadUsersActivity (Ob.User u.user.name)
    → roles ≡ may ReadRolesUsers (Ob.User u.user.name)
    → member account (codes "admin") (truth u.user.admin) ++ member account (codes "created") (at u.user.created)
    ++ member groups (codes "groups") (lines u.groups) ++ member name (codes "kind") (line (codes "user"))
    ++ member activity (codes "last_activity") (maybe at u.user.last_activity) ++ member name (codes "name") (line u.user.name)
    ++ member roles (codes "roles") (lines u.roles) ≡ user_members may named u
user_shown may named u account groups name activity roles r1 r2 r3 r4 r5 =
    λ i. member (r1 i) (codes "admin") (truth u.user.admin) ++ member (r1 i) (codes "created") (at u.user.created)
    ++ member (r2 i) (codes "groups") (lines u.groups) ++ member (r3 i) (codes "kind") (line (codes "user"))
    ++ member (r4 i) (codes "last_activity") (maybe at u.user.last_activity) ++ member (r3 i) (codes "name") (line u.user.name)
    ++ member (r5 i) (codes "roles") (lines u.roles)
