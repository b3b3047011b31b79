-- What an owner may do, and what a token may.
use Rattle.std.specs.Prelude.{Bool, true, false, ◌||◌, IsTrue, List, [], ◌∷◌, ◌++◌, map, None, ◌⊎◌, ◌↔◌, if◌then◌else◌}
use Rattle.std.specs.List.{filter, flat_map, list_any}
use Rattle.std.specs.FinMap.{values}
use Rattle.hub_kit.specs.KeyOrder.{name_cmp}
use Rattle.keyed_rows.specs.Sorted.{is_among}
use Rattle.scope_names.specs.declared.action.Action.{Action}
use Rattle.scope_names.specs.Actions.{listed}
use Rattle.scope_filters.specs.declared.holder.Holder.{Holder}
use Rattle.scope_filters.specs.declared.holder.Owner.{Owner}
use Rattle.scope_filters.specs.declared.holder.Owner.TheVariants as Own
use Rattle.scope_filters.specs.declared.object.Object.{Object}
use Rattle.scope_filters.specs.declared.scope.RawFilter.TheVariants.{Unfiltered}
use Rattle.scope_filters.specs.declared.scope.RawScope.{RawScope}
use Rattle.scope_filters.specs.declared.scope.RawScope.TheVariants.{Plain, SelfScope, Inherit}
use Rattle.scope_filters.specs.Contexts.{Context, same, is_member}
use Rattle.scope_filters.specs.Grants.{Rights, grant_admits}
use Rattle.scope_expand.specs.Meaning.{IsMeant}
use Rattle.scope_meet.specs.Named.{IsObject}
use Rattle.hub_rows.specs.declared.keys.Recipient.{Recipient}
use Rattle.hub_rows.specs.declared.keys.Recipient.TheVariants as To
use Rattle.hub_rows.specs.declared.records.Role.{Role}
use Rattle.hub_rows.specs.declared.records.Share.{Share}
use Rattle.hub_rows.specs.declared.records.Token.{Token}
use Rattle.hub_tables.specs.Lookups.{is_admin}
use Rattle.hub_tables.specs.Memberships.{members_of}
use Rattle.hub_tables.specs.State.{State}

-- who is in which group
abbrev pub context : State → Context
context t = members_of t.groups

-- ---- what an owner holds

-- the role's row names the owner, or a group that the owner is in
abbrev pub holds_role : State → Owner → Role → Bool
holds_role t (Own.User u) role = is_among name_cmp u role.users || list_any (λ g. is_member (context t) u g) role.groups
holds_role t (Own.Service v) role = is_among name_cmp v role.services

-- it was shared to the owner, or to a group that the owner is in; nothing is shared to services
abbrev pub received : State → Owner → Recipient → Bool
received t (Own.User u) (To.User w) = same u w
received t (Own.User u) (To.Group g) = is_member (context t) u g
received t (Own.Service v) to = false

-- The kept roles that the owner holds
abbrev pub roles_held : State → Owner → List Role
roles_held t w = filter (holds_role t w) (values t.roles)

-- The kept shares that the owner received
abbrev pub shares_received : State → Owner → List Share
shares_received t w = filter (λ share. received t w share.key.to) (values t.shares)

-- the fixed role `admin` has every action of the table without filter, and no custom one
abbrev pub admin_scopes : List RawScope
admin_scopes = map (λ action. Plain action Unfiltered) listed

-- the scopes of the fixed roles of an owner: a user has `user`, which is `self`, and an admin `admin`
abbrev pub fixed_scopes : State → Owner → List RawScope
fixed_scopes t (Own.User u) = SelfScope ∷ (if is_admin t u then admin_scopes else [])
fixed_scopes t (Own.Service v) = []

-- the scopes that an owner holds: those of the fixed roles, of each role that the owner holds, and of each share that the owner
-- received
abbrev pub scopes_held : State → Owner → List RawScope
scopes_held t w = (fixed_scopes t w ++ flat_map (λ role. role.scopes) (roles_held t w)) ++ flat_map (λ share. share.scopes)
    (shares_received t w)

-- ---- owners

-- an owner as the holder of its roles: no server was issued to it
abbrev pub bare : Owner → Holder
bare w = record { owner = w; issued_for = None }

-- an owner may do it: one of the scopes that the owner holds means it
abbrev pub OwnerMay : State → Owner → Action → Object → Type 0
OwnerMay t w a x = IsMeant t.scopes (scopes_held t w) (bare w) (context t) a x

-- ---- tokens

-- A token as the holder of its scopes: its owner, and the server that it was issued for
abbrev pub holder_of : Token → Holder
holder_of k = record { owner = k.owner; issued_for = k.issued_for }

-- The scope is `inherit`
abbrev pub is_inherit : RawScope → Bool
is_inherit Inherit = true
is_inherit _ = false

-- One of the scopes is `inherit`
abbrev pub inherits : List RawScope → Bool
inherits scopes = list_any is_inherit scopes

-- the token's scopes say so: it has `inherit`, or one of its scopes means it
abbrev pub TokenSays : State → Token → Action → Object → Type 0
TokenSays t k a x = IsTrue (inherits k.scopes) ⊎ IsMeant t.scopes k.scopes (holder_of k) (context t) a x

-- a token may do it: its owner may now, and the token's scopes say so
abbrev pub IsAllowed : State → Token → Action → Object → Type 0
IsAllowed t k a x = OwnerMay t k.owner a x × TokenSays t k a x

-- a token holds an action: it may do it on some object, kept or not
abbrev pub Holds : State → Token → Action → Type 0
Holds t k a = (x : Object) × IsObject x × IsAllowed t k a x

-- all that the scopes of a token mean, its owner may do
abbrev pub AreHeld : State → Token → Type 0
AreHeld t k = (a : Action) (x : Object) → IsObject x → IsMeant t.scopes k.scopes (holder_of k) (context t) a x → OwnerMay t k.owner a x

-- ---- grants of them

-- the grant admits exactly what may be done, among the members that the groups have
abbrev pub IsGrantOf : State → (Action → Object → Type 0) → Rights → Type 0
IsGrantOf t May grant = (a : Action) (x : Object) → IsTrue (grant_admits (context t) grant a x) ↔ May a x
