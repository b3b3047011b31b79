-- What a token is allowed depends on nothing but what its rights come from.
use Rattle.std.proofs.Common.{◌≡◌, ◌||◌, List, [], ◌∷◌, ◌++◌, Option, refl, sym, subst, ◌⊎◌, filter, flat_map}
use Rattle.std.specs.Prelude.{IsTrue, if◌then◌else◌, ◌↔◌}
use Rattle.std.specs.List.{list_any}
use Rattle.std.specs.FinMap.{values}
use Rattle.hub_kit.specs.KeyOrder.{name_cmp}
use Rattle.hub_kit.specs.declared.names.ServerKey.{ServerKey}
use Rattle.keyed_rows.specs.Sorted.{is_among}
use Rattle.scope_names.specs.declared.action.Action.{Action}
use Rattle.scope_names.specs.declared.custom.CustomRow.{CustomRow}
use Rattle.scope_filters.specs.declared.holder.Owner.{Owner}
use Rattle.scope_filters.specs.declared.holder.Owner.TheVariants as Own
use Rattle.scope_filters.specs.declared.object.Object.{Object}
use Rattle.scope_filters.specs.declared.scope.RawScope.{RawScope}
use Rattle.scope_filters.specs.declared.scope.RawScope.TheVariants.{SelfScope}
use Rattle.scope_filters.specs.Contexts.{Context, is_member}
use Rattle.scope_filters.specs.Grants.{Rights, grant_admits}
use Rattle.scope_expand.specs.Meaning.{IsMeant}
use Rattle.hub_rows.specs.declared.keys.Recipient.{Recipient}
use Rattle.hub_rows.specs.declared.keys.Recipient.TheVariants as To
use Rattle.hub_rows.specs.declared.records.Role.{Role}
use Rattle.hub_rows.specs.declared.records.Token.{Token}
use Rattle.hub_tables.specs.Memberships.{members_of}
use Rattle.hub_tables.specs.State.{State}
use Rattle.roles.specs.Rights.{context, holds_role, received, admin_scopes, fixed_scopes, scopes_held, bare, OwnerMay, holder_of, inherits, IsAllowed, IsGrantOf}
use Rattle.roles.specs.Sources.{HaveSameSources, is_admin_owner}

-- ---- the states

same_holder : (t t' : State) → t.groups ≡ t'.groups → (w : Owner) (role : Role) → holds_role t w role ≡ holds_role t' w role
same_holder t t' e (Own.User u) role = λ i. is_among name_cmp u role.users || list_any (λ g. is_member (members_of (e i)) u g) role.groups
same_holder t t' e (Own.Service v) role = refl

same_received : (t t' : State) → t.groups ≡ t'.groups → (w : Owner) (to : Recipient) → received t w to ≡ received t' w to
same_received t t' e (Own.User u) (To.User w) = refl
same_received t t' e (Own.User u) (To.Group g) = λ i. is_member (members_of (e i)) u g
same_received t t' e (Own.Service v) to = refl

same_fixed : (t t' : State) (w : Owner) → is_admin_owner t w ≡ is_admin_owner t' w → fixed_scopes t w ≡ fixed_scopes t' w
same_fixed t t' (Own.User u) e = λ i. SelfScope ∷ (if e i then admin_scopes else [])
same_fixed t t' (Own.Service v) e = refl

-- the declared scopes, the scopes that an owner holds, and who is in which group
abbrev Sources : Type 0
Sources = List CustomRow × List RawScope × Context

abbrev sources : State → Owner → Sources
sources t w = (t.scopes, scopes_held t w, context t)

abbrev AllowedBy : Token → Action → Object → Sources → Type 0
AllowedBy k a x from = IsMeant from.0 from.1 (bare k.owner) from.2 a x × (IsTrue (inherits k.scopes) ⊎ IsMeant from.0 k.scopes (holder_of k) from.2 a x)

same_sources : (t t' : State) (k k' : Token) → HaveSameSources t t' k k' → sources t k.owner ≡ sources t' k.owner
same_sources t t' k k' s =
    let holder = same_holder t t' s.groups k.owner in
    let given = same_received t t' s.groups k.owner in
    let fixed = same_fixed t t' k.owner s.admin in
    λ i. (
      s.declared i,
      (fixed i ++ flat_map (λ role. role.scopes) (filter (λ role. holder role i) (values (s.roles i)))) ++ flat_map (λ share. share.scopes) (filter (λ share. given share.key.to i) (values (s.shares i))),
      members_of (s.groups i),
    )

-- ---- the tokens

abbrev Parts : Type 0
Parts = Owner × Option ServerKey × List RawScope

abbrev AllowedTo : State → Action → Object → Parts → Type 0
AllowedTo t a x k = OwnerMay t k.0 a x × (IsTrue (inherits k.2) ⊎ IsMeant t.scopes k.2 (record { owner = k.0; issued_for = k.1 }) (context t) a x)

abbrev parts : Token → Parts
parts k = (k.owner, k.issued_for, k.scopes)

same_parts : (t t' : State) (k k' : Token) → HaveSameSources t t' k k' → parts k ≡ parts k'
same_parts t t' k k' s = λ i. (s.owner i, s.issued_for i, s.scopes i)

-- ---- both

pub same_allowed : (t t' : State) (k k' : Token) → HaveSameSources t t' k k' → (a : Action) (x : Object) → IsAllowed t k a x ↔ IsAllowed t' k' a x
same_allowed t t' k k' s a x = (
  λ h. subst (AllowedTo t' a x) (same_parts t t' k k' s) (subst (AllowedBy k a x) (same_sources t t' k k' s) h),
  λ h. subst (AllowedBy k a x) (sym (same_sources t t' k k' s)) (subst (AllowedTo t' a x) (sym (same_parts t t' k k' s)) h),
)

-- a grant of what is allowed in one state is one of what is allowed in the other
pub same_grant : (t t' : State) (k k' : Token) (grant : Rights) → HaveSameSources t t' k k' → IsGrantOf t (IsAllowed t k) grant → IsGrantOf t' (IsAllowed t' k') grant
same_grant t t' k k' grant s h a x =
    let Admits : Context → Type 0 = λ m. IsTrue (grant_admits m grant a x) in
    let same : context t ≡ context t' = λ i. members_of (s.groups i) in
    let may = same_allowed t t' k k' s a x in
    (λ p. may.0 ((h a x).0 (subst Admits (sym same) p)), λ p. subst Admits same ((h a x).1 (may.1 p)))
