-- What the rights of a token come from.
use Rattle.std.specs.Prelude.{◌≡◌, Bool, false}
use Rattle.scope_filters.specs.declared.holder.Owner.{Owner}
use Rattle.scope_filters.specs.declared.holder.Owner.TheVariants as Own
use Rattle.hub_rows.specs.declared.records.Token.{Token}
use Rattle.hub_tables.specs.Lookups.{is_admin}
use Rattle.hub_tables.specs.State.{State}

-- The owner is a user who is an admin
abbrev pub is_admin_owner : State → Owner → Bool
is_admin_owner t (Own.User u) = is_admin t u
is_admin_owner t (Own.Service v) = false

-- two states and two tokens that have the same groups, roles, shares and declared scopes, the same owner, who is an admin in both or in
-- neither, and the same scopes of the token
pub record HaveSameSources (t t' : State) (k k' : Token) : Type 0 where
  pub groups : t.groups ≡ t'.groups
  pub roles : t.roles ≡ t'.roles
  pub shares : t.shares ≡ t'.shares
  pub declared : t.scopes ≡ t'.scopes
  pub owner : k.owner ≡ k'.owner
  pub issued_for : k.issued_for ≡ k'.issued_for
  pub scopes : k.scopes ≡ k'.scopes
  pub admin : is_admin_owner t k.owner ≡ is_admin_owner t' k.owner
