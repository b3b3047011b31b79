use Rattle.std.proofs.Common.{List, refl, subst}
use Rattle.scope_names.specs.declared.custom.CustomRow.{CustomRow}
use Rattle.hub_rows.specs.declared.limits.Limits.{Limits}
use Rattle.hub_rows.specs.declared.rows.Row.TheVariants as Row
use Rattle.hub_rows.specs.declared.rows.RowKey.TheVariants as RowKey
use Rattle.hub_tables.specs.Kept.{Kind, Users, Groups, Services, Roles, Tokens, Servers, Leases, Shares, Codes, Clients, GrantCodes, Nexts, IsKept, state_of}
use Rattle.hub_tables.specs.Own.{AreOwn}
use Rattle.hub_tables.specs.State.{State}
use Rattle.hub_tables.specs.declared.trees.Trees.{Trees}
use Rattle.hub_tables.proofs.RowsAt.{all_own}
use Rattle.hub_tables.proofs.tables.Tables.own_keys.Goals as goal

module _ (t : Trees) (limits : Limits) (scopes : List CustomRow) (kept : (kind : Kind) → IsKept t kind) where
  abbrev s : State
  s = state_of t limits scopes

  own_in : AreOwn s
  own_in (RowKey.User q) row at = all_own s.users s RowKey.User Row.User (λ x. x.name) (λ k. refl) (λ x. refl) (kept Users) q row at
  own_in (RowKey.Group q) row at = all_own s.groups s RowKey.Group Row.Group (λ x. x.name) (λ k. refl) (λ x. refl) ((kept Groups).own) q row at
  own_in (RowKey.Service q) row at = all_own s.services s RowKey.Service Row.Service (λ x. x.name) (λ k. refl) (λ x. refl) (kept Services) q row at
  own_in (RowKey.Role q) row at = all_own s.roles s RowKey.Role Row.Role (λ x. x.name) (λ k. refl) (λ x. refl) ((kept Roles).own) q row at
  own_in (RowKey.Token q) row at = all_own s.tokens s RowKey.Token Row.Token (λ x. x.id) (λ k. refl) (λ x. refl) ((kept Tokens).own) q row at
  own_in (RowKey.ServerRow q) row at = all_own s.servers s RowKey.ServerRow Row.ServerRow (λ x. x.key) (λ k. refl) (λ x. refl) (kept Servers) q row at
  own_in (RowKey.Lease q) row at = all_own s.leases s RowKey.Lease Row.Lease (λ x. x.target) (λ k. refl) (λ x. refl) (kept Leases) q row at
  own_in (RowKey.Share q) row at = all_own s.shares s RowKey.Share Row.Share (λ x. x.key) (λ k. refl) (λ x. refl) ((kept Shares).own) q row at
  own_in (RowKey.ShareCode q) row at = all_own s.codes s RowKey.ShareCode Row.ShareCode (λ x. x.id) (λ k. refl) (λ x. refl) ((kept Codes).own) q row at
  own_in (RowKey.OAuthClient q) row at = all_own s.clients s RowKey.OAuthClient Row.OAuthClient (λ x. x.id) (λ k. refl) (λ x. refl) (kept Clients) q row at
  own_in (RowKey.OAuthCode q) row at = all_own s.grant_codes s RowKey.OAuthCode Row.OAuthCode (λ x. x.hash) (λ k. refl) (λ x. refl) (kept GrantCodes) q row at
  own_in (RowKey.Next q) row at = all_own s.nexts s RowKey.Next Row.Next (λ x. x.name) (λ k. refl) (λ x. refl) (kept Nexts) q row at

pub returns : goal.returns
returns c = subst AreOwn c.self.view_is (own_in c.self.inside.trees c.self.inside.limits c.self.inside.scopes c.self.invariant)
