-- What the rows of a configuration leave as it is.
use Rattle.std.proofs.Common.{◌≡◌, ℕ, ◌+◌, Bool, true, false, cond, Option, Some, None, List, [], ◌∷◌, refl, sym, ◌∙◌, ap, codes}
use Rattle.std.specs.Prelude.{fold}
use Rattle.std.specs.Cmp.Lexicographic.{nat_list_cmp_total}
use Rattle.std.specs.FinMap.{get, get-insert}
use Rattle.scope_names.specs.declared.custom.CustomRow.{CustomRow}
use Rattle.hub_rows.specs.declared.limits.Limits.{Limits}
use Rattle.hub_rows.specs.declared.rows.Row.{Row}
use Rattle.hub_rows.specs.declared.records.Group.{Group}
use Rattle.hub_rows.specs.declared.records.Lease.{Lease}
use Rattle.hub_rows.specs.declared.records.Role.{Role}
use Rattle.hub_tables.specs.Changes.{with_row}
use Rattle.hub_tables.specs.State.{State}
use Rattle.hub_tables.proofs.RowsAt.{put_fixed}
use Rattle.keeper.specs.Rows.{Rows}
use Rattle.row_rules.specs.Across.{no_tables, rows_put}
use Rattle.hub_tables.specs.Lookups.{number_of}
use Rattle.hub_machine.specs.State.{next_generation}
use Rattle.hub_opening.specs.Opening.{with_user, with_group, with_service, with_role, added, is_added, with_token, next_token, configured, opened_tables}
use Rattle.hub_opening.specs.Kept.{AreLoaded, generation_given, of_lease, targets_of, where_none, with_generations}
use Rattle.hub_opening.specs.declared.config.ConfigUser.{ConfigUser}
use Rattle.hub_opening.specs.declared.config.ConfigService.{ConfigService}
use Rattle.hub_opening.specs.declared.config.ConfigToken.{ConfigToken}
use Rattle.hub_opening.specs.declared.config.HubConfig.{HubConfig}

-- what each step keeps, all of them keep
pub fold_keeps : {X : Type 0} (P : State → Type 0) (f : State → X → State) → ((t : State) (x : X) → P t → P (f t x)) → (xs : List X) (t : State) → P t → P (fold f t xs)
fold_keeps P f h [] t p = p
fold_keeps P f h (x ∷ xs) t p = fold_keeps P f h xs (f t x) (h t x p)

either_keeps : (P : State → Type 0) (b : Bool) (t u : State) → P t → P u → P (cond b u t)
either_keeps P true t u p q = q
either_keeps P false t u p q = p

-- what each row of a configuration keeps
pub record StepsKeep (P : State → Type 0) (now : ℕ) : Type 0 where
  pub user : (t : State) (u : ConfigUser) → P t → P (with_user now t u)
  pub group : (t : State) (g : Group) → P t → P (with_group t g)
  pub service : (t : State) (s : ConfigService) → P t → P (with_service t s)
  pub role : (t : State) (r : Role) → P t → P (with_role t r)
  pub token : (t : State) (k : ConfigToken) → P t → P (added now k t)

pub configured_keeps : (P : State → Type 0) (c : HubConfig) (now : ℕ) (t : State) → StepsKeep P now → P t → P (configured c now t)
configured_keeps P c now t h p =
    let users = fold (with_user now) t c.users in
    let groups = fold with_group users c.groups in
    let services = fold with_service groups c.services in
    fold_keeps P (with_token now) (λ t k q. either_keeps P (is_added t k) t (added now k t) q (h.token t k q)) c.tokens (fold with_role services c.roles)
    (fold_keeps P with_role h.role c.roles services
    (fold_keeps P with_service h.service c.services groups
    (fold_keeps P with_group h.group c.groups users
    (fold_keeps P (with_user now) h.user c.users t p))))

pub configured_limits : (c : HubConfig) (now : ℕ) (t : State) → (configured c now t).limits ≡ t.limits
configured_limits c now t = configured_keeps (λ s. s.limits ≡ t.limits) c now t (record {
  user = λ s u p. p;
  group = λ s g p. p;
  service = λ s v p. p;
  role = λ s r p. p;
  token = λ s k p. p;
}) refl

pub configured_leases : (c : HubConfig) (now : ℕ) (t : State) → (configured c now t).leases ≡ t.leases
configured_leases c now t = configured_keeps (λ s. s.leases ≡ t.leases) c now t (record {
  user = λ s u p. p;
  group = λ s g p. p;
  service = λ s v p. p;
  role = λ s r p. p;
  token = λ s k p. p;
}) refl

-- no server is started
pub configured_next : (c : HubConfig) (now : ℕ) (t : State) → next_generation (configured c now t) ≡ next_generation t
configured_next c now t = configured_keeps (λ s. next_generation s ≡ next_generation t) c now t (record {
  user = λ s u p. p;
  group = λ s g p. p;
  service = λ s v p. p;
  role = λ s r p. p;
  token = λ s k p.
      ap number_of (get-insert nat_list_cmp_total s.nexts (codes "token") (record { name = codes "token"; next = next_token s + 1 }) (codes "generation")) ∙ p;
}) refl

-- ---- limits

where_limits : (l : Lease) (g : Option ℕ) (t : State) → (where_none l g t).limits ≡ t.limits
where_limits l None t = refl
where_limits l (Some g) t = refl

lease_limits : (o : Option Lease) (t : State) → (of_lease o t).limits ≡ t.limits
lease_limits None t = refl
lease_limits (Some l) t = where_limits l l.generation t

pub opened_limits : (c : HubConfig) (now : ℕ) (t : State) → (opened_tables c now t).limits ≡ t.limits
opened_limits c now t =
    configured_limits c now (with_generations t)
    ∙ fold_keeps (λ s. s.limits ≡ t.limits) generation_given (λ s target h. lease_limits (get s.leases target) s ∙ h) (targets_of t) t refl

rows_limits : (rows : List Row) (s : State) → (rows_put rows s).limits ≡ s.limits
rows_limits [] s = refl
rows_limits (row ∷ rows) s = rows_limits rows (with_row row s) ∙ (put_fixed row s).0

pub loaded_limits : (limits : Limits) (scopes : List CustomRow) (Tells : Type 0) (has : Rows) (t : State) → AreLoaded limits scopes Tells has t → t.limits ≡ limits
loaded_limits limits scopes Tells has t loaded =
    ap (λ (s : State). s.limits) loaded.tables.tables ∙ rows_limits loaded.tables.rows (no_tables limits scopes)
