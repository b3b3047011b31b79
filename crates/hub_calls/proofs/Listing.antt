-- What is shown of the names of a list, and of the keys of a user's servers.
use Rattle.std.proofs.Common.{◌≡◌, ℕ, Bool, true, List, [], ◌∷◌, Option, Some, map, length, take, drop, sym, ap, ◌∙◌, subst}
use Rattle.std.proofs.lemmas.List.{length-map, take-map, drop-map}
use Rattle.std.proofs.lemmas.List.Concat.{flat_map_single}
use Rattle.std.proofs.lemmas.Simd.{map-map}
use Rattle.std.specs.declared.cmp.Ordering.{Ordering}
use Rattle.std.specs.Cmp.{IsTotalOrder}
use Rattle.std.specs.Cmp.Lexicographic.{nat_list_cmp_total}
use Rattle.std.specs.FinMap.{FinMap, IsAntisymmetric, get, values}
use Rattle.std.specs.List.{filter, flat_map}
use Rattle.hub_kit.specs.KeyOrder.{name_cmp, key_exact}
use Rattle.hub_kit.specs.contracts.names.ServerKeyOrd.TheImpl.Laws as server_key
use Rattle.keyed_rows.specs.Rows.{OwnKeys}
use Rattle.keyed_rows.proofs.InOrder.{own_keys, found_give}
use Rattle.scope_names.specs.declared.action.Action.TheVariants.{ListUsers, ListGroups, ListServices}
use Rattle.scope_filters.specs.Contexts.{same}
use Rattle.scope_filters.specs.declared.object.Object.TheVariants as Ob
use Rattle.hub_rows.specs.ShareOrder.{names_exact}
use Rattle.hub_rows.specs.declared.records.User.{User}
use Rattle.hub_rows.specs.declared.records.Group.{Group}
use Rattle.hub_rows.specs.declared.records.Service.{Service}
use Rattle.hub_rows.specs.declared.records.Role.{Role}
use Rattle.hub_rows.specs.declared.records.ServerRow.{ServerRow}
use Rattle.hub_tables.specs.Lookups as lookups
use Rattle.hub_tables.specs.Own.{AreOwn}
use Rattle.hub_tables.proofs.RowsAt.{own_users, own_groups, own_services, own_roles, own_servers}
use Rattle.hub_tables.specs.State.{State}
use Rattle.hub_view.specs.Fields.{Rights}
use Rattle.hub_view.specs.Json.{Json}
use Rattle.hub_view.specs.Pages.{in_page, kept}
use Rattle.hub_view.specs.Records.{role_body}
use Rattle.hub_view.specs.declared.pages.Page.{Page}
use Rattle.hub_view.proofs.KeptNames.{all_pass}
use Rattle.hub_machine.specs.State.{Hub}
use Rattle.hub_calls.specs.Facts.{body_of_user, user_at, users_shown, body_of_group, group_at, groups_shown, service_body, services_shown, body_of_role, role_at, server_facts, facts_at, servers_of}

module _ {K X : Type 0} {R : K → K → Ordering} (total : IsTotalOrder R) (exact : IsAntisymmetric R) (key : X → K) (m : FinMap R X) (own : OwnKeys key m) where
  -- by their keys alone
  pub shown_keys : (p : K → Bool) (body : K → Json) → map body (kept p m) ≡ map (λ x. body (key x)) (filter (λ x. p (key x)) (values m))
  shown_keys p body = ap (map body) (own_keys total exact key p m own) ∙ map-map body key (filter (λ x. p (key x)) (values m))

  -- by a look at the row of each
  pub shown_rows : (p : K → Bool) (at : Option X → Json) → map (λ k. at (get m k)) (kept p m) ≡ map (λ x. at (Some x)) (filter (λ x. p (key x)) (values m))
  shown_rows p at =
      ap (map (λ k. at (get m k))) (own_keys total exact key p m own)
      ∙ sym (flat_map_single (λ k. at (get m k)) (map key (filter (λ x. p (key x)) (values m))))
      ∙ found_give total exact key (λ x. p (key x)) m own (λ o. at o ∷ [])
      ∙ flat_map_single (λ x. at (Some x)) (filter (λ x. p (key x)) (values m))

-- ---- a page of them

module _ {K X : Type 0} {R : K → K → Ordering} (page : Page) (m : FinMap R X) (p q : K → Bool) (same : (k : K) → p k ≡ q k) (body : K → Json) where
  kept_same : kept p m ≡ kept q m
  kept_same = ap (λ (r : K → Bool). kept r m) (λ i k. same k i)

  pub page_is : (names : List K) (made : List Json) → names ≡ in_page page (kept p m) → made ≡ map body names → made ≡ in_page page (map body (kept q m))
  page_is names made n b =
      b ∙ ap (map body) (n ∙ ap (in_page page) kept_same)
      ∙ sym (ap (take _) (drop-map body page.offset (kept q m)) ∙ take-map body _ (drop page.offset (kept q m)))

  pub total_is : (total : ℕ) → total ≡ length (kept p m) → total ≡ length (map body (kept q m))
  total_is total n = n ∙ ap length kept_same ∙ sym (length-map (kept q m) body)

-- ---- the lists of the calls, over the tables that a state has

pub users_listed : (may : Rights) (s : Hub) (t : State) (rows : FinMap name_cmp User) → t ≡ s.tables → AreOwn t → rows ≡ t.users
    → map (user_at may s) (kept (λ name. may ListUsers (Ob.User name)) rows) ≡ users_shown may s (values s.tables.users)
users_listed may s t rows e own r =
    let here : AreOwn s.tables = subst AreOwn e own in
    ap (λ (m : FinMap name_cmp User). map (user_at may s) (kept (λ name. may ListUsers (Ob.User name)) m)) (r ∙ ap (λ (x : State). x.users) e)
    ∙ shown_rows nat_list_cmp_total names_exact (λ (u : User). u.name) s.tables.users (own_users s.tables here) (λ name. may ListUsers (Ob.User name)) (body_of_user may s)

pub groups_listed : (may : Rights) (s : Hub) (t : State) (rows : FinMap name_cmp Group) → t ≡ s.tables → AreOwn t → rows ≡ t.groups
    → map (group_at may s) (kept (λ name. may ListGroups (Ob.Group name)) rows) ≡ groups_shown may s (values s.tables.groups)
groups_listed may s t rows e own r =
    let here : AreOwn s.tables = subst AreOwn e own in
    ap (λ (m : FinMap name_cmp Group). map (group_at may s) (kept (λ name. may ListGroups (Ob.Group name)) m)) (r ∙ ap (λ (x : State). x.groups) e)
    ∙ shown_rows nat_list_cmp_total names_exact (λ (g : Group). g.name) s.tables.groups (own_groups s.tables here) (λ name. may ListGroups (Ob.Group name)) (body_of_group may s)

pub services_listed : (may : Rights) (s : Hub) (t : State) (rows : FinMap name_cmp Service) → t ≡ s.tables → AreOwn t → rows ≡ t.services
    → map (service_body may s) (kept (λ name. may ListServices (Ob.Service name)) rows) ≡ services_shown may s (values s.tables.services)
services_listed may s t rows e own r =
    let here : AreOwn s.tables = subst AreOwn e own in
    ap (λ (m : FinMap name_cmp Service). map (service_body may s) (kept (λ name. may ListServices (Ob.Service name)) m)) (r ∙ ap (λ (x : State). x.services) e)
    ∙ shown_keys nat_list_cmp_total names_exact (λ (v : Service). v.name) s.tables.services (own_services s.tables here) (λ name. may ListServices (Ob.Service name)) (service_body may s)

pub roles_listed : (s : Hub) (t : State) (rows : FinMap name_cmp Role) → t ≡ s.tables → AreOwn t → rows ≡ t.roles
    → map (role_at s) (kept (λ name. true) rows) ≡ map role_body (values s.tables.roles)
roles_listed s t rows e own r =
    let here : AreOwn s.tables = subst AreOwn e own in
    ap (λ (m : FinMap name_cmp Role). map (role_at s) (kept (λ name. true) m)) (r ∙ ap (λ (x : State). x.roles) e)
    ∙ shown_rows nat_list_cmp_total names_exact (λ (x : Role). x.name) s.tables.roles (own_roles s.tables here) (λ name. true) body_of_role
    ∙ ap (map role_body) (all_pass (values s.tables.roles))

-- ---- the servers of a user

pub servers_shown : (s : Hub) (t : State) (u : List ℕ) → t ≡ s.tables → AreOwn t
    → flat_map (λ key. facts_at s.lives (get s.tables.servers key)) (lookups.servers_of t u) ≡ servers_of s u
servers_shown s t u e own =
    let here : AreOwn s.tables = subst AreOwn e own in
    ap (λ (x : State). flat_map (λ key. facts_at s.lives (get s.tables.servers key)) (lookups.servers_of x u)) e
    ∙ found_give server_key.total-law key_exact (λ (row : ServerRow). row.key) (λ (row : ServerRow). same row.key.user u) s.tables.servers (own_servers s.tables here) (facts_at s.lives)
    ∙ flat_map_single (server_facts s.lives) (filter (λ (row : ServerRow). same row.key.user u) (values s.tables.servers))
