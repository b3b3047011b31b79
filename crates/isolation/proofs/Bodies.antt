-- Where a token sees the same of an object in two states, the object's body is the same in them.
use Rattle.std.proofs.Common.{◌≡◌, ℕ, Bool, true, false, cond, ◌&&◌, ◌||◌, List, [], ◌∷◌, ◌++◌, map, codes, Option, Some, None, refl, sym, ap, ◌∙◌, subst}
use Rattle.std.specs.List.{filter, filter_map, cons_option}
use Rattle.std.specs.Option.{option_map}
use Rattle.std.specs.Cmp.Lexicographic.{bytes_decides}
use Rattle.std.specs.FinMap.{get, values}
use Rattle.hub_kit.specs.KeyOrder.{key_exact}
use Rattle.hub_kit.specs.contracts.names.ServerKeyOrd.TheImpl.Laws as server_key
use Rattle.hub_kit.specs.declared.names.ServerKey.{ServerKey}
use Rattle.scope_names.specs.declared.action.Action.{Action}
use Rattle.scope_names.specs.declared.action.Action.TheVariants as A
use Rattle.scope_filters.specs.Contexts.{same}
use Rattle.scope_filters.specs.declared.object.Object.{Object}
use Rattle.scope_filters.specs.declared.object.Object.TheVariants as Ob
use Rattle.server_life.specs.declared.life.Life.{Life}
use Rattle.hub_rows.specs.declared.records.Group.{Group}
use Rattle.hub_rows.specs.declared.records.ServerRow.{ServerRow}
use Rattle.hub_rows.specs.declared.records.Token.{Token}
use Rattle.hub_rows.specs.declared.records.User.{User}
use Rattle.hub_tables.specs.Own.{AreOwn}
use Rattle.hub_tables.proofs.RowsAt.{own_servers}
use Rattle.hub_tables.specs.Lookups.{groups_of, roles_naming_group, roles_naming_service}
use Rattle.hub_view.specs.Json.{Json, Member, line, lines, truth, maybe, pairs, member}
use Rattle.hub_view.specs.Servers.{at, is_live, is_ready, pending, server_url}
use Rattle.hub_view.specs.Fields as view
use Rattle.hub_view.specs.Fields.{Rights, is_shown, named_server, shown_servers, servers_member, user_members, has_any}
use Rattle.hub_machine.specs.State.{Hub, life_of}
use Rattle.hub_calls.specs.Facts.{facts_of, servers_of, servers_among, roles_of_user, user_body, group_body}
use Rattle.hub_view.specs.declared.facts.ServerFacts.{ServerFacts}
use Rattle.isolation.specs.Sight.{May, ServerSeen, seen_row, server_seen, server, SameUser, SameGroup, SameService}
use Rattle.isolation.proofs.Picked.{shown, same_shown}

-- what a judgement allows, the token may do
abbrev pub Says : Hub → Token → Rights → Type 0
Says s k may = (a : Action) (x : Object) → may a x ≡ true → May s k a x

field : (b c : Bool) (name : List ℕ) (v w : Json) → b ≡ c → (b ≡ true → v ≡ w) → member b name v ≡ member c name w
field true c name v w e h = ap (λ (j : Json). (name, j) ∷ []) (h refl) ∙ ap (λ b. member b name w) e
field false c name v w e h = ap (λ b. member b name w) e

-- ---- servers

abbrev facts : Hub → ServerRow → ServerFacts
facts s r = record { row = r; life = life_of s.lives r.key }

abbrev no_member : Option Member
no_member = None

nothing_else : (b : Bool) → no_member ≡ cond b no_member no_member
nothing_else true = refl
nothing_else false = refl

-- the member of a server of the user, where it is shown
abbrev member_of : Rights → Hub → List ℕ → ServerRow → Option Member
member_of may s u r = cond (same r.key.user u) (cond (is_shown may (facts s r)) (Some (named_server (facts s r))) None) None

servers_picked : (may : Rights) (s : Hub) (u : List ℕ) (rows : List ServerRow)
    → map named_server (filter (is_shown may) (servers_among s.lives u rows)) ≡ filter_map (member_of may s u) rows
servers_picked may s u [] = refl
servers_picked may s u (r ∷ rows) =
    let rest : List ServerFacts = servers_among s.lives u rows in
    elim (same r.key.user u) as (λ b. map named_server (filter (is_shown may) (map (facts s) (cond b (r ∷ filter (λ r. same r.key.user u) rows) (filter (λ r. same r.key.user u) rows))))
    ≡ cons_option (cond b (cond (is_shown may (facts s r)) (Some (named_server (facts s r))) None) None) (filter_map (member_of may s u) rows)) [
      | true ↦ elim (is_shown may (facts s r)) as (λ c. map named_server (cond c (facts s r ∷ filter (is_shown may) rest) (filter (is_shown may) rest))
          ≡ cons_option (cond c (Some (named_server (facts s r))) None) (filter_map (member_of may s u) rows)) [
            | true ↦ ap (λ (ms : List Member). named_server (facts s r) ∷ ms) (servers_picked may s u rows)
            | false ↦ servers_picked may s u rows
          ]
      | false ↦ servers_picked may s u rows
    ]

-- what is seen of a server, as its member
abbrev member_from : ServerKey → ServerSeen → Member
member_from q v = (
  q.server,
  pairs (
      (codes "last_activity", maybe at v.last_activity)
      ∷ (codes "name", line q.server)
      ∷ (codes "pending", v.pending)
      ∷ (codes "ready", truth v.ready)
      ∷ (codes "started", maybe at v.started)
      ∷ (codes "url", line (server_url q))
      ∷ []),
)

abbrev member_at : Rights → List ℕ → ServerKey → Option ServerSeen → Option Member
member_at may u q v = cond (same q.user u) (cond (may A.ReadServers (Ob.Server q)) (option_map (member_from q) v) None) None

seen_of_row : (may : Rights) (s : Hub) (u : List ℕ) (r : ServerRow) → member_of may s u r ≡ member_at may u r.key (seen_row (life_of s.lives r.key) (Some r))
seen_of_row may s u r =
    let life : Life = life_of s.lives r.key in
    let m : Member = named_server (facts s r) in
    elim (same r.key.user u) as (λ b. cond b (cond (is_shown may (facts s r)) (Some m) None) None
    ≡ cond b (cond (may A.ReadServers (Ob.Server r.key)) (option_map (member_from r.key) (seen_row life (Some r))) None) None) [
      | true ↦ elim (is_live life.phase) as (λ l. cond (l && may A.ReadServers (Ob.Server r.key)) (Some m) None
          ≡ cond (may A.ReadServers (Ob.Server r.key)) (option_map (member_from r.key) (cond l (Some (record {
            last_activity = r.last_activity;
            started = r.started;
            pending = pending life.phase;
            ready = is_ready life.phase;
          })) None)) None) [
            | true ↦ refl
            | false ↦ nothing_else (may A.ReadServers (Ob.Server r.key))
          ]
      | false ↦ refl
    ]

seen_as : (may : Rights) (s : Hub) (u : List ℕ) (q : ServerKey) (o : Option ServerRow) → ((r : ServerRow) → o ≡ Some r → r.key ≡ q)
    → shown (member_of may s u) o ≡ member_at may u q (seen_row (life_of s.lives q) o)
seen_as may s u q None own =
    elim (same q.user u) as (λ b. no_member ≡ cond b (cond (may A.ReadServers (Ob.Server q)) no_member no_member) no_member) [
      | true ↦ nothing_else (may A.ReadServers (Ob.Server q))
      | false ↦ refl
    ]
seen_as may s u q (Some r) own =
    seen_of_row may s u r ∙ ap (λ (k : ServerKey). member_at may u k (seen_row (life_of s.lives k) (Some r))) (own r refl)

module _ (k : Token) (s t : Hub) (may : Rights) (says : Says s k may) (own : AreOwn s.tables) (own' : AreOwn t.tables) where
  abbrev SameServers : List ℕ → Type 0
  SameServers u = (name : List ℕ) → May s k A.ReadServers (Ob.Server (server u name)) → server_seen s (server u name) ≡ server_seen t (server u name)

  server_at : (u : List ℕ) → SameServers u → (q : ServerKey) → member_at may u q (server_seen s q) ≡ member_at may u q (server_seen t q)
  server_at u seen q =
      elim (same q.user u) as (λ b. same q.user u ≡ b → cond b (cond (may A.ReadServers (Ob.Server q)) (option_map (member_from q) (server_seen s q)) None) None
      ≡ cond b (cond (may A.ReadServers (Ob.Server q)) (option_map (member_from q) (server_seen t q)) None) None) [
        | true ↦ λ e. elim (may A.ReadServers (Ob.Server q)) as (λ c. may A.ReadServers (Ob.Server q) ≡ c → cond c (option_map (member_from q) (server_seen s q)) None
            ≡ cond c (option_map (member_from q) (server_seen t q)) None) [
              | true ↦ λ m. ap (option_map (member_from q)) (subst (λ (n : List ℕ). May s k A.ReadServers (Ob.Server (server n q.server)) → server_seen s (server n q.server) ≡ server_seen t (server n q.server))
                  (sym ((bytes_decides q.user u).0 e)) (seen q.server) (says A.ReadServers (Ob.Server q) m))
              | false ↦ λ m. refl
            ] refl
        | false ↦ λ e. refl
      ] refl

  same_servers : (u : List ℕ) → SameServers u → shown_servers may (servers_of s u) ≡ shown_servers may (servers_of t u)
  same_servers u seen =
      servers_picked may s u (values s.tables.servers)
      ∙ same_shown server_key.total-law key_exact (member_of may s u) (member_of may t u) s.tables.servers t.tables.servers (λ q.
      seen_as may s u q (get s.tables.servers q) (own_servers s.tables own q) ∙ server_at u seen q ∙ sym (seen_as may t u q (get t.tables.servers q) (own_servers t.tables own' q)))
      ∙ sym (servers_picked may t u (values t.tables.servers))

  -- ---- users

  abbrev can : Action → List ℕ → Bool
  can a u = may a (Ob.User u)

  module _ (x y : User) (name : x.name ≡ y.name) (seen : SameUser k s t x.name x y) where
    abbrev at_name : (a : Action) → can a x.name ≡ can a y.name
    at_name a = ap (can a) name

    pub same_user_members : (named : Bool) → user_members may named (facts_of s x) ≡ user_members may named (facts_of t y)
    same_user_members named =
        let admin = field (can A.ReadUsers x.name) (can A.ReadUsers y.name) (codes "admin") (truth x.admin) (truth y.admin) (at_name A.ReadUsers) (λ m. ap truth (seen.admin (says _ _ m))) in
        let created = field (can A.ReadUsers x.name) (can A.ReadUsers y.name) (codes "created") (at x.created) (at y.created) (at_name A.ReadUsers) (λ m. ap at (seen.created (says _ _ m))) in
        let groups = field (can A.ReadUsersGroups x.name) (can A.ReadUsersGroups y.name) (codes "groups") (lines (groups_of s.tables x.name)) (lines (groups_of t.tables y.name)) (at_name A.ReadUsersGroups)
        (λ m. ap lines (seen.groups (says _ _ m) ∙ ap (groups_of t.tables) name)) in
        let active = field (can A.ReadUsersActivity x.name) (can A.ReadUsersActivity y.name) (codes "last_activity") (maybe at x.last_activity) (maybe at y.last_activity) (at_name A.ReadUsersActivity)
        (λ m. ap (maybe at) (seen.last_activity (says _ _ m))) in
        let roles = field (can A.ReadRolesUsers x.name) (can A.ReadRolesUsers y.name) (codes "roles") (lines (roles_of_user s.tables x)) (lines (roles_of_user t.tables y)) (at_name A.ReadRolesUsers)
        (λ m. ap lines (seen.roles (says _ _ m))) in
        λ i. admin i ++ created i ++ groups i ++ member (named || can A.ReadUsersName (name i)) (codes "kind") (line (codes "user"))
        ++ active i ++ member (named || can A.ReadUsersName (name i)) (codes "name") (line (name i)) ++ roles i

    pub same_servers_member : servers_member may (facts_of s x) ≡ servers_member may (facts_of t y)
    same_servers_member =
        let shown = same_servers x.name seen.servers ∙ ap (λ u. shown_servers may (servers_of t u)) name in
        λ i. member (has_any (shown i) || can A.ReadServers (name i)) (codes "servers") (pairs (shown i))

    pub same_user_body : user_body may s x ≡ user_body may t y
    same_user_body = λ i. pairs (same_user_members false i ++ same_servers_member i)

  -- ---- groups and services

  same_group_body : (x y : Group) → x.name ≡ y.name → SameGroup k s t x.name x y → group_body may s x ≡ group_body may t y
  same_group_body x y name seen =
      let roles = field (may A.ReadRolesGroups (Ob.Group x.name)) (may A.ReadRolesGroups (Ob.Group y.name)) (codes "roles")
      (lines (roles_naming_group s.tables x.name)) (lines (roles_naming_group t.tables y.name)) (ap (λ g. may A.ReadRolesGroups (Ob.Group g)) name)
      (λ m. ap lines (seen.roles (says _ _ m) ∙ ap (roles_naming_group t.tables) name)) in
      let users = field (may A.ReadGroups (Ob.Group x.name)) (may A.ReadGroups (Ob.Group y.name)) (codes "users") (lines x.users) (lines y.users)
      (ap (λ g. may A.ReadGroups (Ob.Group g)) name) (λ m. ap lines (seen.users (says _ _ m))) in
      λ i. pairs (member (may A.ReadGroupsName (Ob.Group (name i))) (codes "kind") (line (codes "group"))
      ++ member (may A.ReadGroupsName (Ob.Group (name i))) (codes "name") (line (name i)) ++ roles i ++ users i)

  pub same_service_members : (v : List ℕ) (named : Bool) → SameService k s t v
      → view.service_members may named v (roles_naming_service s.tables v) ≡ view.service_members may named v (roles_naming_service t.tables v)
  same_service_members v named seen =
      let roles = field (may A.ReadRolesServices (Ob.Service v)) (may A.ReadRolesServices (Ob.Service v)) (codes "roles")
      (lines (roles_naming_service s.tables v)) (lines (roles_naming_service t.tables v)) refl (λ m. ap lines (seen.roles (says _ _ m))) in
      λ i. member (named || may A.ReadServicesName (Ob.Service v)) (codes "kind") (line (codes "service"))
      ++ member (named || may A.ReadServicesName (Ob.Service v)) (codes "name") (line v) ++ roles i

  -- ---- one object, in both states or in neither

  user_here : (u : List ℕ) (x y : User) → x.name ≡ u → y.name ≡ u → SameUser k s t u x y → SameUser k s t x.name x y
  user_here u x y nx ny seen = subst (λ n. SameUser k s t n x y) (sym nx) seen

  pub group_same : (g : List ℕ) (x y : Group) → x.name ≡ g → y.name ≡ g → SameGroup k s t g x y → group_body may s x ≡ group_body may t y
  group_same g x y nx ny seen = same_group_body x y (nx ∙ sym ny) (subst (λ n. SameGroup k s t n x y) (sym nx) seen)

  pub user_same : (u : List ℕ) (x y : User) → x.name ≡ u → y.name ≡ u → SameUser k s t u x y → user_body may s x ≡ user_body may t y
  user_same u x y nx ny seen = same_user_body x y (nx ∙ sym ny) (user_here u x y nx ny seen)

  pub identity_same : (u : List ℕ) (server : Option ServerKey) (x y : User) → x.name ≡ u → y.name ≡ u → SameUser k s t u x y
      → view.user_identity may (facts_of s x) k.scopes server ≡ view.user_identity may (facts_of t y) k.scopes server
  identity_same u server x y nx ny seen =
      let here = user_here u x y nx ny seen in
      let members = same_user_members x y (nx ∙ sym ny) here true in
      let servers = same_servers_member x y (nx ∙ sym ny) here in
      λ i. pairs (view.access_member may server ++ members i ++ view.scopes_member k.scopes ++ servers i)
