-- What a guard reads at `access` in the body of an identity.
use Rattle.std.proofs.Common.{◌≡◌, ℕ, ◌≤◌, arith, Bool, true, false, ◌||◌, List, [], ◌∷◌, ◌++◌, map, filter, Option, Some, None, option_map, option_and_then, Less, Greater, nat_cmp, refl, sym, ap, ◌∙◌, codes, append-nil, if◌then◌else◌}
use Rattle.std.specs.Cmp.Lexicographic.{slice_cmp}
use Rattle.std.specs.List.{AllByRecursion}
use Rattle.std.specs.Ordering.{match_ordering}
use Rattle.std.specs.Str.{is_utf8}
use Rattle.json.specs.Json as json
use Rattle.json.specs.Token as token
use Rattle.json.specs.Lex.{tokens}
use Rattle.json.specs.Print.{print, print_from}
use Rattle.json.specs.Tree.{json_tokens}
use Rattle.json.proofs.Printed.Tokens.{tokens-print}
use Rattle.json.proofs.Printed.Trees.{value-json_tokens, ArePrintable-json_tokens}
use Rattle.serde_json.specs.Data.{Data, boolean, object, Members, no_members, member, put}
use Rattle.serde_json.specs.Find.{get_member, as_bool}
use Rattle.serde_json.specs.Read.{of_json, of_members, read, max_depth}
use Rattle.scope_filters.specs.Scopes.{scope_text}
use Rattle.scope_filters.specs.declared.object.Object.TheVariants as Ob
use Rattle.scope_filters.specs.declared.scope.RawScope.{RawScope}
use Rattle.scope_names.specs.declared.action.Action.TheVariants.{AccessServers, ReadUsers, ReadUsersGroups, ReadUsersActivity, ReadRolesUsers, ReadServers, ReadRolesServices}
use Rattle.request_parts.specs.Bodies.{◌>>=◌, if_object, object_in, body_object, truth_at}
use Rattle.guard.specs.Access.{access_in}
use Rattle.access_laws.specs.Bodies.{SaysSo}
use Rattle.hub_kit.specs.declared.names.ServerKey.{ServerKey}
use Rattle.hub_kit.specs.MomentTexts.{moment_text}
use Rattle.hub_view.specs.Fields.{Rights, user_identity, service_identity, user_members, service_members, scopes_member, servers_member, shown_servers, named_server, is_shown, has_any}
use Rattle.hub_view.specs.Json.{Json, Member, line, lines, nothing, truth, maybe, pairs, pairs_on}
use Rattle.hub_view.specs.Json as view
use Rattle.hub_view.specs.Servers.{at, pending, server_body, is_ready, server_url}
use Rattle.hub_view.specs.declared.facts.ServerFacts.{ServerFacts}
use Rattle.hub_view.specs.declared.facts.UserFacts.{UserFacts}
use Rattle.server_life.specs.declared.life.Phase.{Phase}
use Rattle.server_life.specs.declared.life.Phase.TheVariants.{Stopped, Adopting, Spawning, Routing, Ready}
use Rattle.access_laws.proofs.Trees.{IsTree, line_tree, truth_tree, nothing_tree, maybe_tree, lines_tree, MembersTree, MembersNumberless, members_numbers, members_read, ValueIsTree, members_tree, pairs_tree, all_then, all_member, all_map}

abbrev pub access : List ℕ
access = codes "access"

-- ---- the other members of an identity: each a tree, under a name behind `access`

pub record IsOther (name : List ℕ) : Type 0 where
  pub behind : slice_cmp nat_cmp access name ≡ Less
  pub before : slice_cmp nat_cmp name access ≡ Greater

pub record IsBeside (m : Member) : Type 0 where
  pub tree : IsTree m.1 3
  pub other : IsOther m.0

beside : (shown : Bool) (name : List ℕ) (value : Json) → IsTree value 3 → IsOther name → AllByRecursion IsBeside (view.member shown name value)
beside shown name value tree other = all_member IsBeside shown name value (record { tree = tree; other = other })

pending_tree : (p : Phase) (d : ℕ) → IsTree (pending p) d
pending_tree Stopped d = nothing_tree d
pending_tree (Ready g) d = nothing_tree d
pending_tree (Adopting g) d = line_tree _ d
pending_tree (Spawning g) d = line_tree _ d
pending_tree (Routing g) d = line_tree _ d
pending_tree _ d = line_tree _ d

abbrev server_members : ServerFacts → List Member
server_members s =
    (codes "last_activity", maybe at s.row.last_activity)
    ∷ (codes "name", line s.row.key.server)
    ∷ (codes "pending", pending s.life.phase)
    ∷ (codes "ready", truth (is_ready s.life.phase))
    ∷ (codes "started", maybe at s.row.started)
    ∷ (codes "url", line (server_url s.row.key))
    ∷ []

server_tree : (s : ServerFacts) → IsTree (server_body s) 1
server_tree s =
    pairs_tree (server_members s) 0 (
      maybe_tree at 0 (λ m. line_tree (moment_text m) 0) s.row.last_activity,
      (
        line_tree s.row.key.server 0,
        (
          pending_tree s.life.phase 0,
          (
            truth_tree (is_ready s.life.phase) 0,
            (
              maybe_tree at 0 (λ m. line_tree (moment_text m) 0) s.row.started,
              (
                line_tree (server_url s.row.key) 0,
                tt,
              ),
            ),
          ),
        ),
      ),
    )

deeper : (ts : Json) (d : ℕ) → d ≤ 3 → IsTree ts d → IsTree ts 3
deeper ts d less t = record { tree = t.tree; is = t.is; numbers = t.numbers; shallow = omega (arith, t.shallow, less) }

servers_beside : (may : Rights) (u : UserFacts) → AllByRecursion IsBeside (servers_member may u)
servers_beside may u =
    beside (has_any (shown_servers may u.servers) || may ReadServers (Ob.User u.user.name)) (codes "servers") (pairs (shown_servers may u.servers))
    (deeper (pairs (shown_servers may u.servers)) 2 (omega arith)
    (pairs_tree (shown_servers may u.servers) 1 (all_map (ValueIsTree 1) named_server (λ s. server_tree s) (filter (is_shown may) u.servers))))
    (record { behind = refl; before = refl })

scopes_beside : (scopes : List RawScope) → AllByRecursion IsBeside (scopes_member scopes)
scopes_beside scopes =
    beside true (codes "scopes") (lines (map scope_text scopes)) (deeper (lines (map scope_text scopes)) 1 (omega arith) (lines_tree (map scope_text scopes) 0))
    (record { behind = refl; before = refl })

-- members, and one more behind them
more : (before : List Member) (shown : Bool) (name : List ℕ) (value : Json) → AllByRecursion IsBeside before → IsTree value 3 → IsOther name
    → AllByRecursion IsBeside (before ++ view.member shown name value)
more before shown name value all tree other = all_then IsBeside before (view.member shown name value) all (beside shown name value tree other)

user_beside : (may : Rights) (u : UserFacts) → AllByRecursion IsBeside (user_members may true u)
user_beside may u =
    let admin : List Member = view.member (may ReadUsers (Ob.User u.user.name)) (codes "admin") (truth u.user.admin) in
    let created : List Member = admin ++ view.member (may ReadUsers (Ob.User u.user.name)) (codes "created") (at u.user.created) in
    let groups : List Member = created ++ view.member (may ReadUsersGroups (Ob.User u.user.name)) (codes "groups") (lines u.groups) in
    let kind : List Member = groups ++ view.member true (codes "kind") (line (codes "user")) in
    let active : List Member = kind ++ view.member (may ReadUsersActivity (Ob.User u.user.name)) (codes "last_activity") (maybe at u.user.last_activity) in
    let name : List Member = active ++ view.member true (codes "name") (line u.user.name) in
    more name (may ReadRolesUsers (Ob.User u.user.name)) (codes "roles") (lines u.roles)
    (more active true (codes "name") (line u.user.name)
    (more kind (may ReadUsersActivity (Ob.User u.user.name)) (codes "last_activity") (maybe at u.user.last_activity)
    (more groups true (codes "kind") (line (codes "user"))
    (more created (may ReadUsersGroups (Ob.User u.user.name)) (codes "groups") (lines u.groups)
    (more admin (may ReadUsers (Ob.User u.user.name)) (codes "created") (at u.user.created)
    (beside (may ReadUsers (Ob.User u.user.name)) (codes "admin") (truth u.user.admin) (truth_tree u.user.admin 3) (record { behind = refl; before = refl }))
    (line_tree (moment_text u.user.created) 3) (record { behind = refl; before = refl }))
    (deeper (lines u.groups) 1 (omega arith) (lines_tree u.groups 0)) (record { behind = refl; before = refl }))
    (line_tree (codes "user") 3) (record { behind = refl; before = refl }))
    (maybe_tree at 3 (λ m. line_tree (moment_text m) 3) u.user.last_activity) (record { behind = refl; before = refl }))
    (line_tree u.user.name 3) (record { behind = refl; before = refl }))
    (deeper (lines u.roles) 1 (omega arith) (lines_tree u.roles 0)) (record { behind = refl; before = refl })

service_beside : (may : Rights) (v : List ℕ) (roles : List (List ℕ)) → AllByRecursion IsBeside (service_members may true v roles)
service_beside may v roles =
    let kind : List Member = view.member true (codes "kind") (line (codes "service")) in
    let name : List Member = kind ++ view.member true (codes "name") (line v) in
    more name (may ReadRolesServices (Ob.Service v)) (codes "roles") (lines roles)
    (more kind true (codes "name") (line v)
    (beside true (codes "kind") (line (codes "service")) (line_tree (codes "service") 3) (record { behind = refl; before = refl }))
    (line_tree v 3) (record { behind = refl; before = refl }))
    (deeper (lines roles) 1 (omega arith) (lines_tree roles 0)) (record { behind = refl; before = refl })

-- ---- their tree

AreOthers : json.Members → Type 0
AreOthers json.no_members = Unit {0}
AreOthers (json.member k j ms) = IsOther k × AreOthers ms

record Beside (ms : List Member) : Type 0 where
  members : MembersTree ms 3
  others : AreOthers members.tree

trees : (ms : List Member) → AllByRecursion IsBeside ms → AllByRecursion (ValueIsTree 3) ms
trees [] all = tt
trees (m ∷ ms) all = (all.0.tree, trees ms all.1)

names : (ms : List Member) (all : AllByRecursion IsBeside ms) → AreOthers (members_tree ms 3 (trees ms all)).tree
unfolding AreOthers members_tree trees
names [] all = tt
names (m ∷ ms) all = (all.0.other, names ms all.1)

-- ---- what is found at `access`

-- what was found first stays at the front
abbrev Front : Members → Data → Type 0
Front m d = (behind : Members) × (m ≡ member access d behind)

put_behind : (k : List ℕ) (d : Data) (rest : Members) (ms : json.Members) (m : Members) → IsOther k
    → ((e : Data) → of_members ms (member access d (put k e rest)) ≡ Some m → Front m d)
    → (read : Option Data) → option_and_then (λ e. of_members ms (put k e (member access d rest))) read ≡ Some m → Front m d
put_behind k d rest ms m other later None is = absurd (cc is)
put_behind k d rest ms m other later (Some e) is =
    later e
    (ap (λ o. of_members ms (match_ordering o (member k e (member access d rest)) (member access e rest) (member access d (put k e rest)))) (sym other.before) ∙ is)

front_stays : (ms : json.Members) (d : Data) (rest m : Members) → AreOthers ms → of_members ms (member access d rest) ≡ Some m → Front m d
unfolding AreOthers
front_stays json.no_members d rest m others is = (rest, cc is)
front_stays (json.member k j ms) d rest m others is =
    put_behind k d rest ms m others.0 (λ e read. front_stays ms d (put k e rest) m others.1 read) (of_json j) is

object_says : (b : Bool) (ms : json.Members) → AreOthers ms → MembersNumberless ms
    → ((option_map object (of_members ms (member access (boolean b) no_members)) >>= if_object) >>= truth_at access) ≡ Some b
unfolding truth_at
object_says b ms others none =
    let (m, there) = members_read ms (member access (boolean b) no_members) none in
    let front = front_stays ms (boolean b) no_members m others there in
    ap (λ (read : Option Members). (option_map object read >>= if_object) >>= truth_at access) there
    ∙ ap (λ (found : Members). get_member access found >>= as_bool) front.1

-- a text that isn't UTF-8 says nothing
if_utf8 : (good : Bool) (found : Option Data) (b : Bool) → (found >>= truth_at access) ≡ Some b
    → ((if good then found else None) >>= truth_at access) ≡ (if good then Some b else None)
if_utf8 true found b is = is
if_utf8 false found b is = refl

pub body_says : (b : Bool) (ms : List Member) → AllByRecursion IsBeside ms → SaysSo (print (pairs ((access, truth b) ∷ ms))) b
unfolding body_object print_from
body_says b ms all =
    let beside = members_tree ms 3 (trees ms all) in
    let tree : json.Json = json.object (json.member access (json.boolean b) beside.tree) in
    let text : List ℕ = print (pairs ((access, truth b) ∷ ms)) in
    let same : pairs ((access, truth b) ∷ ms) ≡ json_tokens tree = ap (λ ts. token.begin_object ∷ token.key access ∷ token.boolean b ∷ ts) beside.is in
    let all_tokens : tokens text ≡ json_tokens tree ++ [] =
    ap (λ (ts : Json). tokens (print ts)) same
    ∙ (tokens-print (json_tokens tree) (ArePrintable-json_tokens tree (tt, members_numbers beside.tree beside.numbers)) ∙ sym (append-nil (json_tokens tree))) in
    let reads : read text ≡ of_json tree =
    ap (λ (ts : Json). option_and_then of_json (option_and_then (λ p. json.if_last p.0 p.1) (json.value max_depth ts))) all_tokens
    ∙ ap (λ r. option_and_then of_json (option_and_then (λ p. json.if_last p.0 p.1) r)) (value-json_tokens tree max_depth [] (omega (arith, beside.shallow))) in
    if_utf8 (is_utf8 text) (object_in text) b
    (ap (λ (r : Option Data). (r >>= if_object) >>= truth_at access) reads ∙ object_says b beside.tree (names ms all) beside.numbers)

pub user_says : (may : Rights) (u : UserFacts) (scopes : List RawScope) (server : ServerKey)
    → SaysSo (print (user_identity may u scopes (Some server))) (may AccessServers (Ob.Server server))
user_says may u scopes server =
    body_says (may AccessServers (Ob.Server server)) (user_members may true u ++ scopes_member scopes ++ servers_member may u)
    (all_then IsBeside (user_members may true u ++ scopes_member scopes) (servers_member may u)
    (all_then IsBeside (user_members may true u) (scopes_member scopes) (user_beside may u) (scopes_beside scopes))
    (servers_beside may u))

pub service_says : (may : Rights) (service : List ℕ) (roles : List (List ℕ)) (scopes : List RawScope) (server : ServerKey)
    → SaysSo (print (service_identity may service roles scopes (Some server))) (may AccessServers (Ob.Server server))
service_says may service roles scopes server =
    body_says (may AccessServers (Ob.Server server)) (service_members may true service roles ++ scopes_member scopes)
    (all_then IsBeside (service_members may true service roles) (scopes_member scopes) (service_beside may service roles) (scopes_beside scopes))

-- ---- null

if_none : (good : Bool) (found : Option Data) → (found >>= truth_at access) ≡ None → ((if good then found else None) >>= truth_at access) ≡ None
if_none true found is = is
if_none false found is = refl

pub nothing_says : access_in (print nothing) ≡ None
unfolding body_object print_from
nothing_says =
    let tree : json.Json = json.null in
    let text : List ℕ = print nothing in
    let all_tokens : tokens text ≡ json_tokens tree ++ [] =
    tokens-print (json_tokens tree) (ArePrintable-json_tokens tree tt) ∙ sym (append-nil (json_tokens tree)) in
    let reads : read text ≡ of_json tree =
    ap (λ (ts : Json). option_and_then of_json (option_and_then (λ p. json.if_last p.0 p.1) (json.value max_depth ts))) all_tokens
    ∙ ap (λ r. option_and_then of_json (option_and_then (λ p. json.if_last p.0 p.1) r)) (value-json_tokens tree max_depth [] (omega arith)) in
    if_none (is_utf8 text) (object_in text) (ap (λ (r : Option Data). (r >>= if_object) >>= truth_at access) reads)
