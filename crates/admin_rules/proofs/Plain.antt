-- None of the changes puts a row that is found by a hash, and so each put of them fits.
use Rattle.std.proofs.Common.{◌≡◌, ℕ, Bool, true, false, ◌||◌, List, [], ◌∷◌, ◌++◌, map, filter, refl, sym, subst}
use Rattle.std.specs.Prelude.{Option, Some, None}
use Rattle.std.specs.List.{flat_map, list_any}
use Rattle.std.specs.FinMap.{get, values}
use Rattle.hub_kit.specs.declared.names.ServerKey.{ServerKey}
use Rattle.hub_rows.specs.declared.records.Token.{Token}
use Rattle.hub_rows.specs.declared.records.User.{User}
use Rattle.hub_rows.specs.declared.records.ServerRow.{ServerRow}
use Rattle.hub_rows.specs.declared.records.Share.{Share}
use Rattle.hub_rows.specs.declared.records.ShareCode.{ShareCode}
use Rattle.hub_rows.specs.declared.records.OAuthClient.{OAuthClient}
use Rattle.hub_rows.specs.declared.records.OAuthCode.{OAuthCode}
use Rattle.hub_rows.specs.declared.changes.RowChange.{RowChange}
use Rattle.hub_rows.specs.declared.changes.RowChange.TheVariants.{Put, Remove}
use Rattle.hub_rows.specs.declared.rows.Row.{Row}
use Rattle.hub_rows.specs.declared.rows.Row.TheVariants as Row
use Rattle.hub_rows.specs.declared.rows.RowKey.TheVariants as RowKey
use Rattle.hub_tables.specs.Changes.{puts_hashed, with_row, FitsKey, FitAll}
use Rattle.hub_tables.specs.State.{State}
use Rattle.admin_rules.specs.Purges.{changes_of, has_member, without_member, is_held_by_user, without_user, is_token_of_user, is_server_of_user, is_share_of_user, is_code_of_user, is_called, clients_of_user, is_grant_of_user, user_rows, is_held_by_group, without_group, is_share_to_group, group_rows, is_held_by_service, without_service, is_token_of_service, is_client, client_of_service, service_rows, is_share_of_server, is_code_of_server, server_rows}
use Rattle.admin_rules.specs.Servers.{Told, newer, server_activity, server_of, server_seen, servers_activity, user_activity, user_seen}
use Rattle.admin_rules.specs.Users.{new_user}
use Rattle.admin_rules.specs.Rules.{ArePlain}

both : (a b : Bool) → a ≡ false → b ≡ false → (a || b) ≡ false
both true b h k = h
both false b h k = k

plain-append : (xs ys : List RowChange) → ArePlain xs → ArePlain ys → ArePlain (xs ++ ys)
plain-append [] ys h k = k
plain-append (x ∷ xs) ys h k = split (puts_hashed x) (list_any puts_hashed xs) h (plain-append xs ys)
  where
    split : (a b : Bool) → (a || b) ≡ false → (b ≡ false → ArePlain ys → ArePlain (xs ++ ys)) → (a || list_any puts_hashed (xs ++ ys)) ≡ false
    split true b e f = e
    split false b e f = f e k

plain-map : {X : Type 0} (change : X → RowChange) → ((x : X) → puts_hashed (change x) ≡ false) → (rows : List X) → ArePlain (map change rows)
plain-map change h [] = refl
plain-map change h (x ∷ xs) = both (puts_hashed (change x)) (list_any puts_hashed (map change xs)) (h x) (plain-map change h xs)

plain_users : (admin : Bool) (now : ℕ) (names : List (List ℕ)) → ArePlain (map (new_user admin now) names)
plain_users admin now names = plain-map (new_user admin now) (λ _. refl) names

changed : {X : Type 0} (takes : X → Bool) (change : X → RowChange) → ((x : X) → puts_hashed (change x) ≡ false) → (rows : List X) → ArePlain (changes_of takes change rows)
changed takes change h rows = plain-map change h (filter takes rows)

three : (a b c : List RowChange) → ArePlain a → ArePlain b → ArePlain c → ArePlain (a ++ b ++ c)
three a b c pa pb pc = plain-append (a ++ b) c (plain-append a b pa pb) pc

five : (a b c d e : List RowChange) → ArePlain a → ArePlain b → ArePlain c → ArePlain d → ArePlain e → ArePlain (a ++ b ++ c ++ d ++ e)
five a b c d e pa pb pc pd pe = plain-append (a ++ b ++ c ++ d) e (plain-append (a ++ b ++ c) d (three a b c pa pb pc) pd) pe

plain_user : (s : State) (user : List ℕ) → ArePlain (user_rows s user)
plain_user s user =
    let groups : List RowChange = changes_of (has_member user) (without_member user) (values s.groups) in
    let roles : List RowChange = changes_of (is_held_by_user user) (without_user user) (values s.roles) in
    let row : List RowChange = Remove (RowKey.User user) ∷ [] in
    let of_tokens : Token → RowChange = λ token. Remove (RowKey.Token token.id) in
    let of_servers : ServerRow → RowChange = λ row. Remove (RowKey.ServerRow row.key) in
    let of_shares : Share → RowChange = λ share. Remove (RowKey.Share share.key) in
    let of_codes : ShareCode → RowChange = λ code. Remove (RowKey.ShareCode code.id) in
    let of_clients : OAuthClient → RowChange = λ client. Remove (RowKey.OAuthClient client.id) in
    let of_grants : OAuthCode → RowChange = λ code. Remove (RowKey.OAuthCode code.hash) in
    let tokens : List RowChange = changes_of (is_token_of_user user) of_tokens (values s.tokens) in
    let servers : List RowChange = changes_of (is_server_of_user user) of_servers (values s.servers) in
    let first : List RowChange = groups ++ roles ++ row ++ tokens ++ servers in
    let shares : List RowChange = changes_of (is_share_of_user user) of_shares (values s.shares) in
    let codes : List RowChange = changes_of (is_code_of_user user) of_codes (values s.codes) in
    let clients : List RowChange = changes_of (is_called (clients_of_user user)) of_clients (values s.clients) in
    let grants : List RowChange = changes_of (is_grant_of_user user) of_grants (values s.grant_codes) in
    five first shares codes clients grants
    (five groups roles row tokens servers
    (changed (has_member user) (without_member user) (λ _. refl) (values s.groups))
    (changed (is_held_by_user user) (without_user user) (λ _. refl) (values s.roles))
    refl
    (changed (is_token_of_user user) of_tokens (λ _. refl) (values s.tokens))
    (changed (is_server_of_user user) of_servers (λ _. refl) (values s.servers)))
    (changed (is_share_of_user user) of_shares (λ _. refl) (values s.shares))
    (changed (is_code_of_user user) of_codes (λ _. refl) (values s.codes))
    (changed (is_called (clients_of_user user)) of_clients (λ _. refl) (values s.clients))
    (changed (is_grant_of_user user) of_grants (λ _. refl) (values s.grant_codes))

plain_group : (s : State) (group : List ℕ) → ArePlain (group_rows s group)
plain_group s group =
    let of_shares : Share → RowChange = λ share. Remove (RowKey.Share share.key) in
    let row : List RowChange = Remove (RowKey.Group group) ∷ [] in
    three (changes_of (is_held_by_group group) (without_group group) (values s.roles)) row (changes_of (is_share_to_group group) of_shares (values s.shares))
    (changed (is_held_by_group group) (without_group group) (λ _. refl) (values s.roles))
    refl
    (changed (is_share_to_group group) of_shares (λ _. refl) (values s.shares))

plain_service : (s : State) (service : List ℕ) → ArePlain (service_rows s service)
plain_service s service =
    let of_tokens : Token → RowChange = λ token. Remove (RowKey.Token token.id) in
    let of_clients : OAuthClient → RowChange = λ client. Remove (RowKey.OAuthClient client.id) in
    let roles : List RowChange = changes_of (is_held_by_service service) (without_service service) (values s.roles) in
    let row : List RowChange = Remove (RowKey.Service service) ∷ [] in
    let tokens : List RowChange = changes_of (is_token_of_service service) of_tokens (values s.tokens) in
    let clients : List RowChange = changes_of (is_client (client_of_service service)) of_clients (values s.clients) in
    plain-append (roles ++ row ++ tokens) clients
    (three roles row tokens
    (changed (is_held_by_service service) (without_service service) (λ _. refl) (values s.roles))
    refl
    (changed (is_token_of_service service) of_tokens (λ _. refl) (values s.tokens)))
    (changed (is_client (client_of_service service)) of_clients (λ _. refl) (values s.clients))

plain_server : (s : State) (server : ServerKey) → ArePlain (server_rows s server)
plain_server s server =
    let of_shares : Share → RowChange = λ share. Remove (RowKey.Share share.key) in
    let of_codes : ShareCode → RowChange = λ code. Remove (RowKey.ShareCode code.id) in
    let row : List RowChange = Remove (RowKey.ServerRow server) ∷ [] in
    three row (changes_of (is_share_of_server server) of_shares (values s.shares)) (changes_of (is_code_of_server server) of_codes (values s.codes))
    refl
    (changed (is_share_of_server server) of_shares (λ _. refl) (values s.shares))
    (changed (is_code_of_server server) of_codes (λ _. refl) (values s.codes))

plain_flat : {X : Type 0} (changes : X → List RowChange) → ((x : X) → ArePlain (changes x)) → (rows : List X) → ArePlain (flat_map changes rows)
plain_flat changes h [] = refl
plain_flat changes h (x ∷ xs) = plain-append (changes x) (flat_map changes xs) (h x) (plain_flat changes h xs)

plain_user_seen : (user : User) (at : Option ℕ) → ArePlain (user_seen user at)
plain_user_seen user None = refl
plain_user_seen user (Some at) = refl

plain_user_activity : (now : ℕ) (told : Option ℕ) (kept : Option User) → ArePlain (user_activity now told kept)
plain_user_activity now told None = refl
plain_user_activity now told (Some user) = plain_user_seen user (newer now user.last_activity told)

plain_server_seen : (row : ServerRow) (at : Option ℕ) → ArePlain (server_seen row at)
plain_server_seen row None = refl
plain_server_seen row (Some at) = refl

plain_server_activity : (now : ℕ) (told : Option ℕ) (kept : Option ServerRow) → ArePlain (server_activity now told kept)
plain_server_activity now told None = refl
plain_server_activity now told (Some row) = plain_server_seen row (newer now row.last_activity told)

-- ---- the same of rows that are these

pub users_plain : (admin : Bool) (now : ℕ) (names : List (List ℕ)) (rows : List RowChange) → rows ≡ map (new_user admin now) names → ArePlain rows
users_plain admin now names rows e = subst ArePlain (sym e) (plain_users admin now names)

pub user_plain : (s : State) (user : List ℕ) (rows : List RowChange) → rows ≡ user_rows s user → ArePlain rows
user_plain s user rows e = subst ArePlain (sym e) (plain_user s user)

pub group_plain : (s : State) (group : List ℕ) (rows : List RowChange) → rows ≡ group_rows s group → ArePlain rows
group_plain s group rows e = subst ArePlain (sym e) (plain_group s group)

pub service_plain : (s : State) (service : List ℕ) (rows : List RowChange) → rows ≡ service_rows s service → ArePlain rows
service_plain s service rows e = subst ArePlain (sym e) (plain_service s service)

pub server_plain : (s : State) (server : ServerKey) (rows : List RowChange) → rows ≡ server_rows s server → ArePlain rows
server_plain s server rows e = subst ArePlain (sym e) (plain_server s server)

pub activity_plain : (s : State) (user : List ℕ) (now : ℕ) (told : Option ℕ) (servers : Told) (first rows : List RowChange)
    → first ≡ user_activity now told (get s.users user) → rows ≡ first ++ servers_activity s now user servers → ArePlain rows
activity_plain s user now told servers first rows e h =
    subst ArePlain (sym h) (plain-append first (servers_activity s now user servers)
    (subst ArePlain (sym e) (plain_user_activity now told (get s.users user)))
    (plain_flat (λ x. server_activity now x.1 (get s.servers (server_of user x.0))) (λ x. plain_server_activity now x.1 (get s.servers (server_of user x.0))) servers))

-- ---- rows that aren't found by a hash fit anywhere

true_false : true ≡ false → ⊥
true_false e = cc

unhashed : (row : Row) (t : State) → puts_hashed (Put row) ≡ false → FitsKey t row
unhashed (Row.Token x) t h = absurd (true_false h)
unhashed (Row.ShareCode x) t h = absurd (true_false h)
unhashed _ t h = tt

neither : (a b : Bool) → (a || b) ≡ false → (a ≡ false) × (b ≡ false)
neither true b h = absurd (true_false h)
neither false b h = (refl, h)

pub plain_fit : (rows : List RowChange) (t : State) → ArePlain rows → FitAll rows t
plain_fit [] t h = tt
plain_fit (Put row ∷ rest) t h =
    let apart = neither (puts_hashed (Put row)) (list_any puts_hashed rest) h in
    (unhashed row t apart.0, plain_fit rest (with_row row t) apart.1)
plain_fit (Remove key ∷ rest) t h = plain_fit rest t h
