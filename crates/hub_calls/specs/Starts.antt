-- The start of a server: the first rule that refuses it, and its rows.
use Rattle.std.specs.Prelude.{ℕ, ◌+◌, ◌-◌, ◌^◌, Bool, not, ◌&&◌, ◌||◌, nat_le, List, [], ◌∷◌, ◌++◌, length, codes, count_by, Option, Some}
use Rattle.std.specs.Prelude.{None, Ok, Err}
use Rattle.std.specs.Option.{is_some}
use Rattle.std.specs.FinMap.{get, contains_key, len}
use Rattle.hub_kit.specs.Hashes.{draw_text, hash_text}
use Rattle.hub_kit.specs.declared.names.ServerKey.{ServerKey}
use Rattle.scope_names.specs.declared.action.Action.TheVariants.{UsersActivity, AccessServers}
use Rattle.scope_filters.specs.declared.holder.Owner.TheVariants as Own
use Rattle.scope_filters.specs.declared.scope.RawFilter.TheVariants.{HolderUser, HolderServer}
use Rattle.scope_filters.specs.declared.scope.RawScope.{RawScope}
use Rattle.scope_filters.specs.declared.scope.RawScope.TheVariants.{Plain}
use Rattle.hub_rows.specs.declared.changes.RowChange.{RowChange}
use Rattle.hub_rows.specs.declared.changes.RowChange.TheVariants.{Put}
use Rattle.hub_rows.specs.declared.rows.Row.TheVariants as Row
use Rattle.hub_rows.specs.declared.records.ServerRow.{ServerRow}
use Rattle.hub_rows.specs.declared.records.Token.{Token}
use Rattle.hub_tables.specs.Lookups.{is_default, next_of, servers_of, token_of_hash}
use Rattle.hub_tables.specs.State.{State}
use Rattle.hub_view.specs.Servers.{server_url}
use Rattle.server_life.specs.LifeTable.{life_after}
use Rattle.server_life.specs.declared.life.LifeEvent.TheVariants.{Begin}
use Rattle.server_life.specs.declared.life.LifeRefusal.TheVariants.{Running, PendingSpawn}
use Rattle.server_life.specs.declared.life.Todo.TheVariants.{Start}
use Rattle.hub_machine.specs.State.{Hub, free_target, life_of, next_generation}
use Rattle.hub_machine.specs.Apply.{LifeStep, client_of}
use Rattle.hub_machine.specs.Replies.{Answer, refuses, gives, works, good, rules, if_so}
use Rattle.hub_machine.specs.declared.change.Change.TheVariants as Of
use Rattle.hub_machine.specs.declared.refusal.Refusal.{Refusal}
use Rattle.hub_machine.specs.declared.refusal.Refusal.TheVariants.{AllLeased, Exists, Full, NoDraw, Rule}

-- ---- the rows

-- The row of a server once it is started at the moment `now`, made of the one that is kept, if one is
abbrev pub started : (now : ℕ) → ServerKey → Option ServerRow → ServerRow
started now server None = record { key = server; created = now; last_activity = None; started = Some now }
started now server (Some row) = record row { started = Some now; last_activity = None }

-- its token may tell the activity of its user, and enter the server itself
abbrev pub server_scopes : List RawScope
server_scopes = Plain UsersActivity HolderUser ∷ Plain AccessServers HolderServer ∷ []

-- the token that the server gets: of its user, issued for it, and without end
abbrev pub server_token : State → (now : ℕ) → (secret : List ℕ) → ServerKey → Token
server_token t now secret server = record {
  id = next_of t (codes "token");
  client = None;
  created = now;
  expires_at = None;
  hash = hash_text secret;
  issued_for = Some server;
  note = [];
  owner = Own.User server.user;
  scopes = server_scopes;
}

-- where the client of a server is sent back to, below the server's route
abbrev pub callback_of : ServerKey → List ℕ
callback_of server = server_url server ++ codes "oauth_callback"

-- The rows of a start at the moment `now` on this target: the server's token of this secret, its row, its lease, its client, and the next
-- numbers
abbrev pub begin_rows : State → (now : ℕ) → (secret : List ℕ) → ServerKey → (target : List ℕ) → List RowChange
begin_rows t now secret server target =
    Put (Row.Token (server_token t now secret server))
    ∷ Put (Row.ServerRow (started now server (get t.servers server)))
    ∷ Put (Row.Lease (record { target = target; server = server; generation = Some (next_generation t) }))
    ∷ Put (Row.OAuthClient (record { id = client_of server; hash = hash_text secret; redirect_uri = callback_of server }))
    ∷ Put (Row.Next (record { name = codes "generation"; next = next_generation t + 1 }))
    ∷ Put (Row.Next (record { name = codes "token"; next = next_of t (codes "token") + 1 }))
    ∷ []

-- ---- the rules

-- how many servers of some, and of a user's, have a name
abbrev pub named_among : List ServerKey → ℕ
named_among keys = count_by (λ key. not (is_default key.server)) keys

-- How many servers with a name the user has
abbrev pub named_servers : State → List ℕ → ℕ
named_servers t user = named_among (servers_of t user)

-- the server is named, has no row, and its user has as many named ones as may be
abbrev pub is_past_limit : State → ServerKey → Bool
is_past_limit t server =
    not (is_default server.server) && not (contains_key t.servers server) && nat_le t.limits.servers (named_servers t server.user)

-- there is no room for a token more, or no number is left for it
abbrev pub is_without_token : State → Bool
is_without_token t = nat_le t.limits.tokens (len t.tokens) || nat_le (2 ^ 64 - 1) (next_of t (codes "token"))

-- How many clients there may be
abbrev pub clients_limit : ℕ
clients_limit = 2000

-- There is no room for the client of the server, where it isn't kept
abbrev pub is_without_client : State → ServerKey → Bool
is_without_client t server = not (contains_key t.clients (client_of server)) && nat_le clients_limit (len t.clients)

-- What refuses the start of a server whose token has this secret, in this order: the limit of servers, the token's hash, the room for the
-- token, the room for the client
abbrev pub start_rules : State → (secret : List ℕ) → ServerKey → List (Option Refusal)
start_rules t secret server =
    if_so (is_past_limit t server) (Rule (codes "server limit"))
    ∷ if_so (is_some (token_of_hash t (hash_text secret))) (Exists (codes "token"))
    ∷ if_so (is_without_token t) (Full 5 t.limits.tokens)
    ∷ if_so (is_without_client t server) (Full 10 clients_limit)
    ∷ []

-- ---- the answer

-- the start leases the free target of least index
abbrev pub on_target : Hub → (now : ℕ) → (secret : List ℕ) → ServerKey → Option (List ℕ) → Answer
on_target s now secret server None = refuses (AllLeased (len s.lives) (length s.pool))
on_target s now secret server (Some target) =
    works (Of.Begin (next_generation s.tables) server (begin_rows s.tables now secret server target))
    (record { generation = next_generation s.tables; server = server; target = target; todo = Start; secret = Some secret })

-- The answer to a start that the life of the server lets begin
abbrev pub may_start : Hub → (now : ℕ) → (secret : List ℕ) → ServerKey → Answer
may_start s now secret server = rules (start_rules s.tables secret server) (on_target s now secret server (free_target s.pool s.lives))

-- what the life of the server makes of the wish; while it is starting there is nothing more to do
abbrev pub on_begin : LifeStep → Answer → Answer
on_begin (Ok next) answer = answer
on_begin (Err PendingSpawn) answer = gives (good 202 [])
on_begin (Err Running) answer = refuses (Rule (codes "already running"))
on_begin (Err refusal) answer = refuses (Rule (codes "pending stop"))

-- the secret of the server's token is the text of the draw
abbrev pub start_with : Hub → (now : ℕ) → (draw : List ℕ) → ServerKey → Answer
start_with s now draw server =
    on_begin (life_after (life_of s.lives server) (next_generation s.tables) Begin) (may_start s now (draw_text draw) server)

-- POST /users/{user}/server and /users/{user}/servers/{server}
abbrev pub post_server : Hub → (now : ℕ) → (draw : Option (List ℕ)) → ServerKey → Answer
post_server s now None server = refuses NoDraw
post_server s now (Some draw) server = start_with s now draw server
