-- What a change makes of a state.
use Rattle.std.specs.Prelude.{ℕ, ◌+◌, ◌*◌, ◌^◌, Bool, false, ◌&&◌, not, nat_lt, List, [], ◌∷◌, ◌++◌, map, codes, Option, Some, None, Ok}
use Rattle.std.specs.Prelude.{Err, if◌then◌else◌}
use Rattle.std.specs.List.{filter}
use Rattle.std.specs.Option.{is_some}
use Rattle.std.specs.FinMap.{get, insert, remove}
use Rattle.hub_kit.specs.declared.names.ServerKey.{ServerKey}
use Rattle.scope_filters.specs.Admits.{same_server}
use Rattle.scope_filters.specs.declared.holder.Owner.TheVariants as Of
use Rattle.server_life.specs.LifeTable.{life_after}
use Rattle.server_life.specs.declared.life.Life.{Life}
use Rattle.server_life.specs.declared.life.LifeEvent.{LifeEvent}
use Rattle.server_life.specs.declared.life.Phase.{Phase}
use Rattle.server_life.specs.declared.life.Phase.TheVariants.{Stopped}
use Rattle.hub_rows.specs.declared.changes.RowChange.{RowChange}
use Rattle.hub_rows.specs.declared.changes.RowChange.TheVariants as Ch
use Rattle.hub_rows.specs.declared.records.ServerRow.{ServerRow}
use Rattle.hub_rows.specs.declared.records.Token.{Token}
use Rattle.hub_rows.specs.declared.rows.Row.TheVariants as Row
use Rattle.hub_rows.specs.declared.rows.RowKey.TheVariants as RowKey
use Rattle.hub_tables.specs.Changes.{rows_done, puts_of, removals_of}
use Rattle.hub_tables.specs.Lookups.{tokens_of}
use Rattle.hub_tables.specs.State.{State}
use Rattle.hub_machine.specs.Batches.{batch_cost}
use Rattle.hub_machine.specs.State.{Hub, most, owed}
use Rattle.hub_machine.specs.declared.change.Change.{Change}
use Rattle.hub_machine.specs.declared.change.Change.TheVariants.{Rows, Begin, Life as Lived}
use Rattle.hub_lives.specs.Lives.{leased_to}
use Rattle.hub_lives.specs.declared.lives.Leased.{Leased}
pub use Rattle.hub_lives.specs.Lives.{LifeStep, step_of, step_at}

-- the rows that an entry has
abbrev pub rows_of : Change → List RowChange
rows_of (Rows rows) = rows
rows_of (Begin g server rows) = rows
rows_of (Lived g event) = []

-- What the entry of this change costs in the state s: 64 bytes, and those of the keys and texts of its rows; nothing where the hub keeps no
-- trail
abbrev pub cost_of : Hub → Change → ℕ
cost_of s c = if s.no_trail then 0 else (64 + batch_cost (rows_of c))

-- The tables once all puts of the change are done, and then its removals
abbrev pub change_done : List RowChange → State → State
change_done rows t = rows_done (removals_of rows) (rows_done (puts_of rows) t)

-- ---- a start

-- The state once the generation g is leased to the server, at the free target of least index
abbrev pub begun : ℕ → ServerKey → Hub → Hub
begun g server s = record s { lives = insert s.lives g (leased_to s.pool s.lives g server) }

-- ---- the end of a lease

-- the OAuth client of a server
abbrev pub client_of : ServerKey → List ℕ
client_of key = codes "server:" ++ (key.user ++ (codes "/" ++ key.server))

-- The token was issued for this server, if for any
abbrev is_this_server : ServerKey → Option ServerKey → Bool
is_this_server key None = false
is_this_server key (Some other) = same_server key other

-- the token that a server got at its start: the one issued for it without a client
abbrev pub is_start_token : ServerKey → Option Token → Bool
is_start_token key None = false
is_start_token key (Some token) = is_this_server key token.issued_for && not (is_some token.client)

-- The row of a server, if it is kept, says that none was started
abbrev pub rested : Option ServerRow → List RowChange
rested None = []
rested (Some row) = Ch.Put (Row.ServerRow (record row { started = None })) ∷ []

-- the ids of the tokens of the server's user that it got at its start
abbrev pub start_tokens : State → ServerKey → List ℕ
start_tokens t key = filter (λ id. is_start_token key (get t.tokens id)) (tokens_of t (Of.User key.user))

-- the rows of an end: the server's row is at rest; its token, where that is still kept, the lease and its client go
abbrev pub end_rows : State → Leased → List RowChange
end_rows t l =
    rested (get t.servers l.server)
    ++ (map (λ id. Ch.Remove (RowKey.Token id)) (start_tokens t l.server)
    ++ (Ch.Remove (RowKey.Lease l.target) ∷ Ch.Remove (RowKey.OAuthClient (client_of l.server)) ∷ []))

-- ---- a step of life

-- The state once the life of the generation g, whose lease is l, has become `life` in a phase; one that is over has no lease
abbrev pub moved : ℕ → Leased → Life → Phase → Hub → Hub
moved g l life Stopped s = record s { tables = change_done (end_rows s.tables l) s.tables; lives = remove s.lives g }
moved g l life phase s = record s { lives = insert s.lives g (record l { life = life }) }

-- The state once the life of the generation g, whose lease is l, has taken this step; a step that isn't taken changes nothing
abbrev pub stepped : ℕ → Leased → LifeStep → Hub → Hub
stepped g l (Err e) s = s
stepped g l (Ok next) s = moved g l next.0 next.0.phase s

-- The state once the generation g, which has this lease, if any, has taken the event
abbrev pub of_lease : ℕ → LifeEvent → Option Leased → Hub → Hub
of_lease g event None s = s
of_lease g event (Some l) s = stepped g l (life_after l.life g event) s

-- The state once the generation g has taken the event
abbrev pub lived : ℕ → LifeEvent → Hub → Hub
lived g event s = of_lease g event (get s.lives g) s

-- ---- the whole

-- The state with the rows and the lives that a change leaves
abbrev pub effect : Change → Hub → Hub
effect (Rows rows) s = record s { tables = change_done rows s.tables }
effect (Begin g server rows) s = record (begun g server s) { tables = change_done rows s.tables }
effect (Lived g event) s = lived g event s

-- What a change makes of the state: its effect, one entry more, and its cost
abbrev pub apply : Change → Hub → Hub
apply c s = record (effect c s) { length = s.length + 1; cost = s.cost + cost_of s c }

-- The entry of the change, and those that are owed after it, cost more than a history may. What was owed before it has that room
abbrev pub is_past : Hub → Change → Bool
is_past s c =
    if s.no_trail
    then nat_lt (2 ^ 62) (s.length + 1 + owed (effect c s).lives)
    else nat_lt (most s) (s.cost + cost_of s c + 64 * owed (effect c s).lives)

-- The entry of the change, and those that are owed after it, don't fit into the limit of the trail
abbrev pub is_past_trail : Hub → Change → Bool
is_past_trail s c =
    if s.no_trail
    then nat_lt (2 ^ 62) (s.length + 1 + owed (effect c s).lives)
    else nat_lt s.tables.limits.trail_bytes (s.cost + cost_of s c + 64 * owed (effect c s).lives)
