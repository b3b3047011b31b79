-- The stop of a server, and its deletion.
use Rattle.std.specs.Prelude.{ℕ, Bool, ◌&&◌, [], ◌∷◌, codes, Option, Some, None, Ok, Err, if◌then◌else◌}
use Rattle.hub_kit.specs.declared.names.ServerKey.{ServerKey}
use Rattle.hub_tables.specs.Lookups.{is_default}
use Rattle.server_life.specs.LifeTable.{life_after}
use Rattle.server_life.specs.declared.life.LifeEvent.TheVariants.{AskStop}
use Rattle.server_life.specs.declared.life.Todo.{Todo}
use Rattle.server_life.specs.declared.life.Todo.TheVariants.{Nothing}
use Rattle.admin_rules.specs.Servers as servers
use Rattle.hub_machine.specs.State.{Hub, lease_of}
use Rattle.hub_machine.specs.Apply.{LifeStep}
use Rattle.hub_machine.specs.Replies.{Answer, gives, changes, works, good, rules, if_so}
use Rattle.hub_machine.specs.declared.change.Change.TheVariants as Of
use Rattle.hub_lives.specs.declared.lives.Leased.{Leased}
use Rattle.hub_machine.specs.declared.refusal.Refusal.TheVariants.{Rule}
use Rattle.hub_calls.specs.Calling.{by_rules, done}

-- a stop that is asked of a pending start is accepted; else the route goes first
abbrev pub goes_on : ServerKey → (generation : ℕ) → Leased → Todo → Answer
goes_on server g lease Nothing = changes (Of.Life g AskStop) (good 202 [])
goes_on server g lease todo =
    works (Of.Life g AskStop) (record { generation = g; server = server; target = lease.target; todo = todo; secret = None })

-- it is on its way down already where the life refuses
abbrev pub on_stop : ServerKey → (generation : ℕ) → Leased → LifeStep → Answer
on_stop server g lease (Err refusal) = gives (good 202 [])
on_stop server g lease (Ok next) = goes_on server g lease next.1

-- what the life of a live server makes of the wish
abbrev pub on_lease_of : ServerKey → (generation : ℕ) → Leased → Answer
on_lease_of server g lease = on_stop server g lease (life_after lease.life g AskStop)

-- a server at rest stays so, or goes with its shares and codes
abbrev pub at_rest : Hub → ServerKey → (remove : Bool) → Answer
at_rest s server remove = if remove then by_rules s (servers.delete_server s.tables server) done else gives (done s)

-- The answer to a stop, or to a deletion where `remove` says so, by the lease of the server, if it has one
abbrev pub on_lease : Hub → ServerKey → (remove : Bool) → Option (ℕ × Leased) → Answer
on_lease s server remove None = at_rest s server remove
on_lease s server remove (Some held) = on_lease_of server held.0 held.1

-- DELETE /users/{user}/server and /users/{user}/servers/{server}
abbrev pub delete_server : Hub → ServerKey → (remove : Bool) → Answer
delete_server s server remove =
    rules (if_so (remove && is_default server.server) (Rule (codes "default server")) ∷ [])
    (on_lease s server remove (lease_of s.lives server))
