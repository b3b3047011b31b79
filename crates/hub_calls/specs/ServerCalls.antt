-- The calls on servers.
use Rattle.std.specs.Prelude.{ℕ, List, Option}
use Rattle.admin_rules.specs.Servers.{Told, note_activity}
use Rattle.hub_machine.specs.State.{Hub}
use Rattle.hub_machine.specs.Replies.{Answer}
use Rattle.hub_calls.specs.Calling.{by_rules, done}

-- POST /users/{user}/activity
abbrev pub post_activity : Hub → (now : ℕ) → List ℕ → Option ℕ → Told → Answer
post_activity s now user last_activity servers = by_rules s (note_activity s.tables user now last_activity servers) done
