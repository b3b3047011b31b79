-- The calls on servers: none is answered by a 503.
use Rattle.std.proofs.Common.{◌≡◌, ℕ, false, List, Option, refl}
use Rattle.admin_rules.specs.Servers.{Told, note_activity}
use Rattle.hub_machine.specs.State.{Hub}
use Rattle.hub_calls.specs.Calling.{done}
use Rattle.hub_calls.specs.ServerCalls as calls
use Rattle.hub_machine.proofs.Statuses.{is_503}
use Rattle.hub_calls.proofs.Statuses.{ruled}

pub post_activity : (s : Hub) (now : ℕ) (user : List ℕ) (last_activity : Option ℕ) (servers : Told) → is_503 (calls.post_activity s now user last_activity servers) ≡ false
post_activity s now user last_activity servers = ruled s (note_activity s.tables user now last_activity servers) done (λ t. refl)
