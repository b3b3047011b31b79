-- The servers that are being adopted at a place of the history.
use Rattle.std.specs.Prelude.{List}
use Rattle.hub_machine.specs.State.{Hub}
use Rattle.hub_core.specs.Live.{AreAdopting}
use Rattle.hub_core.specs.Visits.{Entry, Reached}
use Rattle.hub_core.specs.declared.live.LiveServer.{LiveServer}
use Rattle.hub_core.specs.declared.start.Start.{Start}

-- exactly these servers are being adopted in the state that the entries lead to, in the order of their targets
pub record AreFound (start : Start) (entries : List Entry) (servers : List LiveServer) : Type 0 where
  pub state : Hub
  pub reached : Reached start entries state
  pub adopting : AreAdopting state.lives servers
