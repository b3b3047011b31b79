-- The work that a start or a stop owes, and the reply once it is done.
use Rattle.std.specs.Prelude.{ℕ, List, [], Option, Some, None, if◌then◌else◌}
use Rattle.server_life.specs.declared.life.Todo.{Todo}
use Rattle.server_life.specs.declared.life.Todo.TheVariants.{Start}
use Rattle.server_work.specs.declared.work.Device.{Device}
use Rattle.server_work.specs.declared.work.Device.TheVariants.{Spawner, Proxy}
use Rattle.server_work.specs.declared.work.Kept.{Kept}
use Rattle.server_work.specs.declared.work.Kept.TheVariants as K
use Rattle.server_work.specs.declared.work.Work.{Work}
use Rattle.server_work.specs.declared.tale.Tale.{Tale}
use Rattle.server_work.specs.RoutePaths.{route_path}
use Rattle.hub_machine.specs.declared.work.Work as owed
use Rattle.hub_machine.specs.declared.call.Call.{Call}
use Rattle.hub_machine.specs.declared.call.Call.TheVariants.{PostServer, DeleteServer}
use Rattle.hub_machine.specs.Replies.{Reply, good, good_reply, refusal_reply}
use Rattle.hub_machine.specs.declared.refusal.Refusal.TheVariants.{SpawnerFault, ProxyFault, KeeperFault, StoppedWhileStarting}

-- ---- what is done

-- the path of the server that a call starts or stops
abbrev pub path_for : Call → List ℕ
path_for (PostServer server) = route_path server
path_for (DeleteServer server remove) = route_path server
path_for call = []

-- the work by this path
abbrev pub errand_of : List ℕ → owed.Work → Work
errand_of path w = record { generation = w.generation; server = w.server; path = path; target = w.target; secret = w.secret }

-- ---- the reply

-- all calls were done: a stop has stopped its server, and a start that isn't ready was stopped
abbrev pub over_reply : ℕ → Todo → Reply
over_reply revision Start = refusal_reply revision StoppedWhileStarting
over_reply revision owed = good_reply revision (good 204 [])

-- nothing is said where no memory was found to keep the end
abbrev pub kept_reply : ℕ → Todo → Kept → Option Reply
kept_reply revision owed K.KeeperFault = Some (refusal_reply revision KeeperFault)
kept_reply revision owed K.Memory = None
kept_reply revision owed came = Some (over_reply revision owed)

-- by the first call that failed
abbrev pub failed_reply : ℕ → Todo → Kept → Option Device → Option Reply
failed_reply revision owed came (Some Spawner) = Some (refusal_reply revision SpawnerFault)
failed_reply revision owed came (Some Proxy) = Some (refusal_reply revision ProxyFault)
failed_reply revision owed came None = kept_reply revision owed came

-- what is said of a chain that began with the call that was owed; its revision is the length with its last entry
abbrev pub tale_reply : Todo → Tale → Option Reply
tale_reply owed tale = if tale.ready then Some (good_reply tale.length (good 201 []))
    else failed_reply tale.length owed tale.kept tale.failed
