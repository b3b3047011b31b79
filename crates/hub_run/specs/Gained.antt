-- What each turn of a connection gains.
use Rattle.std.specs.Prelude.{ltb, if◌then◌else◌, []}
use Rattle.desk.specs.OwnEntries.{added}
use Rattle.server_work.specs.Gains.{Gain, no_gain, plus, gain_of}
use Rattle.hub_core.specs.Visits.{Entry}
use Rattle.hub_run.specs.Routed.{Asking, told_of}
use Rattle.hub_run.specs.Turns.{Turn, Visit, Errand, visited, worked, routed, declined, undrawn, refused, unsaid, unfinished, unrouted}
use Rattle.hub_run.specs.Turns.{wanting}

-- A visit gains the entries that it left beyond those that it found, each with its place, and one failure of the keeper where its count of
-- faults rose; it calls no device
abbrev pub visit_gain : Visit → Gain Entry
visit_gain v = record {
  entries = added v.before v.after;
  failed = if ltb v.faults v.faults_after then 1 else 0;
  spawner = [];
  routes = [];
}

-- An errand gains the entries of its chain, each with its place, the failures of the keeper in it, and its calls of the spawner and of the
-- route link
abbrev pub errand_gain : Errand → Gain Entry
errand_gain e = gain_of e.work e.chain

-- what the route link was asked gains its calls, and no entry
abbrev pub asking_gain : Asking → Gain Entry
asking_gain a = record { entries = []; failed = 0; spawner = []; routes = told_of a }

-- What a turn added: its own entries of the history with their places, how often the keeper failed in it, and its calls of the spawner and
-- of the route link. First comes what its visit gained, then its errand or its asking; one without a visit gains nothing
abbrev pub turn_gain : Turn → Gain Entry
turn_gain (visited text q v r) = visit_gain v
turn_gain (worked text q v e r) = plus (visit_gain v) (errand_gain e)
turn_gain (routed text q v a r) = plus (visit_gain v) (asking_gain a)
turn_gain (declined text q e) = no_gain
turn_gain (undrawn text q) = no_gain
turn_gain (refused e) = no_gain
turn_gain (unsaid text q v) = visit_gain v
turn_gain (unfinished text q v e) = plus (visit_gain v) (errand_gain e)
turn_gain (unrouted text q v a) = plus (visit_gain v) (asking_gain a)
turn_gain wanting = no_gain
