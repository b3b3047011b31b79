-- Which replies a request has to get, and what a 503 tells.
use Rattle.std.specs.Prelude.{◌≡◌, ◌<◌, ◌⊎◌, ℕ, Bool, true, false, length, Some, None, Ok, Err}
use Rattle.http_wire.specs.declared.request.Request.{Request}
use Rattle.hub_api.specs.Calls.{call_read}
use Rattle.hub_core.specs.History.{Answers, change_of}
use Rattle.hub_core.specs.Visits.{Reached, with_entry}
use Rattle.hub_core.specs.declared.start.Start.{Start}
use Rattle.hub_devices.specs.Faults.{Rises}
use Rattle.hub_machine.specs.Replies.{Answer, Reply, answered, working, outcome_of, refusal_reply}
use Rattle.hub_machine.specs.State.{Hub}
use Rattle.hub_machine.specs.declared.call.Asked.{Asked}
use Rattle.hub_machine.specs.declared.change.Change.{Change}
use Rattle.hub_machine.specs.declared.refusal.Refusal.{Refusal}
use Rattle.hub_machine.specs.declared.refusal.Refusal.TheVariants.{KeeperFault, SpawnerFault, ProxyFault}
use Rattle.hub_machine.specs.declared.work.Work as owed
use Rattle.server_work.specs.declared.tale.Tale.{Tale}
use Rattle.hub_run.specs.Works.{errand_of, path_for, tale_reply}
use Rattle.hub_run.specs.Turns.{Turn, Visit, Errand, View, visited, worked, declined, undrawn, refused, unsaid, unfinished, wanting, routed}
use Rattle.hub_run.specs.Turns.{unrouted}
use Rattle.hub_run.specs.declared.routed.Way.{Way}
use Rattle.hub_run.specs.Routed.{Asking, IsAskingOf, IsSaidOf, lets}

-- The turn is of this request, or a 507 before any visit
abbrev pub IsOf : Request → Turn → Type 0
IsOf request (visited text q v r) = q ≡ request
IsOf request (worked text q v e r) = q ≡ request
IsOf request (routed text q v a r) = q ≡ request
IsOf request (declined text q e) = q ≡ request
IsOf request (undrawn text q) = q ≡ request
IsOf request (refused e) = ⊥
IsOf request (unsaid text q v) = q ≡ request
IsOf request (unfinished text q v e) = q ≡ request
IsOf request (unrouted text q v a) = q ≡ request
IsOf request wanting = Unit {0}

-- the definition answers the request so, in the state that the entries before the visit left, at its moment and with its draw
pub record IsDue (start : Start) (request : Request) (v : Visit) (a : Answer) : Type 0 where
  pub asked : Asked
  pub read : call_read request ≡ Ok asked
  pub state : Hub
  pub reached : Reached start v.before state
  pub answers : Answers state v.moment v.draw asked a

-- the reply is that of the answer, whose change, if it has one, is the entry of the visit
pub record IsDone (v : Visit) (r : Reply) (a : Answer) : Type 0 where
  pub entry : v.after ≡ with_entry (change_of a) v.before
  pub reply : answered r ≡ outcome_of (length v.after) a

-- the reply is 503 `keeper`: the answer has a change, which the keeper refused, and its count of faults rose
pub record IsUndone (v : Visit) (r : Reply) (a : Answer) : Type 0 where
  pub change : Change
  pub has : change_of a ≡ Some change
  pub entry : v.after ≡ v.before
  pub reply : r ≡ refusal_reply (length v.after) KeeperFault
  pub rises : Rises v.faults v.faults_after

-- the answer is a work, which the errand is by the path of its call's server; its change is the entry of the visit
pub record IsSetOut (request : Request) (v : Visit) (e : Errand) (a : Answer) : Type 0 where
  pub asked : Asked
  pub read : call_read request ≡ Ok asked
  pub work : owed.Work
  pub entry : v.after ≡ with_entry (change_of a) v.before
  pub gives : working work ≡ outcome_of (length v.after) a
  pub first : e.owed ≡ work.todo
  pub errand : e.work ≡ errand_of (path_for asked.call) work

-- and the reply is that of what is told of the chain
pub record IsWorkDone (request : Request) (v : Visit) (e : Errand) (r : Reply) (a : Answer) : Type 0 where
  pub set_out : IsSetOut request v e a
  pub tale : Tale
  pub told : e.tale ≡ Some tale
  pub reply : tale_reply e.owed tale ≡ Some r

-- the answer's reply lets the call ask the route link, which was asked so; its change, if it has one, is the entry of the visit
pub record IsLetOn (request : Request) (v : Visit) (asking : Asking) (a : Answer) : Type 0 where
  pub asked : Asked
  pub read : call_read request ≡ Ok asked
  pub entry : v.after ≡ with_entry (change_of a) v.before
  pub gave : Reply
  pub gives : answered gave ≡ outcome_of (length v.after) a
  pub way : Way
  pub goes : lets asked.call gave ≡ Some way
  pub asks : IsAskingOf way asking

-- and the reply is that of what came
pub record IsRouteDone (request : Request) (v : Visit) (asking : Asking) (r : Reply) (a : Answer) : Type 0 where
  pub let_on : IsLetOn request v asking a
  pub reply : IsSaidOf let_on.gave asking r

-- the visit changed nothing, or the answer has a reply, with nothing to be done for it, and its change, if it has one, is the entry of the
-- visit
abbrev pub IsWithoutWork : Visit → Answer → Type 0
IsWithoutWork v a = (v.after ≡ v.before) ⊎ ((r : Reply) × IsDone v r a)

-- the turn gives the request the reply of the definition's answer, or of the chain that this answer owes, or of what the route link told
-- where this answer lets it be asked, the refusal of a request that asks no call, a 503 where no draw came, or a 507
abbrev pub IsServed : Start → Request → Turn → Type 0
IsServed start request (visited text q v r) = (q ≡ request) × ((a : Answer) → IsDue start request v a → IsDone v r a)
IsServed start request (worked text q v e r) = (q ≡ request) × ((a : Answer) → IsDue start request v a → IsWorkDone request v e r a)
IsServed start request (routed text q v asking r) = (q ≡ request)
    × ((a : Answer) → IsDue start request v a → IsRouteDone request v asking r a)
IsServed start request (declined text q e) = (q ≡ request) × (call_read request ≡ Err e)
IsServed start request (undrawn text q) = q ≡ request
IsServed start request (refused e) = ⊥
IsServed start request (unsaid text q v) = (q ≡ request) × ((a : Answer) → IsDue start request v a → IsWithoutWork v a)
IsServed start request (unfinished text q v e) = (q ≡ request) × ((a : Answer) → IsDue start request v a → IsSetOut request v e a)
IsServed start request (unrouted text q v asking) = (q ≡ request) × ((a : Answer) → IsDue start request v a → IsLetOn request v asking a)
IsServed start request wanting = Unit {0}

-- ---- what a 503 tells

-- From the view x to the view y the count of faults of what this refusal names rose. The pass counts a refusal of the keeper too; any other
-- refusal is none of a fault
abbrev pub HasFailed : View → View → Refusal → Type 0
HasFailed x y SpawnerFault = Rises x.faults.spawner y.faults.spawner
HasFailed x y ProxyFault = Rises x.faults.routes y.faults.routes
HasFailed x y KeeperFault = (x.pass.failed < y.pass.failed) × (x.pass.faults < y.pass.faults)
HasFailed x y refusal = ⊥

-- The reply is a refusal for what failed between the view x and the view y
pub record IsOfFault (x y : View) (r : Reply) : Type 0 where
  pub revision : ℕ
  pub cause : Refusal
  pub is : r ≡ refusal_reply revision cause
  pub failed : HasFailed x y cause

-- the turn is one of a call whose answer owed work, or let it ask the route link
abbrev pub is_work : Turn → Bool
is_work (worked text q v e r) = true
is_work (unfinished text q v e) = true
is_work (routed text q v a r) = true
is_work (unrouted text q v a) = true
is_work turn = false
