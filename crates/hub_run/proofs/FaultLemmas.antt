-- What a 503 to a worked request tells.
use Rattle.std.proofs.Common.{◌≡◌, ◌≢◌, ◌⊎◌, inl, inr, ⊎_elim, ◌<◌, ◌≤◌, ◌+◌, ◌-◌, ◌^◌, ℕ, Bool, true, false, List, [], ◌∷◌, length, Option, Some, None, refl, sym, ap, ◌∙◌, subst, lt-ltb, arith, if◌then◌else◌}
use Rattle.hub_core.specs.LifeBook.{LeadsToLives, Notes}
use Rattle.hub_core.specs.Visits.{Entry}
use Rattle.hub_core.specs.declared.start.Start.{Start}
use Rattle.hub_devices.specs.Faults.{Rises}
use Rattle.hub_machine.specs.Replies.{Reply, good, good_reply, refusal_reply}
use Rattle.hub_machine.specs.declared.refusal.Refusal.TheVariants.{SpawnerFault, ProxyFault, KeeperFault}
use Rattle.http_wire.specs.declared.request.Request.{Request}
use Rattle.server_life.specs.declared.life.Todo.{Todo}
use Rattle.server_life.specs.declared.life.Todo.TheVariants as Owed
use Rattle.server_work.specs.declared.tale.Tale.{Tale}
use Rattle.server_work.specs.declared.work.Device.{Device}
use Rattle.server_work.specs.declared.work.Device.TheVariants.{Spawner, Proxy}
use Rattle.server_work.specs.declared.work.Kept.{Kept}
use Rattle.server_work.specs.declared.work.Kept.TheVariants as K
use Rattle.server_work.specs.Outcomes.{KeptAs, is_end}
use Rattle.server_work.specs.Tales.{new_tale, tale_with}
use Rattle.server_work.specs.Chains.{Sight, Step, Goes, Ended, ChainEnds, sight, left_by, rose, fails, tale_from}
use Rattle.server_work.proofs.Gaining.{goes_begins}
use Rattle.hub_run.specs.Complete.{HasFailed, IsOfFault}
use Rattle.hub_run.specs.Turns.{View, Visit, Errand, Works, Drives, IsCounted, IsWorked, at_chain}
use Rattle.hub_run.specs.Works.{failed_reply, over_reply, tale_reply}
use Rattle.hub_run.proofs.CountLemmas.{visit_grows}

-- ---- the keeper's fault of a chain

kept_risen : (b : Bool) (m n : ℕ) (k : Kept) → k ≡ K.KeeperFault → KeptAs b m n k → Rises m n
kept_risen true m n K.KeeperFault is h = h
kept_risen false m n K.KeeperFault is h = absurd h
kept_risen b m n K.NotAsked is h = absurd (cc is)
kept_risen b m n K.Kept is h = absurd (cc is)
kept_risen b m n K.Memory is h = absurd (cc is)

rose_one : (s : Step Entry) → s.found.faults < s.faults → rose s ≡ 1
rose_one s up = ap (λ (b : Bool). if b then 1 else 0) (lt-ltb s.found.faults s.faults up)

is_fault : (k : Kept) → (k ≡ K.KeeperFault) ⊎ (k ≢ K.KeeperFault)
is_fault K.KeeperFault = inl refl
is_fault K.NotAsked = inr (λ e. cc e)
is_fault K.Kept = inr (λ e. cc e)
is_fault K.Memory = inr (λ e. cc e)

-- a step whose end the keeper refused stands in the chain
abbrev Refused : Sight Entry → List (Step Entry) → Sight Entry → Type 0
Refused seen ss seen' = (seen.faults < seen'.faults) × (0 < fails ss)

in_step : (base : Option Start) (alone : Bool) (g : ℕ) (seen : Sight Entry) (owed : Todo) (s : Step Entry) (ss : List (Step Entry)) (seen' : Sight Entry) (owed' : Todo)
    → Goes LeadsToLives Notes base alone g seen owed (s ∷ ss) seen' owed' → s.kept ≡ K.KeeperFault → seen'.faults < 2 ^ 64 - 1 → Refused seen (s ∷ ss) seen'
in_step base alone g seen owed s ss seen' owed' (comes, is, rest) kept below =
    let later = (goes_begins LeadsToLives Notes base alone g (left_by s) s.owes ss seen' owed' rest).1 in
    let small : s.found.faults < 2 ^ 64 - 1 = omega (arith, is.grown, later, below) in
    let up = kept_risen (is_end s.outcome) s.found.faults s.faults s.kept kept is.kept small in
    (omega (arith, comes.1, up, later), omega (arith, rose_one s up))

kept_failed : (base : Option Start) (alone : Bool) (g : ℕ) (seen : Sight Entry) (owed : Todo) (ss : List (Step Entry)) (seen' : Sight Entry) (owed' : Todo) (t : Tale)
    → Goes LeadsToLives Notes base alone g seen owed ss seen' owed' → (t.kept ≡ K.KeeperFault → Refused seen ss seen') → seen'.faults < 2 ^ 64 - 1
    → (tale_from t ss).kept ≡ K.KeeperFault → Refused seen ss seen'
kept_failed base alone g seen owed [] seen' owed' t goes before below kept = before kept
kept_failed base alone g seen owed (s ∷ ss) seen' owed' t (comes, is, rest) before below kept =
    ⊎_elim (λ e. in_step base alone g seen owed s ss seen' owed' (comes, is, rest) e below)
    (λ other.
    let later = kept_failed base alone g (left_by s) s.owes ss seen' owed' (tale_with t s.outcome s.owes s.kept (length s.found.entries + 1)) rest (λ e. absurd (other e)) below kept in
    (omega (arith, comes.1, is.grown, later.0), omega (arith, later.1)))
    (is_fault s.kept)

no_fault : new_tale.kept ≡ K.KeeperFault → ⊥
no_fault e = cc

chain_failed : (x y : View) (e : Errand) (tale : Tale) → Ended LeadsToLives Notes e.work (at_chain x) e.owed e.chain tale (at_chain y) → tale.kept ≡ K.KeeperFault → y.pass.faults < 2 ^ 64 - 1
    → (x.pass.failed < y.pass.failed) × (x.pass.faults < y.pass.faults)
chain_failed x y e tale ended kept below =
    let found = kept_failed x.pass.base x.pass.alone e.work.generation (sight x.pass) e.owed e.chain.steps (sight y.pass) Owed.Nothing new_tale ended.drove.goes
    (λ h. absurd (no_fault h)) below (ap (λ (t : Tale). t.kept) (sym ended.tale_is) ∙ kept) in
    (omega (arith, ended.drove.failed, found.1), found.0)

-- ---- the reply

same_some : (r q : Reply) → Some r ≡ Some q → q ≡ r
same_some r q e = cc

none_some : (q : Reply) → None ≡ Some q → ⊥
none_some q e = cc

-- a reply of another status is no 503
other_status : (given q : Reply) → given.status ≢ 503 → Some given ≡ Some q → q.status ≡ 503 → ⊥
other_status given q ne e is = ne (ap (λ (r : Reply). r.status) (sym (same_some given q e)) ∙ is)

created : ◌≢◌ {A = ℕ} 201 503
created = λ e. absurd (omega (arith, e))

gone : ◌≢◌ {A = ℕ} 204 503
gone = λ e. absurd (omega (arith, e))

conflicts : ◌≢◌ {A = ℕ} 409 503
conflicts = λ e. absurd (omega (arith, e))

no_over : (n : ℕ) (todo : Todo) (q : Reply) → Some (over_reply n todo) ≡ Some q → q.status ≡ 503 → ⊥
no_over n Owed.Start q e is = other_status (over_reply n Owed.Start) q conflicts e is
no_over n Owed.Nothing q e is = other_status (over_reply n Owed.Nothing) q gone e is
no_over n Owed.AddRoute q e is = other_status (over_reply n Owed.AddRoute) q gone e is
no_over n Owed.DeleteRoute q e is = other_status (over_reply n Owed.DeleteRoute) q gone e is
no_over n Owed.StopProgram q e is = other_status (over_reply n Owed.StopProgram) q gone e is
no_over n Owed.Poll q e is = other_status (over_reply n Owed.Poll) q gone e is

-- by what is told of a chain, each of whose failures is known of the view after it
fault_of : (x y : View) (n : ℕ) (todo : Todo) (ready : Bool) (kept : Kept) (failed : Option Device) (r : Reply)
    → (if ready then Some (good_reply n (good 201 [])) else failed_reply n todo kept failed) ≡ Some r → r.status ≡ 503
    → (failed ≡ Some Spawner → HasFailed x y SpawnerFault) → (failed ≡ Some Proxy → HasFailed x y ProxyFault) → (kept ≡ K.KeeperFault → HasFailed x y KeeperFault)
    → IsOfFault x y r
fault_of x y n todo true came failed r e is f g h = absurd (other_status (good_reply n (good 201 [])) r created e is)
fault_of x y n todo false came (Some Spawner) r e is f g h = record { revision = n; cause = SpawnerFault; is = same_some _ r e; failed = f refl }
fault_of x y n todo false came (Some Proxy) r e is f g h = record { revision = n; cause = ProxyFault; is = same_some _ r e; failed = g refl }
fault_of x y n todo false K.KeeperFault None r e is f g h = record { revision = n; cause = KeeperFault; is = same_some _ r e; failed = h refl }
fault_of x y n todo false K.Memory None r e is f g h = absurd (none_some r e)
fault_of x y n todo false K.NotAsked None r e is f g h = absurd (no_over n todo r e is)
fault_of x y n todo false K.Kept None r e is f g h = absurd (no_over n todo r e is)

-- the count of a device before the visit is that before the chain
from_visit : (tale : Tale) (d : Device) (told : Option Tale) (m n k : ℕ) → told ≡ Some tale → n ≡ m → IsCounted d told n k → tale.failed ≡ Some d → Rises m k
from_visit tale d told m n k is same counted failed =
    subst (λ (i : ℕ). Rises i k) same ((subst (λ (t : Option Tale). IsCounted d t n k) is counted).1 failed)

pub worked_503 : (start : Start) (x y : View) (request : Request) (v : Visit) (e : Errand) (r : Reply)
    → IsWorked start request v e r → Works x v e y → r.status ≡ 503 → y.pass.faults < 2 ^ 64 - 1 → IsOfFault x y r
worked_503 start x y request v e r done (z, visits, drives) is below =
    let before = visit_grows x z v visits in
    fault_of x y done.tale.length e.owed done.tale.ready done.tale.kept done.tale.failed r done.reply is
    (λ failed. from_visit done.tale Spawner e.tale _ _ _ done.told visits.others.0 drives.spawner failed)
    (λ failed. from_visit done.tale Proxy e.tale _ _ _ done.told visits.others.1 drives.routes failed)
    (λ kept.
    let ended = subst (λ (t : Option Tale). ChainEnds LeadsToLives Notes e.work (at_chain z) e.owed e.chain t (at_chain y)) done.told drives.chain in
    let later = chain_failed z y e done.tale ended kept below in
    (omega (arith, before.failed, later.0), omega (arith, before.faults, later.1)))
