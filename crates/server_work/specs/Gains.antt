-- What a pass and the devices gain by chains.
use Rattle.std.specs.Prelude.{◌≡◌, ◌≤◌, ℕ, ◌+◌, true, List, [], ◌∷◌, ◌++◌, map}
use Rattle.std.specs.List.{flat_map}
use mathlib.Core.List.{IsPrefix}
use Rattle.desk.specs.Passes.{IsSamePass}
use Rattle.hub_devices.specs.declared.calls.Spawning.{Spawning}
use Rattle.hub_devices.specs.declared.calls.Routing.{Routing}
use Rattle.hub_devices.specs.declared.calls.Told.{Told}
use Rattle.hub_devices.specs.Calls.{Grows}
use Rattle.server_work.specs.declared.work.Work.{Work}
use Rattle.server_work.specs.Outcomes.{spawner_did, routes_did}
use Rattle.server_work.specs.Chains.{At, Chain, own, outcome_of, fails}

-- own entries with their places, in how many visits the keeper failed, and calls with what they told
pub record Gain (E : Type 0) : Type 0 where
  pub entries : List (ℕ × E)
  pub failed : ℕ
  pub spawner : List (Spawning × Told)
  pub routes : List (Routing × Told)

-- Nothing was gained
abbrev pub no_gain : {E : Type 0} → Gain E
no_gain = record { entries = []; failed = 0; spawner = []; routes = [] }

-- the one gain and then the other
abbrev pub plus : {E : Type 0} → Gain E → Gain E → Gain E
plus a b = record {
  entries = a.entries ++ b.entries;
  failed = a.failed + b.failed;
  spawner = a.spawner ++ b.spawner;
  routes = a.routes
      ++ b.routes;
}

-- All of these gains, one after the other
abbrev pub sum_of : {E : Type 0} → List (Gain E) → Gain E
sum_of [] = no_gain
sum_of (t ∷ ts) = plus t (sum_of ts)

-- what a chain gains
abbrev pub gain_of : {E : Type 0} → Work → Chain E → Gain E
gain_of w k = record {
  entries = map own k.steps;
  failed = fails k.steps;
  spawner = flat_map (spawner_did w) (map outcome_of k.steps ++ k.refused);
  routes = flat_map (routes_did w) (map outcome_of k.steps ++ k.refused);
}

-- An own entry without its place
abbrev pub without_place : {E : Type 0} → ℕ × E → E
without_place e = e.1

-- exactly this was gained. Where the pass is alone the history grew by nothing else, and so did the keeper's count of faults
pub record Gains {E A : Type 0} (x : At E A) (t : Gain E) (y : At E A) : Type 0 where
  pub same : IsSamePass x.pass y.pass
  pub begins : IsPrefix x.pass.seen y.pass.seen
  pub counted : x.pass.faults ≤ y.pass.faults
  pub alone : x.pass.alone ≡ true → y.pass.seen ≡ x.pass.seen ++ map without_place t.entries
  pub still : x.pass.alone ≡ true → t.failed ≡ 0 → y.pass.faults ≡ x.pass.faults
  pub mine : y.pass.mine ≡ x.pass.mine ++ t.entries
  pub failed : y.pass.failed ≡ x.pass.failed + t.failed
  pub spawner : Grows x.spawner t.spawner y.spawner
  pub routes : Grows x.routes t.routes y.routes
