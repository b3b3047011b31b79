-- The hub of a job, its draws, and what is seen of its hub and its devices.
use Rattle.std.specs.Prelude.{ℕ, zero, suc, true, false, IsTrue, List, [], ◌∷◌, ◌++◌, codes, Some, None}
use Rattle.desk.specs.Passes.{PassState}
use Rattle.hub_core.specs.Visits.{Entry}
use Rattle.hub_core.specs.declared.start.Start.{Start}
use Rattle.hub_devices.specs.Streams.{left_from}
use Rattle.hub_devices.specs.declared.mem_clock.FixedClock.{FixedClock}
use Rattle.hub_devices.specs.declared.mem_random.ListRandom.{ListRandom}
use Rattle.hub_devices.specs.declared.mem_routes.MemRouteLink.{MemRouteLink}
use Rattle.hub_devices.specs.declared.mem_spawner.MemSpawner.{MemSpawner}
use Rattle.hub_opening.specs.Opening.{IsSetUp, greatest_limits}
use Rattle.hub_opening.specs.declared.config.ConfigToken.{ConfigToken}
use Rattle.hub_opening.specs.declared.config.ConfigUser.{ConfigUser}
use Rattle.hub_opening.specs.declared.config.HubConfig.{HubConfig}
use Rattle.hub_run.specs.Turns.{View, view_of}
use Rattle.hub_core.specs.declared.kit.HubKit.{HubKit}
use Rattle.keeper.specs.Rows.{no_rows}
use Rattle.load_asks.specs.Numbers.{draw}
use Rattle.scope_filters.specs.declared.holder.Owner.TheVariants.{User}
use Rattle.scope_filters.specs.declared.scope.RawScope.TheVariants.{Inherit}

abbrev pub admin : List ℕ → ConfigUser
admin name = record { name = name; admin = true }

-- it may do all that its owner may
abbrev pub token_of : List ℕ → ConfigToken
token_of name = record { text = codes "load-admin-token"; owner = User name; scopes = Inherit ∷ [] }

-- a hub whose one user is this admin, with its token
abbrev pub config_of : List ℕ → HubConfig
config_of name = record {
  pool = [];
  hub_url = None;
  limits = greatest_limits;
  no_trail = false;
  users = admin name ∷ [];
  groups = [];
  services = [];
  roles = [];
  tokens = token_of name ∷ [];
  custom_scopes = [];
}

-- a hub of root alone begins so, over a keeper that had no rows, if it told them
pub record IsJobHub (start : Start) : Type 0 where
  pub set_up : IsSetUp (config_of (codes "root")) 1700000000 (IsTrue start.has_rows) no_rows start.machine

-- 1 to n
abbrev pub draws : ℕ → List (List ℕ)
draws zero = []
draws (suc n) = draws n ++ draw (suc n) ∷ []

abbrev pub job_view : PassState Entry Start → HubKit MemSpawner MemRouteLink FixedClock ListRandom → View
job_view pass kit =
    view_of (λ c. Some (λ k. c.0)) (λ r. left_from r.at r.draws.items) (λ s. s.log.calls) (λ p. p.log.calls)
    (λ r. r.script.faults) (λ s. s.log.script.faults) (λ p. p.log.script.faults) pass kit
