-- What the law says of every world that is reached.
use Rattle.std.specs.Prelude.{ℕ, ◌≡◌, ◌≢◌, ◌*◌, ◌⊎◌, List, [], ◌∷◌, Some}
use Rattle.std.specs.FinMap.{get}
use Rattle.server_life.specs.declared.life.LifeEvent.{LifeEvent}
use Rattle.server_life.specs.declared.life.LifeEvent.TheVariants.{SpawnFailed, Ended}
use Rattle.hub_lives.specs.declared.lives.Leased.{Leased}
use Rattle.hub_lives.specs.Lives.{AreApart}
use Rattle.route_table.specs.declared.route.Route.{Route}
use Rattle.route_table.specs.Path.{segments}
use Rattle.route_table.specs.Table.{listed}
use Rattle.server_work.specs.RoutePaths.{route_path}
use Rattle.world_law.specs.World.{Mem, Instance, World, instance_of}
use Rattle.world_law.specs.Steps.{Run, IsOpened}

-- The world is one after any number of steps from an opening
abbrev pub IsReached : World → Type 0
IsReached w = (u : World) × IsOpened u × Run u w

-- different live generations have different targets and servers, and each target is of the pool
abbrev pub LeasesAreApart : World → Type 0
LeasesAreApart w = AreApart w.live.pool w.live.lives w.live.next

-- the route, listed under these segments with this serial, is that of a live generation
pub record IsRouteOf (w : World) (path : List (List ℕ)) (r : Route) (serial : ℕ) : Type 0 where
  pub generation : ℕ
  pub lease : Leased
  pub held : get w.live.lives generation ≡ Some lease
  pub number : serial ≡ 2 * generation
  pub at : segments (route_path lease.server) ≡ path
  pub leads : r.entry.target ≡ lease.target

-- Each listed route with a serial is that of a live generation
abbrev pub RoutesAreLeased : World → Type 0
RoutesAreLeased w = (path : List (List ℕ)) (r : Route) (serial : ℕ) → listed w.table.rows path ≡ Some r → r.entry.serial ≡ Some serial
    → IsRouteOf w path r serial

-- a program is of a live generation, at the target that is leased to it
pub record IsProgramOf (w : World) (p : Instance) : Type 0 where
  pub lease : Leased
  pub held : get w.live.lives p.generation ≡ Some lease
  pub at : instance_of p.generation lease ≡ p

-- no two programs run at one target
abbrev pub HaveOwnTargets : List Instance → Type 0
HaveOwnTargets [] = Unit {0}
HaveOwnTargets (p ∷ ps) = ((q : Instance) → Mem ps q → q.target ≢ p.target) × HaveOwnTargets ps

-- Each program is of a live generation, at the target that is leased to it, and no two run at one target
pub record ProgramsAreLeased (w : World) : Type 0 where
  pub leased : (p : Instance) → Mem w.programs p → IsProgramOf w p
  pub apart : HaveOwnTargets w.programs

-- The event is one that ends a lease
abbrev pub Ends : LifeEvent → Type 0
Ends event = (event ≡ Ended) ⊎ (event ≡ SpawnFailed)

-- No listed route has this serial
abbrev pub IsNeverListed : World → (serial : ℕ) → Type 0
IsNeverListed w serial = (path : List (List ℕ)) (r : Route) → listed w.table.rows path ≡ Some r → r.entry.serial ≢ Some serial

-- no route that sync will delete is that of a generation that is live for its path
abbrev pub SparesLive : World → Type 0
SparesLive w = (path : List ℕ) (g : ℕ) (l : Leased) → Mem w.were_over (record { path = path; serial = 2 * g })
    → get w.live.lives g ≡ Some l → route_path l.server ≢ path
