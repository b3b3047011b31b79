-- Which leases may become live servers.
use Rattle.std.specs.Prelude.{◌≡◌, ◌<◌, ◌≤◌, ◌^◌, ◌+◌, ◌*◌, ℕ, false, length, List, [], ◌∷◌, Contains, Some, None}
use Rattle.std.specs.FinMap.{empty, get, values}
use Rattle.hub_rows.specs.declared.records.Lease.{Lease}
use Rattle.hub_tables.specs.State.{State}
use Rattle.hub_lives.specs.Lives.{is_leased, lease_of, owed}
use Rattle.hub_lives.specs.LiveServers.{LiveServers}
use Rattle.hub_machine.specs.State.{next_generation, KeepsLeases}
use Rattle.hub_opening.specs.Kept.{adopted, lives_in}

-- the lease is among the live servers
abbrev pub with_lease : LiveServers → Lease → LiveServers
with_lease live l = record live { lives = adopted live.lives l }

-- its target is of the pool, and no live server has its target, its server or its generation, which was given out before
pub record IsApart (live : LiveServers) (l : Lease) (g : ℕ) : Type 0 where
  pub pooled : Contains live.pool l.target
  pub free : is_leased live.lives l.target ≡ false
  pub rests : lease_of live.lives l.server ≡ None
  pub fresh : get live.lives g ≡ None
  pub below : g < live.next
  pub room : owed live.lives < 2 ^ 63

abbrev pub FitsLives : LiveServers → Lease → Type 0
FitsLives live l = (g : ℕ) → l.generation ≡ Some g → IsApart live l g

-- one after the other
abbrev pub FitInTurn : LiveServers → List Lease → Type 0
FitInTurn live [] = Unit {0}
FitInTurn live (l ∷ rest) = FitsLives live l × FitInTurn (with_lease live l) rest

-- all leases of the tables
abbrev pub AreFit : (pool : List (List ℕ)) → State → Type 0
AreFit pool t = FitInTurn (record { pool = pool; lives = empty; next = next_generation t }) (values t.leases)

-- all that a machine asks of the live servers of tables
pub record IsOpenable (pool : List (List ℕ)) (t : State) : Type 0 where
  pub fit : AreFit pool t
  pub kept : KeepsLeases t (lives_in t)
  pub above : 1 ≤ next_generation t
  pub few : next_generation t ≤ 2 ^ 61 + length pool
  pub owing : owed (lives_in t) ≤ 4 * length pool
