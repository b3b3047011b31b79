-- The live servers, and what is looked up of them.
use Rattle.std.specs.Prelude.{◌≡◌, ℕ, ◌<◌, Bool, false, not, List, [], sum_by, Contains, Option, Some, None, Result, Err}
use Rattle.std.specs.List.{find, list_any}
use Rattle.std.specs.Option.{unwrap_or}
use Rattle.std.specs.Ordering.{nat_cmp}
use Rattle.std.specs.FinMap.{FinMap, get, values, entries}
use Rattle.hub_kit.specs.declared.names.ServerKey.{ServerKey}
use Rattle.scope_filters.specs.Contexts.{same}
use Rattle.scope_filters.specs.Admits.{same_server}
use Rattle.server_life.specs.declared.life.Life.{Life}
use Rattle.server_life.specs.declared.life.LifeEvent.{LifeEvent}
use Rattle.server_life.specs.declared.life.LifeRefusal.{LifeRefusal}
use Rattle.server_life.specs.declared.life.LifeRefusal.TheVariants.{OldGeneration}
use Rattle.server_life.specs.declared.life.Phase.TheVariants.{Stopped, Adopting, Spawning}
use Rattle.server_life.specs.declared.life.Todo.{Todo}
use Rattle.server_life.specs.LifeTable.{generation_of, life_after}
use Rattle.server_life.specs.Owed.{owed as owed_in}
use Rattle.hub_lives.specs.declared.lives.Leased.{Leased}

-- the live servers, under their generations
abbrev pub Lives : Type 0
Lives = FinMap nat_cmp Leased

-- The life of a server that was never started, or has stopped
abbrev pub at_rest : Life
at_rest = record { phase = Stopped; stop_asked = false }

-- the lease of a server, with its generation
abbrev pub lease_of : Lives → ServerKey → Option (ℕ × Leased)
lease_of lives k = find (λ e. same_server e.1.server k) (entries lives)

-- The life that goes with a lease; without one the server is at rest
abbrev pub life_in : Option (ℕ × Leased) → Life
life_in None = at_rest
life_in (Some e) = e.1.life

-- a server without a lease is at rest
abbrev pub life_of : Lives → ServerKey → Life
life_of lives k = life_in (lease_of lives k)

-- A server of the user u is live
abbrev pub has_live_server : Lives → List ℕ → Bool
has_live_server lives u = list_any (λ l. same l.server.user u) (values lives)

-- How many entries are still owed for all live servers, at most
abbrev pub owed : Lives → ℕ
owed lives = sum_by (λ l. owed_in l.life.phase) (values lives)

-- those that a generation still owes
abbrev pub owed_by : Option Leased → ℕ
owed_by None = 0
owed_by (Some l) = owed_in l.life.phase

-- A live server holds the target
abbrev pub is_leased : Lives → List ℕ → Bool
is_leased lives target = list_any (λ l. same l.target target) (values lives)

-- the free target of least index
abbrev pub free_target : (pool : List (List ℕ)) → Lives → Option (List ℕ)
free_target pool lives = find (λ target. not (is_leased lives target)) pool

-- the free target of least index is leased to a server for a generation, which is being started
abbrev pub leased_to : (pool : List (List ℕ)) → Lives → ℕ → ServerKey → Leased
leased_to pool lives g server =
    record { server = server; target = unwrap_or (free_target pool lives) []; life = record { phase = Spawning g; stop_asked = false } }

-- a target that a server holds for a generation whose program may still run
abbrev pub adopted_by : ServerKey → (target : List ℕ) → ℕ → Leased
adopted_by server target g = record { server = server; target = target; life = record { phase = Adopting g; stop_asked = false } }

-- ---- a step of a life

-- the next life and the call that is then owed, or why the event is refused
abbrev pub LifeStep : Type 0
LifeStep = Result (Life × Todo) LifeRefusal

-- What the event makes of the life of the generation g, by its lease; a generation without one refuses it
abbrev pub step_of : Option Leased → ℕ → LifeEvent → LifeStep
step_of None g event = Err (OldGeneration g)
step_of (Some l) g event = life_after l.life g event

-- what an event makes of the life of a generation
abbrev pub step_at : Lives → ℕ → LifeEvent → LifeStep
step_at lives g event = step_of (get lives g) g event

-- ---- what is true of all live servers

-- Different live generations have different targets and servers. Each target is of the pool, each generation is below the next one, and
-- each life is of its generation.
pub record AreApart (pool : List (List ℕ)) (lives : Lives) (next : ℕ) : Type 0 where
  pub targets : (g h : ℕ) (a b : Leased) → get lives g ≡ Some a → get lives h ≡ Some b → a.target ≡ b.target → g ≡ h
  pub servers : (g h : ℕ) (a b : Leased) → get lives g ≡ Some a → get lives h ≡ Some b → a.server ≡ b.server → g ≡ h
  pub pooled : (g : ℕ) (a : Leased) → get lives g ≡ Some a → Contains pool a.target
  pub below : (g : ℕ) (a : Leased) → get lives g ≡ Some a → g < next
  pub phases : (g : ℕ) (a : Leased) → get lives g ≡ Some a → generation_of a.life.phase ≡ Some g
