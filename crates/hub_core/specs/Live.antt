-- Which servers are live: with a generation, ready, and being adopted.
use Rattle.std.specs.Prelude.{ℕ, Bool, false, List, Option, Some, None, option_map}
use Rattle.std.specs.List.{filter_map}
use Rattle.std.specs.List.Sorted.{IsPermutation, IsSortedByKey}
use Rattle.std.specs.FinMap.{get, values}
use Rattle.hub_kit.specs.declared.names.ServerKey.{ServerKey}
use Rattle.hub_kit.specs.KeyOrder.{key_cmp, name_cmp}
use Rattle.scope_filters.specs.Admits.{same_server}
use Rattle.server_life.specs.declared.life.Phase.{Phase}
use Rattle.server_life.specs.declared.life.Phase.TheVariants.{Adopting, Ready}
use Rattle.hub_lives.specs.Lives.{Lives}
use Rattle.hub_lives.specs.declared.lives.Leased.{Leased}
use Rattle.hub_core.specs.declared.live.LiveServer.{LiveServer}

-- the server that has a lease of this generation
abbrev pub server_of : Lives → ℕ → Option ServerKey
server_of lives g = option_map (λ (l : Leased). l.server) (get lives g)

-- The lease, if there is one, is the server's
abbrev is_of : ServerKey → Option Leased → Bool
is_of server None = false
is_of server (Some l) = same_server l.server server

-- the server has a lease of this generation
abbrev pub is_live : Lives → ServerKey → ℕ → Bool
is_live lives server g = is_of server (get lives g)

-- ---- the servers of a phase

-- The generation that is ready in this phase, if one is
abbrev pub ready_in : Phase → Option ℕ
ready_in (Ready g) = Some g
ready_in phase = None

-- The generation that is being adopted in this phase, if one is
abbrev pub adopting_in : Phase → Option ℕ
adopting_in (Adopting g) = Some g
adopting_in phase = None

-- the server of a lease, with the generation that its phase has
abbrev pub as_live : Leased → Option ℕ → Option LiveServer
as_live l None = None
as_live l (Some g) = Some (record { server = l.server; generation = g; target = l.target })

-- The ready servers of these leases
abbrev pub ready_among : List Leased → List LiveServer
ready_among ls = filter_map (λ (l : Leased). as_live l (ready_in l.life.phase)) ls

-- The servers of these leases that are being adopted
abbrev pub adopting_among : List Leased → List LiveServer
adopting_among ls = filter_map (λ (l : Leased). as_live l (adopting_in l.life.phase)) ls

-- The ready servers, in the order of their generations
abbrev pub ready_servers : Lives → List LiveServer
ready_servers lives = ready_among (values lives)

-- The servers that are being adopted, in the order of their generations
abbrev pub adopting_servers : Lives → List LiveServer
adopting_servers lives = adopting_among (values lives)

-- exactly the servers that are ready, in the order of their keys
pub record AreReady (lives : Lives) (servers : List LiveServer) : Type 0 where
  pub same : IsPermutation (ready_servers lives) servers
  pub ordered : IsSortedByKey (λ (s : LiveServer). s.server) key_cmp servers

-- exactly the servers that are being adopted, in the order of their targets
pub record AreAdopting (lives : Lives) (servers : List LiveServer) : Type 0 where
  pub same : IsPermutation (adopting_servers lives) servers
  pub ordered : IsSortedByKey (λ (s : LiveServer). s.target) name_cmp servers
