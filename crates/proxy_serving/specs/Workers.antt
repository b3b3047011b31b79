-- The workers of a proxy, and the table that they share.
use Rattle.std.specs.Prelude.{◌≡◌, ◌⊎◌, ℕ, List, [], map, reverse, All, Some}
use Rattle.std.specs.FinMap.{empty}
use Rattle.desk.specs.Passes.{PassState, fresh}
use Rattle.route_table.specs.Table.{Table}
use Rattle.route_desk.specs.declared.router.Router.{Router}
use Rattle.route_desk.specs.declared.step.Step.{Step}
use Rattle.worker_hall.specs.Shifts.{AreServed}
use Rattle.proxy_serving.specs.declared.api_server.ApiServer.{ApiServer}
use Rattle.proxy_serving.specs.declared.ends.ProxyEnd.{ProxyEnd}
use Rattle.proxy_serving.specs.declared.forwarder.Forwarder.{Forwarder}
use Rattle.proxy_serving.specs.declared.forwarder.ProxyKit.{ProxyKit}

-- The pass that is split off this one
abbrev pub split_from : {E A : Type 0} → PassState E A → PassState E A
split_from p = fresh p.of p.base p.seen p.faults

-- how many paths a table of routes has at most
abbrev pub most_paths : ℕ
most_paths = 1048576

-- A pass by which nothing was asked yet, of a table for so many paths that began with no route and has seen no step
pub record IsUnused (p : PassState Step Table) : Type 0 where
  pub table : Table
  pub base : p.base ≡ Some table
  pub bare : table.rows ≡ empty
  pub limit : table.limit ≡ most_paths
  pub seen : p.seen ≡ []
  pub mine : p.mine ≡ []

-- Servers, one with each of these kits, served so many connections, and gave their kits back as those; the first had the last kit. `serve`
-- says what servers are that served so many, `Begins` how each began, and `kit` what a server's kit is
pub record KitsServed {S K : Type 0} (serve : List S → ℕ → List S → Type 0) (Begins : S → Type 0) (kit : S → K) (kits : List K) (count : ℕ)
    (kits' : List K)
    : Type 0 where
  pub servers : List S
  pub left : List S
  pub begin : All Begins servers
  pub had : kits ≡ reverse (map kit servers)
  pub served : serve servers count left
  pub gave : kits' ≡ reverse (map kit left)

-- All workers began with the same unused pass, those that forwarded (`forwarded`) and those that answered (`answered`)
pub record OverOneTable (forwarded answered : PassState Step Table → Type 0) : Type 0 where
  pub pass : PassState Step Table
  pub unused : IsUnused pass
  pub by_forwarders : forwarded pass
  pub by_servers : answered pass

-- Nothing was served, and kits and clocks are as before; or as many connections as the end tells were, over one table: those of browsers by
-- forwarders with the kits, and those of the interface by servers with this secret and the clocks. `forwards` and `answers` say what one
-- of them does with a connection
abbrev pub ServedByAll : {W U C I O : Type 0} → (are_sides : I → O → Type 0)
    → (forwards : Forwarder (Router W) U C → I → O → Forwarder (Router W) U C → I → O → Type 0)
    → (answers : ApiServer (Router W) C → I → O → ApiServer (Router W) C → I → O → Type 0)
    → (secret : List ℕ)
    → List (ProxyKit U C) × List C
    → List (ProxyKit U C) × List C
    → ProxyEnd
    → Type 0
ServedByAll are_sides forwards answers secret (kits, clocks) (kits', clocks') end =
    ((end.forwarded ≡ 0) × (end.answered ≡ 0) × (kits' ≡ kits) × (clocks' ≡ clocks))
    ⊎ OverOneTable
    (λ pass. KitsServed (AreServed are_sides forwards) (λ f. f.routes.pass ≡ pass) (λ f. f.kit) kits end.forwarded kits')
    (λ pass. KitsServed (AreServed are_sides answers) (λ s. (s.routes.pass ≡ pass) × (s.secret.now ≡ secret)) (λ s. s.clock) clocks
    end.answered clocks')
