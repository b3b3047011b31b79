-- What is shown of a server.
use Rattle.std.specs.Prelude.{ℕ, Bool, true, false, List, [], ◌∷◌, ◌++◌, codes}
use Rattle.hub_kit.specs.declared.names.ServerKey.{ServerKey}
use Rattle.server_life.specs.declared.life.Phase.{Phase}
use Rattle.server_life.specs.declared.life.Phase.TheVariants.{Stopped, Adopting, Spawning, Routing, Ready}
use Rattle.hub_view.specs.Json.{Json, line, truth, maybe, nothing, pairs}
use Rattle.hub_kit.specs.MomentTexts.{moment_text}
use Rattle.hub_view.specs.declared.facts.ServerFacts.{ServerFacts}

abbrev pub at : ℕ → Json
at m = line (moment_text m)

-- a server is live in every phase but the stopped one
abbrev pub is_live : Phase → Bool
is_live Stopped = false
is_live _ = true

abbrev pub is_ready : Phase → Bool
is_ready (Ready g) = true
is_ready _ = false

-- what a server is on its way to: it starts, or it stops, and a parked one still has to
abbrev pub pending : Phase → Json
pending Stopped = nothing
pending (Ready g) = nothing
pending (Adopting g) = line (codes "spawn")
pending (Spawning g) = line (codes "spawn")
pending (Routing g) = line (codes "spawn")
pending _ = line (codes "stop")

abbrev pub server_path : List ℕ → List ℕ
server_path [] = []
server_path (b ∷ bs) = (b ∷ bs) ++ codes "/"

-- /user/U/ of the default server, /user/U/S/ of another
abbrev pub server_url : ServerKey → List ℕ
server_url k = codes "/user/" ++ k.user ++ codes "/" ++ server_path k.server

abbrev pub server_body : ServerFacts → Json
server_body s = pairs (
    (codes "last_activity", maybe at s.row.last_activity)
    ∷ (codes "name", line s.row.key.server)
    ∷ (codes "pending", pending s.life.phase)
    ∷ (codes "ready", truth (is_ready s.life.phase))
    ∷ (codes "started", maybe at s.row.started)
    ∷ (codes "url", line (server_url s.row.key))
    ∷ [])
