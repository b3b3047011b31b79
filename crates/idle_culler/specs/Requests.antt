-- The requests of a round (RFC 9112).
use Rattle.std.specs.Prelude.{ℕ, List, [], ◌∷◌, ◌++◌, decimal, codes}
use Rattle.idle_culler.specs.declared.rules.Cull.{Cull}
use Rattle.idle_culler.specs.declared.rules.Cull.TheVariants as Of

abbrev pub line : List ℕ → List ℕ
line text = text ++ (13 ∷ 10 ∷ [])

-- behind the path
abbrev pub front : List ℕ → List ℕ
front token = line (codes " HTTP/1.1") ++ line (codes "Host: hub") ++ codes "Authorization: token " ++ line token

abbrev pub end : List ℕ
end = line (codes "Connection: close") ++ line []

abbrev pub page_request : List ℕ → ℕ → List ℕ
page_request token offset =
    codes "GET /hub/api/users?limit=50&offset=" ++ decimal offset ++ front token
    ++ line (codes "Accept: application/jupyterhub-pagination+json") ++ end

-- the default server has no name
abbrev pub server_path : List ℕ → List ℕ
server_path [] = codes "/server"
server_path (b ∷ name) = codes "/servers/" ++ (b ∷ name)

abbrev pub path : Cull → List ℕ
path (Of.Server key) = codes "/hub/api/users/" ++ key.user ++ server_path key.server
path (Of.User user) = codes "/hub/api/users/" ++ user

abbrev pub deletion_request : List ℕ → Cull → List ℕ
deletion_request token cull = codes "DELETE " ++ path cull ++ front token ++ end

-- a named server that is stopped is removed
abbrev pub removal_request : List ℕ → Cull → List ℕ
removal_request token cull =
    codes "DELETE " ++ path cull ++ front token ++ line (codes "Content-Length: 15") ++ end ++ codes "{\"remove\":true}"
