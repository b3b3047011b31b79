-- Which call of the API a request is.
use Rattle.std.specs.Prelude.{◌==◌, nat_lt, ℕ, List, [], ◌∷◌, length, take, drop, bytes_eq, codes, Option, Some, None, Result, Ok, Err}
use Rattle.std.specs.Prelude.{if◌then◌else◌}
use Rattle.proxy_api.specs.declared.calls.ApiRefusal.{ApiRefusal}
use Rattle.proxy_api.specs.declared.calls.ApiRefusal.TheVariants.{NoPlace, BadMethod}
use Rattle.proxy_api.specs.declared.calls.Call.{Call}
use Rattle.proxy_api.specs.declared.calls.Call.TheVariants.{List as ListAll, Add, Delete}

-- what stands behind the table's path: nothing is `/`, and what doesn't begin with a slash is another place
abbrev pub behind_root : List ℕ → Option (List ℕ)
behind_root [] = Some (47 ∷ [])
behind_root (b ∷ rest) = if b == 47 then Some (b ∷ rest) else None

-- the path of the route: what stands behind `/api/routes`
abbrev pub route_path : List ℕ → Option (List ℕ)
route_path path = if bytes_eq (take 11 path) (codes "/api/routes") then behind_root (drop 11 path) else None

-- a GET lists the table, and the other two are of one path
abbrev pub call_on : List ℕ → List ℕ → Result Call ApiRefusal
call_on method path =
    if bytes_eq method (codes "GET") then (if nat_lt 1 (length path) then Err BadMethod else Ok ListAll) else (
    if bytes_eq method (codes "POST") then Ok Add else (
    if bytes_eq method (codes "DELETE") then Ok Delete else Err BadMethod))

abbrev pub call_of : List ℕ → Option (List ℕ) → Result Call ApiRefusal
call_of method None = Err NoPlace
call_of method (Some path) = call_on method path
