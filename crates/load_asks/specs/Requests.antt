-- The requests of a job (RFC 9112).
use Rattle.std.specs.Prelude.{ℕ, List, ◌++◌, decimal, codes}

abbrev pub user_front : List ℕ → ℕ → List ℕ
user_front method k = method ++ codes " /hub/api/users/u" ++ decimal k

-- behind the path, where there is no body
abbrev pub end : List ℕ → List ℕ
end token = codes " HTTP/1.1\r\nHost: hub\r\nAuthorization: token " ++ token ++ codes "\r\nConnection: close\r\n\r\n"

abbrev pub user_request : ℕ → List ℕ
user_request k = user_front (codes "POST") k ++ end (codes "load-admin-token")

abbrev pub token_request : ℕ → List ℕ
token_request k =
    user_front (codes "POST") k ++ codes "/tokens HTTP/1.1\r\nHost: hub\r\nAuthorization: token load-admin-token"
    ++ codes "\r\nContent-Length: 2\r\nConnection: close\r\n\r\n{}"

abbrev pub get_request : List ℕ → ℕ → List ℕ
get_request token k = user_front (codes "GET") k ++ end token

abbrev pub guarded_request : List ℕ → List ℕ
guarded_request token = codes "GET /" ++ end token
