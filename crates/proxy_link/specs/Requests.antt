-- The requests to a proxy's interface (RFC 9112), in the manner of configurable-http-proxy.
use Rattle.std.specs.Prelude.{ℕ, Bool, false, ◌&&◌, ◌||◌, ◌==◌, List, [], ◌∷◌, ◌++◌, length, decimal, codes, Option, Some, None}
use Rattle.std.specs.Char.{is_ascii_alphanumeric}
use Rattle.std.specs.List.{list_all}
use Rattle.serde_json.specs.Data.{Data, number, string, object, unsigned, Members, no_members, member, put}
use Rattle.serde_json.specs.Written.{compact_text}

-- ---- paths

-- a slash, a byte that a listed path has as it is, or the sign of an escape
abbrev pub is_path_byte : ℕ → Bool
is_path_byte b = is_ascii_alphanumeric b || b == 47 || b == 45 || b == 46 || b == 95 || b == 126 || b == 64 || b == 37

abbrev pub begins_with_slash : List ℕ → Bool
begins_with_slash [] = false
begins_with_slash (b ∷ bytes) = b == 47

-- a path of the form in which a proxy lists one
abbrev pub is_path : List ℕ → Bool
is_path path = begins_with_slash path && list_all is_path_byte path

-- ---- heads

-- behind the path
abbrev pub front : List ℕ → List ℕ
front secret = codes " HTTP/1.1\r\nHost: proxy\r\nAuthorization: token " ++ secret

abbrev pub end : List ℕ
end = codes "\r\nConnection: close\r\n\r\n"

-- the rest of a head that has a body, and the body
abbrev pub with_body : List ℕ → List ℕ
with_body body =
    codes "\r\nContent-Type: application/json\r\nContent-Length: " ++ decimal (length body) ++ end ++ body

-- ---- the body of an addition

abbrev pub with_target : List ℕ → Members → Members
with_target target members = put (codes "target") (string target) members

abbrev pub with_serial : Option ℕ → Members → Members
with_serial None members = members
with_serial (Some n) members = put (codes "serial") (number (unsigned n)) members

-- {"serial":N,"target":"T"}, or {"target":"T"} where there is no serial
abbrev pub entry_members : List ℕ → Option ℕ → Members
entry_members target None = member (codes "target") (string target) no_members
entry_members target (Some n) = member (codes "serial") (number (unsigned n)) (member (codes "target") (string target) no_members)

abbrev pub entry_text : List ℕ → Option ℕ → List ℕ
entry_text target serial = compact_text (object (entry_members target serial))

-- ---- the requests

abbrev pub add_request : (secret path target : List ℕ) → Option ℕ → List ℕ
add_request secret path target serial =
    codes "POST /api/routes" ++ path ++ front secret ++ with_body (entry_text target serial)

abbrev pub delete_request : (secret path : List ℕ) → ℕ → List ℕ
delete_request secret path serial =
    codes "DELETE /api/routes" ++ path ++ codes "?serial=" ++ decimal serial ++ front secret ++ end

abbrev pub list_request : List ℕ → List ℕ
list_request secret = codes "GET /api/routes" ++ front secret ++ end
