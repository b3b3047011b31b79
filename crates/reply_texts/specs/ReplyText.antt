-- The bytes of a reply (RFC 9112).
use Rattle.std.specs.Prelude.{ℕ, ◌==◌, ◌&&◌, nat_le, nat_lt, Bool, true, false, if◌then◌else◌, List, [], ◌∷◌, ◌++◌, length, decimal, codes}
use Rattle.std.specs.Prelude.{Option, Some, None}
use Rattle.http.specs.StatusCode.{reason_phrase}
use Rattle.json.specs.Print.{print}
use Rattle.hub_view.specs.Json.{Json, message_body}
use Rattle.hub_machine.specs.Replies.{Reply}

abbrev pub crlf : List ℕ
crlf = 13 ∷ 10 ∷ []

abbrev pub header : List ℕ → List ℕ → List ℕ
header name value = name ++ codes ": " ++ value ++ crlf

abbrev pub text_or_none : Option (List ℕ) → List ℕ
text_or_none None = []
text_or_none (Some text) = text

-- a number of three digits is a status; its phrase is empty where none is known
abbrev pub phrase : ℕ → List ℕ
phrase status = if nat_le 100 status && nat_lt status 1000 then text_or_none (reason_phrase status) else []

abbrev pub status_line : ℕ → List ℕ
status_line status = codes "HTTP/1.1 " ++ decimal status ++ codes " " ++ phrase status ++ crlf

-- a body is there where it is a value
abbrev pub has_body : Json → Bool
has_body [] = false
has_body (t ∷ ts) = true

-- a body has its type and its length; a reply without body has the length 0, and 204 has neither
abbrev pub body_headers : ℕ → Bool → ℕ → List ℕ
body_headers status true size =
    header (codes "Content-Type") (codes "application/json") ++ header (codes "Content-Length") (decimal size)
body_headers status false size = if status == 204 then [] else header (codes "Content-Length") (codes "0")

abbrev pub location_header : Option (List ℕ) → List ℕ
location_header None = []
location_header (Some place) = header (codes "Location") place

abbrev pub store_headers : Bool → List ℕ
store_headers false = []
store_headers true = header (codes "Cache-Control") (codes "no-store") ++ header (codes "Pragma") (codes "no-cache")

abbrev pub revision_header : Option ℕ → List ℕ
revision_header None = []
revision_header (Some n) = header (codes "X-Hub-Revision") (decimal n)

abbrev pub close_header : Bool → List ℕ
close_header false = []
close_header true = header (codes "Connection") (codes "close")

-- the headers behind those on the body
abbrev pub other_headers : Reply → Bool → List ℕ
other_headers r close =
    location_header r.location ++ store_headers r.no_store ++ revision_header r.revision ++ close_header close

-- the whole reply; `close` says that the connection is closed after it
abbrev pub reply_text : Reply → Bool → List ℕ
reply_text r close =
    status_line r.status
    ++ body_headers r.status (has_body r.body) (length (print r.body))
    ++ other_headers r close
    ++ crlf
    ++ print r.body

-- a refusal that comes before the visit: it has no revision
abbrev pub refused : ℕ → List ℕ → Reply
refused status message =
    record { status = status; body = message_body status message; location = None; no_store = false; revision = None }

-- the reply where there is no memory for one: a 507 without body
abbrev pub without_memory : Reply
without_memory = record { status = 507; body = []; location = None; no_store = false; revision = None }

-- what is sent then. The connection is closed after it
abbrev pub no_memory : List ℕ
no_memory = reply_text without_memory true
