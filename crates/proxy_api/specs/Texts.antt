-- The replies of the API.
use Rattle.std.specs.Prelude.{◌≡◌, ◌⊎◌, ℕ, List, [], ◌++◌, codes, decimal, Option, Result, Ok, Err}
use Rattle.hub_devices.specs.Faults.{Rises}
use Rattle.hub_devices.specs.Streams.{Appends}
use Rattle.http_wire.specs.declared.error.SessionFault.{SessionFault}
use Rattle.http_wire.specs.declared.error.SessionFault.TheVariants.{ReadFault, WriteFault}
use Rattle.proxy_core.specs.Refusals.{status_line, reply_with, reply_behind, message_body}
use Rattle.route_table.specs.declared.route.RouteRefusal.{RouteRefusal}
use Rattle.route_table.specs.declared.route.RouteRefusal.TheVariants as route
use Rattle.proxy_api.specs.declared.calls.ApiRefusal.{ApiRefusal}
use Rattle.proxy_api.specs.declared.calls.ApiRefusal.TheVariants.{BadHead, TooLarge, Coding, NoToken, NoPlace, BadMethod, BadQuery, BadBody}
use Rattle.proxy_api.specs.declared.calls.ApiRefusal.TheVariants.{BadTarget, Table, Memory}
use Rattle.proxy_api.specs.declared.texts.ApiReply.{ApiReply}
use Rattle.proxy_api.specs.declared.texts.ApiReply.TheVariants.{Listed, Added, Deleted, Refused}

abbrev pub table_status : RouteRefusal → ℕ
table_status route.NotFound = 404
table_status (route.Stale given seen) = 409
table_status (route.BadPath at) = 400
table_status route.BadTarget = 400
table_status (route.Full limit) = 500
table_status route.Memory = 507

abbrev pub refusal_status : ApiRefusal → ℕ
refusal_status BadHead = 400
refusal_status TooLarge = 413
refusal_status Coding = 501
refusal_status NoToken = 403
refusal_status NoPlace = 404
refusal_status BadMethod = 405
refusal_status BadQuery = 400
refusal_status BadBody = 400
refusal_status BadTarget = 400
refusal_status (Table refusal) = table_status refusal
refusal_status Memory = 507

abbrev pub status_of : ApiReply → ℕ
status_of (Listed text) = 200
status_of Added = 201
status_of Deleted = 204
status_of (Refused refusal) = refusal_status refusal

abbrev pub stale_message : ℕ → ℕ → List ℕ
stale_message given seen = codes "seen " ++ decimal seen ++ codes ", given " ++ decimal given

abbrev pub table_message : RouteRefusal → List ℕ
table_message route.NotFound = codes "not found"
table_message (route.Stale given seen) = stale_message given seen
table_message (route.BadPath at) = codes "bad path"
table_message route.BadTarget = codes "bad target"
table_message (route.Full limit) = codes "full: routes " ++ decimal limit
table_message route.Memory = codes "no memory"

abbrev pub refusal_message : ApiRefusal → List ℕ
refusal_message BadHead = codes "bad head"
refusal_message TooLarge = codes "too large"
refusal_message Coding = codes "coding not supported"
refusal_message NoToken = codes "no valid token"
refusal_message NoPlace = codes "not found"
refusal_message BadMethod = codes "method not allowed"
refusal_message BadQuery = codes "bad query"
refusal_message BadBody = codes "bad body"
refusal_message BadTarget = codes "bad target"
refusal_message (Table refusal) = table_message refusal
refusal_message Memory = codes "no memory"

-- the body's type
abbrev pub json : List ℕ
json = codes "Content-Type: application/json\r\n"

-- a refusal has its message as its body, but where memory is wanting
abbrev pub refused_text : ApiRefusal → List ℕ
refused_text Memory = reply_with 507 [] []
refused_text refusal =
    status_line (refusal_status refusal) ++ reply_behind json (message_body (refusal_message refusal) (refusal_status refusal))

-- a deletion has no body, and so no length
abbrev pub deleted_text : List ℕ
deleted_text = status_line 204 ++ codes "Connection: close\r\n\r\n"

-- the bytes of a reply
abbrev pub reply_text : ApiReply → List ℕ
reply_text (Listed text) = status_line 200 ++ reply_behind json text
reply_text Added = reply_with 201 [] []
reply_text Deleted = deleted_text
reply_text (Refused refusal) = refused_text refusal

-- a text was written, or a part of it and the sink's count rose; the number is its status
abbrev pub IsTextWritten : List ℕ → ℕ → Option (List ℕ) → Option (List ℕ) → ℕ → ℕ → Result ℕ SessionFault → Type 0
IsTextWritten text status held held' writes writes' (Ok given) = (given ≡ status) × Appends held text held'
IsTextWritten text status held held' writes writes' (Err (ReadFault n)) = ⊥
IsTextWritten text status held held' writes writes' (Err (WriteFault n)) =
    (part more : List ℕ) × (text ≡ part ++ more) × Appends held part held' × Rises writes writes' × (n ≡ 0)

-- the same of a reply
abbrev pub IsWritten : ApiReply → Option (List ℕ) → Option (List ℕ) → ℕ → ℕ → Result ℕ SessionFault → Type 0
IsWritten reply held held' writes writes' result = IsTextWritten (reply_text reply) (status_of reply) held held' writes writes' result

-- the same, or a 507 in its place where there was no memory for it
abbrev pub IsReplied : ApiReply → Option (List ℕ) → Option (List ℕ) → ℕ → ℕ → Result ℕ SessionFault → Type 0
IsReplied reply held held' writes writes' result =
    IsWritten reply held held' writes writes' result ⊎ IsWritten (Refused Memory) held held' writes writes' result
