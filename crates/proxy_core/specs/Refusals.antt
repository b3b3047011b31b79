-- The texts of refusals.
use Rattle.std.specs.Prelude.{◌≡◌, ℕ, List, [], ◌++◌, length, codes, decimal, unwrap_or, Option, Result, Ok, Err}
use Rattle.http.specs.StatusCode.{reason_phrase}
use Rattle.hub_devices.specs.Faults.{Rises}
use Rattle.hub_devices.specs.Streams.{Appends}
use Rattle.http_wire.specs.declared.error.SessionFault.{SessionFault}
use Rattle.http_wire.specs.declared.error.SessionFault.TheVariants.{ReadFault, WriteFault}
use Rattle.http_wire.specs.declared.error.WireError.{WireError}
use Rattle.http_wire.specs.declared.error.WireError.TheVariants as wire
use Rattle.proxy_core.specs.declared.refusals.Refusal.{Refusal}
use Rattle.proxy_core.specs.declared.refusals.Refusal.TheVariants.{BadHead, BadChunk, BadPath, NotFound, TooLarge, Coding, BadUpstream}
use Rattle.proxy_core.specs.declared.refusals.Refusal.TheVariants.{Link, Memory}
use Rattle.proxy_core.specs.declared.refusals.Forwarded.{Forwarded}
use Rattle.proxy_core.specs.declared.refusals.Forwarded.TheVariants.{Passed, Refused, Ended, Cut}

abbrev pub status_of : Refusal → ℕ
status_of BadHead = 400
status_of BadChunk = 400
status_of BadPath = 400
status_of NotFound = 404
status_of TooLarge = 413
status_of Coding = 501
status_of BadUpstream = 502
status_of Link = 503
status_of Memory = 507

-- the status line with the status's phrase
abbrev pub status_line : ℕ → List ℕ
status_line status = codes "HTTP/1.1 " ++ decimal status ++ codes " " ++ unwrap_or (reason_phrase status) [] ++ codes "\r\n"

-- the headers, the length, that the connection is closed, and the body
abbrev pub reply_behind : List ℕ → List ℕ → List ℕ
reply_behind headers body =
    headers ++ codes "Content-Length: " ++ decimal (length body) ++ codes "\r\nConnection: close\r\n\r\n" ++ body

abbrev pub reply_with : ℕ → List ℕ → List ℕ → List ℕ
reply_with status headers body = status_line status ++ reply_behind headers body

-- `{"message":M,"status":N}`
abbrev pub message_body : List ℕ → ℕ → List ℕ
message_body message status = codes "{\"message\":\"" ++ message ++ codes "\",\"status\":" ++ decimal status ++ codes "}"

abbrev pub refused_with : ℕ → List ℕ → List ℕ
refused_with status message = reply_with status (codes "Content-Type: application/json\r\n") (message_body message status)

-- what is written; where memory is wanting, there is no body
abbrev pub refusal_text : Refusal → List ℕ
refusal_text BadHead = refused_with 400 (codes "bad head")
refusal_text BadChunk = refused_with 400 (codes "bad chunk")
refusal_text BadPath = refused_with 400 (codes "bad path")
refusal_text NotFound = refused_with 404 (codes "not found")
refusal_text TooLarge = refused_with 413 (codes "too large")
refusal_text Coding = refused_with 501 (codes "coding not supported")
refusal_text BadUpstream = refused_with 502 (codes "bad upstream")
refusal_text Link = refused_with 503 (codes "upstream")
refusal_text Memory = reply_with 507 [] []

-- what a refusal of the wire is to the client
abbrev pub wire_refusal : WireError → Refusal
wire_refusal wire.BadHead = BadHead
wire_refusal (wire.TooLarge n) = TooLarge
wire_refusal wire.Coding = Coding
wire_refusal wire.Ended = Memory
wire_refusal wire.Cut = Memory
wire_refusal wire.ReadFault = Memory
wire_refusal wire.Memory = Memory

-- the refusal was written, or a part of it and the sink's count rose
abbrev pub IsWritten : Refusal → Option (List ℕ) → Option (List ℕ) → ℕ → ℕ → Result Forwarded SessionFault → Type 0
IsWritten r held held' writes writes' (Ok Passed) = ⊥
IsWritten r held held' writes writes' (Ok (Refused s)) = (s ≡ status_of r) × Appends held (refusal_text r) held'
IsWritten r held held' writes writes' (Ok Ended) = ⊥
IsWritten r held held' writes writes' (Ok Cut) = ⊥
IsWritten r held held' writes writes' (Err (ReadFault n)) = ⊥
IsWritten r held held' writes writes' (Err (WriteFault n)) =
    (part more : List ℕ) × (refusal_text r ≡ part ++ more) × Appends held part held' × Rises writes writes' × (n ≡ 0)
