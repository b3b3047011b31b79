-- The texts of the refusals that a guard itself writes.
use Rattle.std.specs.Prelude.{◌≡◌, ℕ, List, ◌++◌, codes, Option, Result, Ok, Err}
use Rattle.hub_devices.specs.Faults.{Rises}
use Rattle.hub_devices.specs.Streams.{Appends}
use Rattle.http_wire.specs.declared.error.SessionFault.{SessionFault}
use Rattle.http_wire.specs.declared.error.SessionFault.TheVariants.{ReadFault, WriteFault}
use Rattle.proxy_core.specs.declared.refusals.Forwarded.{Forwarded}
use Rattle.proxy_core.specs.declared.refusals.Forwarded.TheVariants.{Passed, Refused, Ended, Cut}
use Rattle.proxy_core.specs.Refusals.{refused_with}
use Rattle.guard.specs.declared.denials.Denial.{Denial}
use Rattle.guard.specs.declared.denials.Denial.TheVariants.{NoToken, NoAccess, BadHub, Hub, BadQuery, BadState, BadNext, SignIn, Random}

-- The status of a refusal that the guard itself writes
abbrev pub denial_status : Denial → ℕ
denial_status NoToken = 403
denial_status NoAccess = 403
denial_status BadHub = 502
denial_status Hub = 503
denial_status BadQuery = 400
denial_status BadState = 403
denial_status BadNext = 400
denial_status SignIn = 403
denial_status Random = 503

-- The bytes of such a refusal
abbrev pub denial_text : Denial → List ℕ
denial_text NoToken = refused_with 403 (codes "no valid token")
denial_text NoAccess = refused_with 403 (codes "no access")
denial_text BadHub = refused_with 502 (codes "bad hub")
denial_text Hub = refused_with 503 (codes "hub")
denial_text BadQuery = refused_with 400 (codes "bad query")
denial_text BadState = refused_with 403 (codes "bad state")
denial_text BadNext = refused_with 400 (codes "bad next")
denial_text SignIn = refused_with 403 (codes "sign-in refused")
denial_text Random = refused_with 503 (codes "random")

-- The refusal was written, or a part of it and the sink's count of faults rose. held is what the sink held, and writes its count; with a
-- prime: after
abbrev pub IsDenied : Denial → Option (List ℕ) → Option (List ℕ) → ℕ → ℕ → Result Forwarded SessionFault → Type 0
IsDenied d held held' writes writes' (Ok Passed) = ⊥
IsDenied d held held' writes writes' (Ok (Refused s)) = (s ≡ denial_status d) × Appends held (denial_text d) held'
IsDenied d held held' writes writes' (Ok Ended) = ⊥
IsDenied d held held' writes writes' (Ok Cut) = ⊥
IsDenied d held held' writes writes' (Err (ReadFault n)) = ⊥
IsDenied d held held' writes writes' (Err (WriteFault n)) =
    (part more : List ℕ) × (denial_text d ≡ part ++ more) × Appends held part held' × Rises writes writes' × (n ≡ 0)
