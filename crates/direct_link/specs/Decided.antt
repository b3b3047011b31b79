-- Whom a guard lets in that asks a hub directly.
use Rattle.std.specs.Prelude.{◌≡◌, ◌⊎◌, ℕ, true, false, List, Option, Some, None, Result, Ok, Err}
use Rattle.http_wire.specs.Token.{token_of}
use Rattle.http_wire.specs.declared.error.SessionFault.{SessionFault}
use Rattle.http_wire.specs.declared.error.SessionFault.TheVariants.{ReadFault, WriteFault}
use Rattle.http_wire.specs.declared.error.WireError.{WireError}
use Rattle.http_wire.specs.declared.head.Head.{Head}
use Rattle.hub_core.specs.declared.start.Start.{Start}
use Rattle.hub_devices.specs.Faults.{Rises}
use Rattle.hub_kit.specs.declared.names.ServerKey.{ServerKey}
use Rattle.hub_run.specs.Turns.{View}
use Rattle.proxy_core.specs.Refusals.{status_of, wire_refusal}
use Rattle.proxy_core.specs.declared.refusals.Forwarded.{Forwarded}
use Rattle.proxy_core.specs.declared.refusals.Forwarded.TheVariants.{Passed, Refused, Ended, Cut}
use Rattle.proxy_wire.specs.Framing.{request_framing}
use Rattle.upstreams.specs.Upstream.{Told}
use Rattle.direct_link.specs.Verdicts.{HoldsAt, Admits, Undecided}

-- there is a token, and it may enter the server
abbrev pub IsLetIn : Start → View → View → ServerKey → Option (List ℕ) → Type 0
IsLetIn start x y server None = ⊥
IsLetIn start x y server (Some token) = HoldsAt start x y (Admits token server true)

-- there is no token, or it may not
abbrev pub IsKeptOut : Start → View → View → ServerKey → Option (List ℕ) → Type 0
IsKeptOut start x y server None = Unit {0}
IsKeptOut start x y server (Some token) = HoldsAt start x y (Admits token server false)

-- what the server was told, and how often the input and the output have failed
pub record Around : Type 0 where
  pub told : Option Told
  pub reads : ℕ
  pub writes : ℕ

-- there is a token, and the hub's answer tells nothing of it
abbrev pub IsUndecided : Start → View → View → ServerKey → Option (List ℕ) → Type 0
IsUndecided start x y server None = ⊥
IsUndecided start x y server (Some token) = Undecided start x y token server

-- why this status: memory was wanting, the body has no length that is served, or the hub decided nothing
abbrev pub IsCause : Start → View → View → ServerKey → Head → ℕ → Type 0
IsCause start x y server head status =
    (status ≡ 507)
    ⊎ (((e : WireError) × (request_framing head.headers ≡ Err e) × (status ≡ status_of (wire_refusal e)))
    ⊎ ((status ≡ 502) × IsUndecided start x y server (token_of head.headers)))

-- why a request that wasn't let in ended so, and not by a 403
abbrev pub IsHindered : Start → View → View → ServerKey → Head → Around → Around → Result Forwarded SessionFault → Type 0
IsHindered start x y server head old new (Ok Passed) = ⊥
IsHindered start x y server head old new (Ok (Refused status)) = IsCause start x y server head status
IsHindered start x y server head old new (Ok Ended) = ⊥
IsHindered start x y server head old new (Ok Cut) = ⊥
IsHindered start x y server head old new (Err (ReadFault n)) = Rises old.reads new.reads
IsHindered start x y server head old new (Err (WriteFault n)) = Rises old.writes new.writes

-- a request with this head was passed on only where its token may enter, and answered 403 exactly where it may not
pub record Decided (start : Start) (x y : View) (server : ServerKey) (head : Head) (old new : Around)
    (result : Result Forwarded SessionFault) : Type 0 where
  pub passed : result ≡ Ok Passed → IsLetIn start x y server (token_of head.headers)
  -- nothing went to the server, or it may enter
  pub unsent : (new.told ≡ old.told) ⊎ IsLetIn start x y server (token_of head.headers)
  pub refused : result ≡ Ok (Refused 403) → IsKeptOut start x y server (token_of head.headers)
  -- it was answered 403, or it may enter, or something else hindered it
  pub otherwise : (result ≡ Ok (Refused 403))
      ⊎ (IsLetIn start x y server (token_of head.headers) ⊎ IsHindered start x y server head old new result)
