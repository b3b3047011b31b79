-- A whole connection: what was taken and written, and how it ended.
use Rattle.std.specs.Prelude.{◌≡◌, ◌+◌, ◌<◌, ◌≤◌, ◌||◌, ◌==◌, ℕ, Bool, true, false, List, [], ◌∷◌, ◌++◌, length, All, Option, Result, Ok}
use Rattle.std.specs.Prelude.{Err}
use Rattle.std.specs.List.{flat_map}
use Rattle.desk.specs.Passes.{PassState}
use Rattle.hub_devices.specs.Faults.{Rises}
use Rattle.hub_devices.specs.Streams.{Appends, IsEnd}
use Rattle.hub_devices.specs.declared.clock.Clock as clock
use Rattle.hub_devices.specs.declared.random.Random as random
use Rattle.hub_devices.specs.declared.route_link.RouteLink as link
use Rattle.hub_devices.specs.declared.sink.Sink as sink
use Rattle.hub_devices.specs.declared.source.Source as source
use Rattle.hub_devices.specs.declared.spawner.Spawner as spawner
use Rattle.http_wire.specs.Took.{Took}
use Rattle.http_wire.specs.Body.{RequestRefusedAt}
use Rattle.http_wire.specs.Wire.{head_limit}
use Rattle.http_wire.specs.declared.error.WireError.TheVariants as wire
use Rattle.http_wire.specs.declared.error.SessionFault.{SessionFault}
use Rattle.http_wire.specs.declared.error.SessionFault.TheVariants.{ReadFault, WriteFault}
use Rattle.hub_core.specs.Visits.{Entry}
use Rattle.hub_core.specs.declared.kit.HubKit.{HubKit}
use Rattle.hub_core.specs.declared.start.Start.{Start}
use Rattle.hub_run.specs.Turns.{Turn, View, Turns, TurnAt, IsRight, closes, turn_text, request_bytes, view_of}
use Rattle.hub_run.specs.declared.served.Served.{Served}
use Rattle.hub_run.specs.declared.served.Served.TheVariants.{Ended, Cut, Closed}

-- ---- what a connection knows

-- the bytes that a source has still to give, or that a sink holds, where it tells them; and how often it has failed
pub record StreamTold : Type 0 where
  pub bytes : Option (List ℕ)
  pub faults : ℕ

-- What a source tells
abbrev pub source_told : {I : Type 0} → source.Ghosts I → I → StreamTold
source_told i input = record { bytes = i.left input; faults = i.faults input }

-- What a sink tells
abbrev pub sink_told : {O : Type 0} → sink.Ghosts O → O → StreamTold
sink_told o output = record { bytes = o.held output; faults = o.faults output }

-- the visitor's pass and devices, and the two streams of the connection
pub record Known : Type 0 where
  pub view : View
  pub input : StreamTold
  pub output : StreamTold

-- What is known of a pass, a kit of devices and two streams, by what these tell
abbrev pub known_of : {S P C R I O : Type 0} → spawner.Ghosts S → link.Ghosts P → clock.Ghosts C → random.Ghosts R → source.Ghosts I
    → sink.Ghosts O → PassState Entry Start → HubKit S P C R → I → O → Known
known_of s p c r i o pass kit input output = record {
  view = view_of c.to_come r.left s.calls p.calls r.faults s.faults p.faults pass kit;
  input = source_told i input;
  output = sink_told o output;
}

-- From x to y no stream's count of faults fell
pub record Goes (x y : Known) : Type 0 where
  pub reads : x.input.faults ≤ y.input.faults
  pub writes : x.output.faults ≤ y.output.faults

-- ---- what was read and written

-- a request with its right reply, after which the connection stays open
abbrev pub IsOpenTurn : Start → Turn → Type 0
IsOpenTurn start t = IsRight start t × (closes t ≡ false)

-- These turns were read and answered, then the bytes `ahead` came, and then the text `tail` was written. `left` is what the source was to
-- give, and `held` what the sink held, as far as they tell it; with a prime: after
pub record Ran
    (start : Start) (left held left' held' : Option (List ℕ)) (turns : List Turn) (ahead tail : List ℕ) : Type 0 where
  pub each : All (IsOpenTurn start) turns
  pub took : Took left [] left' (flat_map request_bytes turns ++ ahead)
  pub wrote : Appends held (flat_map (λ t. turn_text t false) turns ++ tail) held'

-- The same between what was known before and what is known then
abbrev pub RanFrom : Start → Known → Known → List Turn → (ahead tail : List ℕ) → Type 0
RanFrom start x y turns ahead tail = Ran start x.input.bytes x.output.bytes y.input.bytes y.output.bytes turns ahead tail

-- after so many whole replies, fewer than a thousand
abbrev pub IsAfter : List Turn → ℕ → Type 0
IsAfter turns n = (length turns ≡ n) × (n < 1000)

-- In a book that began with `start` the last turn stands at the front of the bytes `ahead`, and `rest`, no more than a buffer holds, came
-- behind it; `left` is what the source has still to give
abbrev pub IsLast : Start → Option (List ℕ) → List ℕ → Turn → List ℕ → Type 0
IsLast start left ahead last rest = TurnAt start left ahead last rest × (length rest ≤ head_limit)

-- ---- its end

-- How a connection ended, for a book that began with `start`. x is what was known before it, and y what is known then. It ends with a fault
-- of a stream only where that stream's count of faults rose
abbrev pub ConnectionEnds : Start → Known → Known → Result Served SessionFault → Type 0
ConnectionEnds start x y (Ok (Ended n)) =
    (turns : List Turn) × IsAfter turns n × RanFrom start x y turns [] [] × Turns x.view turns y.view × IsEnd y.input.bytes
ConnectionEnds start x y (Ok (Cut n)) =
    (turns : List Turn) × (part : List ℕ) × IsAfter turns n × RanFrom start x y turns part [] × Turns x.view turns y.view
    × RequestRefusedAt y.input.bytes part wire.Cut
ConnectionEnds start x y (Ok (Closed n)) =
    (turns : List Turn) × (last : Turn) × (ahead rest : List ℕ) × (n ≡ length turns + 1) × (n ≤ 1000)
    × RanFrom start x y turns ahead (turn_text last true) × Turns x.view (turns ++ last ∷ []) y.view
    × IsLast start y.input.bytes ahead last rest × ((closes last || (n == 1000)) ≡ true)
ConnectionEnds start x y (Err (ReadFault n)) =
    (turns : List Turn) × (part : List ℕ) × IsAfter turns n × RanFrom start x y turns part [] × Turns x.view turns y.view
    × RequestRefusedAt y.input.bytes part wire.ReadFault × Rises x.input.faults y.input.faults
ConnectionEnds start x y (Err (WriteFault n)) =
    (turns : List Turn) × (last : Turn) × (ahead rest part more : List ℕ) × IsAfter turns n
    × RanFrom start x y turns ahead part × Turns x.view (turns ++ last ∷ []) y.view
    × IsLast start y.input.bytes ahead last rest × (turn_text last (closes last || (n + 1 == 1000)) ≡ part ++ more)
    × Rises x.output.faults y.output.faults
