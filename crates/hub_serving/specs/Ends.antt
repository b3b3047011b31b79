-- How `serve` ends, what it writes then, and which status that has.
use Rattle.std.specs.Prelude.{◌≡◌, ℕ, Bool, ◌&&◌, List, ◌++◌, codes, decimal, Option, Result, Ok, Err, if◌then◌else◌}
use Rattle.hub_devices.specs.Faults.{Rises}
use Rattle.hub_devices.specs.Streams.{Appends}
use Rattle.hub_main.specs.Ends.{cause_status}
use Rattle.hub_main.specs.Told.{StreamTold}
use Rattle.hub_serving.specs.declared.end.NotServed.{NotServed}
use Rattle.hub_serving.specs.declared.end.NotServed.TheVariants.{Because, NoAddress}
use Rattle.hub_serving.specs.declared.end.Ended.{Ended}
use Rattle.hub_serving.specs.declared.end.Line.{Line}
use Rattle.hub_serving.specs.declared.end.Line.TheVariants.{Written, Failed, NoMemory}

-- how the serving ended, or why nobody was served
abbrev pub End : Type 0
End = Result Ended NotServed

-- ---- the line

-- The line `served N` of a number
abbrev pub served_line : ℕ → List ℕ
served_line n = codes "served " ++ decimal n ++ codes "\n"

-- what such an output tells
abbrev pub stream_told : {O : Type 0} → (O → Option (List ℕ)) → (O → ℕ) → O → StreamTold
stream_told held faults output = record { bytes = held output; faults = faults output }

-- The output failed after a part of the line: o is what it told before, and o' then
pub record HasFailed (line : List ℕ) (o o' : StreamTold) : Type 0 where
  pub part : List ℕ
  pub more : List ℕ
  pub parts : line ≡ part ++ more
  pub wrote : Appends o.bytes part o'.bytes
  pub rises : Rises o.faults o'.faults

-- What is on the output, which told o before and tells o' then, where the writing of the line came to this: the whole line, a part of it
-- where the output failed, or nothing where memory was wanting
abbrev pub IsWritten : List ℕ → StreamTold → StreamTold → Line → Type 0
IsWritten line o o' Written = Appends o.bytes line o'.bytes
IsWritten line o o' Failed = HasFailed line o o'
IsWritten line o o' NoMemory = o' ≡ o

-- ---- the status

-- 0 where the line was written, 6 where the output failed, 7 where memory was wanting
abbrev pub line_status : Line → ℕ
line_status Written = 0
line_status Failed = 6
line_status NoMemory = 7

-- The status where nobody was served: 3 where the file names no address, and else that of the cause
abbrev pub unserved_status : NotServed → ℕ
unserved_status (Because cause) = cause_status cause
unserved_status NoAddress = 3

-- The exit status of the command that ended so: 8 where the listener failed, and else that of the line, or of what kept it from serving
abbrev pub status_of : End → ℕ
status_of (Ok ended) = if ended.failed then 8 else line_status ended.line
status_of (Err why) = unserved_status why

-- The same, but that a listener which was closed from within (`closed`) hasn't failed
abbrev pub forgiven_status : (closed : Bool) → End → ℕ
forgiven_status closed (Ok ended) = if ended.failed && closed then line_status ended.line else status_of (Ok ended)
forgiven_status closed (Err why) = unserved_status why
