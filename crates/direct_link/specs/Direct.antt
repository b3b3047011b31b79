-- What one ask of a direct link does.
use Rattle.std.specs.Prelude.{◌≡◌, ◌≢◌, ◌⊎◌, ◌<◌, ◌^◌, ℕ, List, [], length, Option, Some, Result, Ok, Err}
use Rattle.http_wire.specs.declared.error.SessionFault.{SessionFault}
use Rattle.hub_core.specs.declared.start.Start.{Start}
use Rattle.hub_devices.specs.declared.link_error.LinkError.{LinkError}
use Rattle.hub_devices.specs.declared.link_error.LinkError.TheVariants.{Failed, Memory}
use Rattle.hub_run.specs.Connections.{ConnectionEnds, Known, StreamTold}
use Rattle.hub_run.specs.Turns.{View}
use Rattle.hub_run.specs.declared.served.Served.{Served}
use Rattle.reply_texts.specs.ReplyText.{no_memory}

-- what is given of a connection that ended so and wrote that: a reply where it had no fault and wrote no 507, of a length that a `u64`
-- counts
abbrev pub Replies : Result (List ℕ) LinkError → Result Served SessionFault → List ℕ → Type 0
Replies (Ok reply) ended said = (served : Served) × (ended ≡ Ok served) × (reply ≡ said) × (said ≢ no_memory)
    × (length reply < 2 ^ 64)
Replies (Err Failed) ended said = ⊥
Replies (Err Memory) ended said = Unit {0}

-- the pass is of the same desk and base, and alone where it was
pub record IsSame (x y : View) : Type 0 where
  pub of : y.pass.of ≡ x.pass.of
  pub base : y.pass.base ≡ x.pass.base
  pub alone : y.pass.alone ≡ x.pass.alone

-- What is known before a connection over memory: this request is all that there is to read, nothing is written, and no side has failed
abbrev pub asking : View → List ℕ → Known
asking x request = record {
  view = x;
  input = record { bytes = Some request; faults = 0 };
  output = record { bytes = Some []; faults = 0 };
}

-- What is known after it: the input tells `left`, and the output has this text and failed so often
abbrev pub replied : View → StreamTold → List ℕ → ℕ → Known
replied y left said failed = record { view = y; input = left; output = record { bytes = Some said; faults = failed } }

-- One connection was made from the view x on, which had this request and nothing else to read; it gave that, and y is what is known then
pub record Connects (start : Start) (x : View) (request : List ℕ) (given : Result (List ℕ) LinkError) (y : View) : Type 0 where
  pub left : StreamTold
  pub said : List ℕ
  pub failed : ℕ
  pub ended : Result Served SessionFault
  pub ends : ConnectionEnds start (asking x request) (replied y left said failed) ended
  pub replies : Replies given ended said

-- what one ask gives, of a book that began with `start`: without memory it may have made no connection
abbrev pub Gives : Start → View → List ℕ → Result (List ℕ) LinkError → View → Type 0
Gives start x request (Ok reply) y = Connects start x request (Ok reply) y
Gives start x request (Err Failed) y = ⊥
Gives start x request (Err Memory) y = (y ≡ x) ⊎ Connects start x request (Err Memory) y

-- One ask of a direct link, from the view x on, gave that and left y
pub record Direct (x : View) (request : List ℕ) (given : Result (List ℕ) LinkError) (y : View) : Type 0 where
  pub same : IsSame x y
  pub gives : (start : Start) → x.pass.base ≡ Some start → Gives start x request given y
