-- What came of an ask whose bytes are one request.
use Rattle.std.specs.Prelude.{◌≡◌, ◌⊎◌, ℕ, true, List, [], Some}
use Rattle.http_wire.specs.declared.error.WireError.{WireError}
use Rattle.http_wire.specs.Request.{IsRequestText}
use Rattle.http_wire.specs.declared.request.Request.{Request}
use Rattle.hub_api.specs.Refusals.{wire_refusal}
use Rattle.hub_core.specs.declared.start.Start.{Start}
use Rattle.hub_machine.specs.Replies.{Reply}
use Rattle.hub_run.specs.Complete.{IsOf}
use Rattle.hub_run.specs.Turns.{Turn, View, IsRight, Moves, turn_text}
use Rattle.reply_texts.specs.ReplyText.{reply_text}

-- the request got its right turn, and the bytes are its reply
pub record IsTurnOf (start : Start) (x : View) (q : Request) (bytes : List ℕ) (y : View) : Type 0 where
  pub turn : Turn
  pub of : IsOf q turn
  pub right : IsRight start turn
  pub moves : Moves x turn y
  pub said : bytes ≡ turn_text turn true

-- nothing was said, or a refusal of bytes that are no request
abbrev pub IsUnread : List ℕ → Type 0
IsUnread bytes = (bytes ≡ []) ⊎ ((e : WireError) × (r : Reply) × (wire_refusal e ≡ Some r) × (bytes ≡ reply_text r true))

-- the bytes were refused unread, and are no text of the request
abbrev pub IsRefused : List ℕ → Request → List ℕ → Type 0
IsRefused request q bytes = IsUnread bytes × ¬ (IsRequestText q request)
