-- What answers tell of the rows of a store.
use Rattle.std.specs.Prelude.{◌≡◌, Bool, true, false, List, [], ◌∷◌, Option, Some, None, Result, Ok, Err, ⊤, Vec}
use Rattle.std.specs.declared.alloc.Global.{Global}
use Rattle.keeper.specs.Rows.{Rows, Lists, no_rows, rows_of, after_items}
use Rattle.keeper.specs.declared.keeper.Item.{Item}
use Rattle.keeper.specs.declared.keeper.KeeperError.{KeeperError}
use Rattle.keeper.specs.declared.keeper.Row.{Row}
use Rattle.store_thread.specs.declared.calls.Call.{Call}
use Rattle.store_thread.specs.declared.calls.Call.TheVariants.{Open, Stay, Load, Commit}
use Rattle.store_thread.specs.declared.mailbox.Exchange.{Exchange}
use Rattle.store_thread.specs.declared.mailbox.Talk.{Talk}

-- the rows of a store weren't read since a place was chosen; they are these; or it tells none any more
pub data Known : Type 0 where
  Unread : Known
  Told : Rows → Known
  Untold : Known

-- what was known stays, where the store still tells its rows
abbrev pub kept : Bool → Known → Known
kept true known = known
kept false Unread = Unread
kept false (Told rows) = Untold
kept false Untold = Untold

-- What an answer brings of the rows, if it brings them: the rows, or why they weren't read
abbrev pub Read : Type 0
Read = Option (Result (Vec Row Global) KeeperError)

-- what is known of a store at a place by the first reading of its rows
abbrev pub known_by : Bool → Read → Known
known_by true (Some (Ok all)) = Told (rows_of all.items)
known_by false (Some (Ok all)) = Untold
known_by told (Some (Err error)) = Unread
known_by told None = Unread

-- what is known once a batch is kept
abbrev pub with_batch : List Item → Known → Known
with_batch items Unread = Unread
with_batch items (Told rows) = Told (after_items items rows)
with_batch items Untold = Untold

-- what is known after a call with this answer
abbrev pub after_call : Call → Result (Unit {0}) KeeperError → Read → Bool → Known → Known
after_call (Open place) (Ok _) read told known = known_by told read
after_call (Open place) (Err error) read told known = kept told known
after_call Stay done read told known = kept told known
after_call Load done read told known = kept told known
after_call (Commit batch) (Ok _) read told known = kept told (with_batch batch known)
after_call (Commit batch) (Err error) read told known = kept told known

-- What is known after the exchange
abbrev pub after : Known → Exchange → Known
after known x = after_call x.call x.done x.rows x.told known

-- What is known after these exchanges, one after the other
abbrev pub known_from : Known → List Exchange → Known
known_from known [] = known
known_from known (x ∷ xs) = known_from (after known x) xs

-- what is known after all that was asked and answered
abbrev pub known_of : List Exchange → Known
known_of xs = known_from Unread xs

-- the rows that were read are those that are known, in order
abbrev pub ReadAs : Known → Read → Type 0
ReadAs (Told rows) (Some (Ok all)) = Lists rows all.items
ReadAs known read = ⊤

-- where a store tells its rows, it answers with these
abbrev pub IsFaithful : Known → Exchange → Type 0
IsFaithful known x = x.told ≡ true → ReadAs (after known x) x.rows

-- the rows that are told, where any are: none while a call isn't answered
abbrev pub told_while : Option Call → Known → Option Rows
told_while None (Told rows) = Some rows
told_while None Unread = None
told_while None Untold = None
told_while (Some call) known = None

-- The rows that are told by all that was said, if any are
abbrev pub told_in : Talk → Option Rows
told_in talk = told_while talk.asked (known_of talk.seen)

-- The rows, or none where none are told
abbrev pub rows_or_none : Option Rows → Rows
rows_or_none None = no_rows
rows_or_none (Some rows) = rows

-- The rows that are told by all that was said, or none
abbrev pub rows_in : Talk → Rows
rows_in talk = rows_or_none (told_in talk)
