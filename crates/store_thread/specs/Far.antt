-- What a far store is, by what it has heard.
use Rattle.std.specs.Prelude.{◌≡◌, ◌⊎◌, ℕ, List, [], ◌∷◌, ◌++◌, Option, Some, None, Result, Ok, Err, IfSome, IsTrue, is_some, Vec}
use Rattle.std.specs.declared.alloc.Global.{Global}
use Rattle.store_thread.specs.declared.calls.Call.{Call}
use Rattle.store_thread.specs.declared.calls.Call.TheVariants.{Open, Stay, Load}
use Rattle.store_thread.specs.declared.mailbox.Exchange.{Exchange}
use Rattle.store_thread.specs.declared.mailbox.Talk.{Talk}
use Rattle.store_thread.specs.Told.{Read, told_in, rows_in}
use Rattle.keeper.specs.Rows.{AreSame}
use Rattle.keeper.specs.declared.keeper.Row.{Row}
use Rattle.keeper.specs.declared.keeper.KeeperError.{KeeperError}
use Rattle.keeper.specs.declared.keeper.KeeperError.TheVariants.{Memory}
use Rattle.store_thread.specs.declared.calls.Answer.{Answer}
use Rattle.store_thread.specs.Mailbox.{IsAnswered, IsUnanswered}

-- The call that takes the place, where one is named
abbrev pub choice : Option (List ℕ) → Call
choice None = Stay
choice (Some place) = Open place

-- the store in the thread was asked to take the place, and it did
abbrev pub TakesPlace : Talk → Option (List ℕ) → Talk → Type 0
TakesPlace before place after =
    (x : Exchange) × (x.call ≡ choice place) × (x.done ≡ Ok tt) × (after.seen ≡ before.seen ++ x ∷ []) × (after.asked ≡ None)

-- the last call took a place, and this was read there
abbrev pub IsReadThere : Talk → Result (Vec Row Global) KeeperError → Type 0
IsReadThere talk read =
    (before : Talk) × (place : List ℕ) × (answer : Answer) × IsAnswered before (Open place) answer talk × (answer.done ≡ Ok tt)
    × (answer.rows ≡ Some read)

-- What the far store has from the last reading, if anything, is what was read where the last call took a place
abbrev pub HasRead : Talk → Read → Type 0
HasRead talk read = IfSome read (λ said. IsReadThere talk said)

-- the rows that are told stay, and where any are, some were told before
abbrev pub StaysTold : Talk → Talk → Type 0
StaysTold before after = IsTrue (is_some (told_in after)) → IsTrue (is_some (told_in before)) × AreSame (rows_in after) (rows_in before)

-- The call came to this: it was answered so, and none stays without an answer. before and after are what was said between the two ends,
-- here and below
abbrev pub WasHeard : Talk → Call → Result (Unit {0}) KeeperError → Talk → Type 0
WasHeard before call done after = (answer : Answer) × (answer.done ≡ done) × IsAnswered before call answer after

-- The call wasn't answered, which is want of memory
abbrev pub Unheard : Talk → Call → Result (Unit {0}) KeeperError → Talk → Type 0
Unheard before call done after = (done ≡ Err Memory) × IsUnanswered before call after

-- The call came to this: it was answered so, or it wasn't answered
abbrev pub IsHeard : Talk → Call → Result (Unit {0}) KeeperError → Talk → Type 0
IsHeard before call done after = WasHeard before call done after ⊎ Unheard before call done after

-- what an answer says was read
abbrev pub said_read : Read → Result (Vec Row Global) KeeperError
said_read None = Err Memory
said_read (Some read) = read

-- The load came to this: it was answered so
abbrev pub WasRead : Talk → Result (Vec Row Global) KeeperError → Talk → Type 0
WasRead before read after = (answer : Answer) × (said_read answer.rows ≡ read) × IsAnswered before Load answer after

-- The load wasn't answered, which is want of memory
abbrev pub NotRead : Talk → Result (Vec Row Global) KeeperError → Talk → Type 0
NotRead before read after = (read ≡ Err Memory) × IsUnanswered before Load after

-- The load came to this: it was answered so, or it wasn't answered
abbrev pub IsReadNow : Talk → Result (Vec Row Global) KeeperError → Talk → Type 0
IsReadNow before read after = WasRead before read after ⊎ NotRead before read after

-- these are the rows that were read where the last call took a place; or they are read now
abbrev pub IsRead : Talk → Result (Vec Row Global) KeeperError → Talk → Type 0
IsRead before read after = ((after ≡ before) × IsReadThere before read) ⊎ IsReadNow before read after
