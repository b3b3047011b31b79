-- What a visit gives and leaves.
use Rattle.std.specs.Prelude.{◌≡◌, ℕ, Bool, true, false, ◌⊎◌, List, [], ◌∷◌, ◌++◌, length, Option, Some, None, Result, Ok, Err}
use Rattle.hub_devices.specs.Faults.{Rises}
use Rattle.roles.specs.Looks.{Cache}
use Rattle.hub_machine.specs.State.{Hub}
use Rattle.hub_machine.specs.Apply.{apply}
use Rattle.hub_machine.specs.Carry.{has_commit}
use Rattle.hub_machine.specs.Replies.{Answer, answered, outcome_of, refusal_reply}
use Rattle.hub_machine.specs.Answers.{outcome_view}
use Rattle.hub_core.specs.History.{Answers, change_of, IsLegal, state_after}
use Rattle.hub_core.specs.Stamps.{stamp_after}
use Rattle.hub_core.specs.declared.start.Start.{Start}
use Rattle.hub_machine.specs.declared.call.Asked.{Asked}
use Rattle.hub_machine.specs.declared.change.Change.{Change}
use Rattle.hub_machine.specs.declared.refusal.Refusal.TheVariants.{KeeperFault}
use Rattle.hub_machine.specs.declared.reply.Outcome.{Outcome}

-- an entry of the history is a change
abbrev pub Entry : Type 0
Entry = Change

-- what contracts see of a book
pub record Standing : Type 0 where
  -- the state at opening
  pub start : Start
  -- the state now
  pub hub : Hub
  -- the history
  pub told : List Entry
  -- of the keeper
  pub faults : ℕ
  -- the grants of tokens that were looked for last, which no answer depends on
  pub rights : Cache
  -- how often rights have changed, which is the stamp of the grants of now
  pub stamp : ℕ

-- The history of a book, as a list of its entries
abbrev pub entries_of : Standing → List Entry
entries_of b = b.told

-- the entries are legal and lead from the start to this state, whose length is theirs
pub record Reached (start : Start) (before : List Entry) (hub : Hub) : Type 0 where
  pub legal : IsLegal start.machine before
  pub state : hub ≡ state_after start.machine before
  pub length : hub.length ≡ length before

-- the state of a book is the one that its history leaves
abbrev pub IsReached : Standing → Type 0
IsReached b = Reached b.start (entries_of b) b.hub

-- ---- a visit

-- The state after the change, if there is one
abbrev pub noted : Option Change → Hub → Hub
noted None s = s
noted (Some c) s = apply c s

-- one entry more where there is a change
abbrev pub with_entry : Option Change → List Entry → List Entry
with_entry None before = before
with_entry (Some c) before = before ++ c ∷ []

-- the keeper is asked only where a commit goes with the change
abbrev pub asks_keeper : Option Change → Bool
asks_keeper None = false
asks_keeper (Some c) = has_commit c

-- A visit of the book b for a call asked at the moment `now`, with what was drawn for it, gave the outcome o: the answer is given, its
-- change noted, and the book is b' then
pub record Gave (b b' : Standing) (now : ℕ) (draw : Option (List ℕ)) (asked : Asked) (o : Outcome) : Type 0 where
  pub answer : Answer
  pub answers : Answers b.hub now draw asked answer
  pub hub : b'.hub ≡ noted (change_of answer) b.hub
  pub told : b'.told ≡ with_entry (change_of answer) b.told
  pub stamped : b'.stamp ≡ stamp_after b.hub.tables (change_of answer) b.stamp
  pub unasked : asks_keeper (change_of answer) ≡ false → b'.faults ≡ b.faults
  pub outcome : outcome_view o ≡ outcome_of b'.hub.length answer

-- all is as it was, but for the cache and the keeper's count
pub record IsAsBefore (b b' : Standing) : Type 0 where
  pub hub : b'.hub ≡ b.hub
  pub told : b'.told ≡ b.told
  pub stamped : b'.stamp ≡ b.stamp

-- The keeper refused the rows of an answer whose change has a commit, and the outcome says so; the book is as before, but for its count of
-- faults
pub record Faulted (b b' : Standing) (now : ℕ) (draw : Option (List ℕ)) (asked : Asked) (o : Outcome) : Type 0 where
  pub answer : Answer
  pub change : Change
  pub answers : Answers b.hub now draw asked answer
  pub has : change_of answer ≡ Some change
  pub commits : has_commit change ≡ true
  pub stays : IsAsBefore b b'
  pub outcome : outcome_view o ≡ answered (refusal_reply b.hub.length KeeperFault)
  pub rises : Rises b.faults b'.faults

-- What a visit of the book b came to, which is b' then. `Err` is want of memory, and leaves all as it was
abbrev pub Visited : {E : Type 0} → Standing → ℕ → Option (List ℕ) → Asked → Result Outcome E → Standing → Type 0
Visited b now draw asked (Ok o) b' = Gave b b' now draw asked o ⊎ Faulted b b' now draw asked o
Visited b now draw asked (Err e) b' = IsAsBefore b b'

-- ---- the same at a place of the history

-- the outcome is that of the answer in the state that the entries before it left
pub record AnsweredAt (start : Start) (before after : List Entry) (now : ℕ) (draw : Option (List ℕ)) (asked : Asked) (o : Outcome) : Type 0
  where
    pub state : Hub
    pub reached : Reached start before state
    pub answer : Answer
    pub answers : Answers state now draw asked answer
    pub noted : after ≡ with_entry (change_of answer) before
    pub outcome : outcome_view o ≡ outcome_of (length after) answer

-- the keeper refused the rows of the answer in that state: there is no entry, and its count of faults rose
pub record FaultedAt (start : Start) (before after : List Entry) (faults faults' : ℕ) (now : ℕ) (draw : Option (List ℕ)) (asked : Asked)
    (o : Outcome) : Type 0 where
  pub state : Hub
  pub reached : Reached start before state
  pub answer : Answer
  pub change : Change
  pub answers : Answers state now draw asked answer
  pub has : change_of answer ≡ Some change
  pub commits : has_commit change ≡ true
  pub noted : after ≡ before
  pub outcome : outcome_view o ≡ answered (refusal_reply (length after) KeeperFault)
  pub rises : Rises faults faults'

-- What a visit came to that found the entries `before` and left `after`, of a keeper whose count of faults was `faults`, and is `faults'`.
-- `Err` is want of memory, and leaves no entry
abbrev pub VisitedAt : {E : Type 0} → Start → (before after : List Entry) (faults faults' : ℕ) → ℕ → Option (List ℕ) → Asked
    → Result Outcome E → Type 0
VisitedAt start before after faults faults' now draw asked (Ok o) = AnsweredAt start before after now draw asked o
    ⊎ FaultedAt start before after faults faults' now draw asked o
VisitedAt start before after faults faults' now draw asked (Err e) = after ≡ before
