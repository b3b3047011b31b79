-- An answer that is carried out: its change is kept and noted, or all is as before.
use Rattle.std.specs.Prelude.{◌≡◌, ℕ, ◌+◌, true, false, ◌⊎◌, List, Option, Some, None, Result, Ok, Err}
use Rattle.hub_devices.specs.Faults.{Rises}
use Rattle.hub_machine.specs.State.{Hub}
use Rattle.hub_machine.specs.Apply.{is_past_trail}
use Rattle.hub_machine.specs.Carry.{FitsIn, has_commit}
use Rattle.hub_machine.specs.Replies as spec
use Rattle.hub_machine.specs.Replies.{answered, refusal_reply}
use Rattle.hub_machine.specs.Answers.{outcome_view}
use Rattle.hub_core.specs.Stamps.{since_after, stamp_after}
use Rattle.hub_core.specs.Visits.{Entry, asks_keeper, noted, with_entry}
use Rattle.hub_machine.specs.declared.change.Change.{Change}
use Rattle.hub_machine.specs.declared.refusal.Refusal.TheVariants.{KeeperFault}
use Rattle.hub_machine.specs.declared.reply.Outcome.{Outcome}

-- the history has room for the change, if there is one, and it fits
abbrev pub MayBeDone : Hub → Option Change → Type 0
MayBeDone s None = Unit {0}
MayBeDone s (Some c) = (is_past_trail s c ≡ false) × FitsIn s c

-- what a carried answer may change of a book: its state, its trail, its stamp, since when rights come from the same sources, and its
-- keeper's count
pub record Carrier : Type 0 where
  pub hub : Hub
  pub told : List Entry
  pub stamp : ℕ
  pub since : ℕ
  pub faults : ℕ

-- The length of the history with the change, if there is one
abbrev pub long_after : Option Change → ℕ → ℕ
long_after None long = long
long_after (Some c) long = long + 1

-- the change, if there is one, is done and noted, and then this is said
pub record Did (ch : Option Change) (says : spec.Outcome) (o : Outcome) (b b' : Carrier) : Type 0 where
  pub hub : b'.hub ≡ noted ch b.hub
  pub telling : b'.told ≡ with_entry ch b.told
  pub stamped : b'.stamp ≡ stamp_after b.hub.tables ch b.stamp
  pub settled : b'.since ≡ since_after b.hub.tables ch b.stamp b.since
  pub unasked : asks_keeper ch ≡ false → b'.faults ≡ b.faults
  pub said : outcome_view o ≡ says

-- the state, the entries and the stamps are as they were; of the keeper's count of faults nothing is said
pub record IsUncarried (b b' : Carrier) : Type 0 where
  pub hub : b'.hub ≡ b.hub
  pub telling : b'.told ≡ b.told
  pub stamped : b'.stamp ≡ b.stamp
  pub settled : b'.since ≡ b.since

-- the keeper refused its rows, and all is as before
pub record Undid (ch : Option Change) (o : Outcome) (b b' : Carrier) : Type 0 where
  pub change : Change
  pub has : ch ≡ Some change
  pub commits : has_commit change ≡ true
  pub said : outcome_view o ≡ answered (refusal_reply b.hub.length KeeperFault)
  pub stays : IsUncarried b b'
  pub rises : Rises b.faults b'.faults

-- The answer was carried out, from b to b': it was done, or its rows were refused; without memory all is as before
abbrev pub Carried : {E : Type 0} → Option Change → spec.Outcome → Result Outcome E → (b b' : Carrier) → Type 0
Carried ch says (Ok o) b b' = Did ch says o b b' ⊎ Undid ch o b b'
Carried ch says (Err e) b b' = IsUncarried b b'
