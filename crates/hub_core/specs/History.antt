-- Legal histories, and the answers that stand in them.
use Rattle.std.specs.Prelude.{◌≡◌, ◌⊎◌, ℕ, true, List, [], ◌∷◌, take, slice_get, Option, Some, None, IsOk}
use Rattle.server_life.specs.Lives.{is_outcome}
use Rattle.hub_machine.specs.State.{Hub}
use Rattle.hub_machine.specs.Apply.{apply, step_at}
use Rattle.hub_machine.specs.Replies.{Answer, refuses, refuses_with, gives, changes, works}
use Rattle.hub_core.specs.Answer.{answer, Judgement}
use Rattle.hub_core.specs.Judged.{Judged}
use Rattle.hub_machine.specs.declared.call.Asked.{Asked}
use Rattle.hub_machine.specs.declared.change.Change.{Change}
use Rattle.hub_machine.specs.declared.change.Change.TheVariants.{Life as Lived}

-- What the hub answers in the state s to a call asked at the moment `now`, with what was drawn for it: the answer by the true judgement of
-- the caller's rights
pub record Answers (s : Hub) (now : ℕ) (draw : Option (List ℕ)) (asked : Asked) (r : Answer) : Type 0 where
  pub judgement : Judgement
  pub judged : Judged s now asked judgement
  pub is : r ≡ answer s now draw judgement asked

-- the change that an answer makes
abbrev pub change_of : Answer → Option Change
change_of (refuses r) = None
change_of (refuses_with c r) = Some c
change_of (gives g) = None
change_of (changes c g) = Some c
change_of (works c w) = Some c

-- ---- entries

-- the change of an answer in the state that it finds; only an answer starts a server, or wishes that one stops
pub record IsOfAnswer (s : Hub) (c : Change) : Type 0 where
  pub now : ℕ
  pub draw : Option (List ℕ)
  pub asked : Asked
  pub answer : Answer
  pub answers : Answers s now draw asked answer
  pub change : change_of answer ≡ Some c

-- what came of a call that a generation owed, where the generation is live and its life takes it
abbrev pub IsOfLife : Hub → Change → Type 0
IsOfLife s (Lived g event) = (is_outcome event ≡ true) × IsOk (step_at s.lives g event)
IsOfLife s _ = ⊥

-- A change that may be an entry of the history in the state s: that of an answer, or what came of a call that a generation owed
abbrev pub IsEntry : Hub → Change → Type 0
IsEntry s c = IsOfAnswer s c ⊎ IsOfLife s c

-- The state after these entries, one after the other
abbrev pub state_after : Hub → List Change → Hub
state_after s [] = s
state_after s (c ∷ cs) = state_after (apply c s) cs

-- each entry is one of the state that the entries before it left
abbrev pub IsLegal : Hub → List Change → Type 0
IsLegal s [] = Unit {0}
IsLegal s (c ∷ cs) = IsEntry s c × IsLegal (apply c s) cs

-- ---- answers at places

-- The change, if there is one, is the entry at the place n
abbrev StandsAt : Option Change → List Change → ℕ → Type 0
StandsAt None h n = Unit {0}
StandsAt (Some c) h n = slice_get h n ≡ Some c

-- the answer stands at place n of the history that began with s: it is that of the state that the first n entries left, and
-- its change, if it has one, is the entry at n
abbrev pub Stands : Hub → List Change → ℕ → ℕ → Option (List ℕ) → Asked → Answer → Type 0
Stands s h n now draw asked r = Answers (state_after s (take n h)) now draw asked r × StandsAt (change_of r) h n
