-- What the command `serve` does, and with which status it ends.
use Rattle.std.specs.Prelude.{◌≡◌, ◌⊎◌, ℕ, ◌≤◌, List, Option, Some, Err}
use Rattle.keeper.specs.Rows.{Rows}
use Rattle.hub_devices.specs.ToCome as moments
use Rattle.hub_core.specs.declared.start.Start.{Start}
use Rattle.hub_main.specs.Opened.{IsChosen, IsOpened, IsUnchosen, IsUnopened, Stays}
use Rattle.hub_main.specs.declared.cause.Cause.{Cause}
use Rattle.hub_serving.specs.Hall.{Hall, IsQuiet}
use Rattle.hub_serving.specs.Ends.{End, status_of}
use Rattle.hub_serving.specs.Served.{EndsOver}
use Rattle.hub_serving.specs.declared.plan.Plan.{Plan}
use Rattle.hub_serving.specs.declared.end.NotServed.TheVariants.{Because}

-- of stores of a kind that tells of each whether its rows are told, its rows and its count of faults: the store k, which is k' at the end
module _ {K : Type 0} (Tells : K → Type 0) (rows : K → Rows) (faults : K → ℕ) (Sides : Option (List ℕ) → Option (List ℕ) → Type 0) where
  -- Nothing was written, accepted or called from h to h', and the store k, which is k' then, has the rows that it had
  pub record IsLeft (h h' : Hall) (k k' : K) : Type 0 where
    pub quiet : IsQuiet h h'
    pub store : Stays Tells rows k k'

  -- The store didn't take its place, for the cause that the end tells, and all is left as it was
  abbrev pub EndsUnchosen : Hall → Hall → K → K → End → Type 0
  EndsUnchosen h h' k k' end = (cause : Cause) × (end ≡ Err (Because cause)) × IsUnchosen (faults k) (faults k') cause × IsLeft h h' k k'

  -- No book was opened at the moment `now` over the chosen store k, for the cause that the end tells, and all is left as it was
  abbrev pub EndsUnopened : Plan → (now : ℕ) → Hall → Hall → K → K → End → Type 0
  EndsUnopened plan now h h' k k' end =
      (cause : Cause) × (end ≡ Err (Because cause)) × IsUnopened Tells rows faults plan.hub now k k' cause × IsLeft h h' k k'

  -- A book was opened at the moment `now` over the chosen store k, and the end is that of what was done over it
  abbrev pub EndsOpened : Plan → (now : ℕ) → Hall → Hall → K → K → End → Type 0
  EndsOpened plan now h h' k k' end =
      (start : Start) × (counted : ℕ) × IsOpened plan.hub now (Tells k') (rows k) (faults k) start counted
      × EndsOver Tells rows faults Sides start counted plan h h' k' end

  -- How the command ends once the store took its place, by this plan and at the moment `now`: no book is opened over the store, or one is.
  -- h is what is outside before, and h' after it; k is the store as the choice left it, and k' the store in the end
  abbrev pub EndsChosen : Plan → (now : ℕ) → Hall → Hall → K → K → End → Type 0
  EndsChosen plan now h h' k k' end = EndsUnopened plan now h h' k k' end ⊎ EndsOpened plan now h h' k k' end

module _ {K : Type 0} (Tells : K → Type 0) (rows : K → Rows) (faults : K → ℕ) (Sides : Option (List ℕ) → Option (List ℕ) → Type 0)
    (Chooses : K → Option (List ℕ) → K → Type 0) where
  -- The choice of the plan's place left a store, the clock then gave a moment, and what follows is over that store, at that moment and with
  -- the other moments still to come
  pub record EndsAt (plan : Plan) (h h' : Hall) (k k' : K) (end : End) : Type 0 where
    pub chosen : K
    pub chooses : IsChosen Tells rows faults Chooses plan.db k chosen
    pub counted : faults chosen ≤ faults k'
    pub now : ℕ
    pub later : Option (ℕ → ℕ)
    pub moment : moments.Tells h.clock now later
    pub ends : EndsChosen Tells rows faults Sides plan now (record h { clock = later }) h' chosen k' end

  -- How the command ends by this plan: the store doesn't take its place, or it does, and what follows is over what the choice left. h is
  -- what is outside and k the store before, h' and k' are the same after it
  abbrev pub EndsPlanned : Plan → Hall → Hall → K → K → End → Type 0
  EndsPlanned plan h h' k k' end = EndsUnchosen Tells rows faults Sides h h' k k' end ⊎ EndsAt plan h h' k k' end

  -- How the whole command ended by this plan, as it is told in the end, and with which status. h is what is outside and k the store before,
  -- h' and k' are the same after it
  abbrev pub RunEnds : Plan → Hall → Hall → K → K → (told : Option End) → (status : ℕ) → Type 0
  RunEnds plan h h' k k' told status = (end : End) × (told ≡ Some end) × EndsPlanned plan h h' k k' end × (status ≡ status_of end)
