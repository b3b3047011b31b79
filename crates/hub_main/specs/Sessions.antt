-- What a command does, and with which status it ends.
use Rattle.std.specs.Prelude.{◌≡◌, ◌⊎◌, ℕ, ◌≤◌, List, Option, Some, None, Ok, Err}
use Rattle.keeper.specs.Rows.{Rows}
use Rattle.hub_opening.specs.declared.config.HubConfig.{HubConfig}
use Rattle.hub_core.specs.declared.start.Start.{Start}
use Rattle.hub_words.specs.declared.session.SessionWords.{SessionWords}
use Rattle.hub_main.specs.Told.{FilesTold, Sides}
use Rattle.hub_main.specs.Ends.{End, status_of}
use Rattle.hub_main.specs.Configured.{IsConfig, IsUnfound}
use Rattle.hub_main.specs.Opened.{IsLeft, IsUnchosen, IsChosen, IsUnopened, IsOpened}
use Rattle.hub_main.specs.Served.{SessionEndsOver}
use Rattle.hub_main.specs.declared.cause.Cause.TheVariants.{Words, Memory, NoFile, NoConfig, UnknownName, NoStore, NotOpened}

-- of stores of a kind that tells of each whether its rows are told, its rows and its count of faults: the store k, which is k' at the end
module _ {K : Type 0} (Tells : K → Type 0) (rows : K → Rows) (faults : K → ℕ) where
  -- The words' file says no configuration, for the cause that the end tells, and all is left as it was. files, s and k are the files, what
  -- is outside and the store before; with a prime: after
  abbrev pub EndsUnconfigured : SessionWords → FilesTold → FilesTold → Sides → Sides → K → K → End → Type 0
  EndsUnconfigured words files files' s s' k k' (Ok end) = ⊥
  EndsUnconfigured words files files' s s' k k' (Err cause) = IsUnfound files files' words.config cause × IsLeft Tells rows s s' k k'

  -- The store didn't take its place, for the cause that the end tells, and all is left as it was
  abbrev pub EndsUnchosen : Sides → Sides → K → K → End → Type 0
  EndsUnchosen s s' k k' (Ok end) = ⊥
  EndsUnchosen s s' k k' (Err cause) = IsUnchosen (faults k) (faults k') cause × IsLeft Tells rows s s' k k'

  -- No book was opened by this configuration over the chosen store, for the cause that the end tells, and all is left as it was
  abbrev pub EndsUnopened : HubConfig → (now : ℕ) → Sides → Sides → K → K → End → Type 0
  EndsUnopened config now s s' k k' (Ok end) = ⊥
  EndsUnopened config now s s' k k' (Err cause) = IsUnopened Tells rows faults config now k k' cause × IsLeft Tells rows s s' k k'

  -- A book was opened by this configuration over the chosen store, and the end is that of what was done over it
  abbrev pub EndsOpened : HubConfig → (now : ℕ) → Sides → Sides → K → K → End → Type 0
  EndsOpened config now s s' k k' end =
      (start : Start) × (counted : ℕ) × IsOpened config now (Tells k') (rows k) (faults k) start counted
      × SessionEndsOver Tells rows faults start counted now s s' k' end

  -- What follows the choice of the store, which left it as k: no book is opened over it, or one is
  abbrev pub EndsChosen : HubConfig → (now : ℕ) → Sides → Sides → K → K → End → Type 0
  EndsChosen config now s s' k k' end = EndsUnopened config now s s' k k' end ⊎ EndsOpened config now s s' k k' end

module _ {K : Type 0} (Tells : K → Type 0) (rows : K → Rows) (faults : K → ℕ) (Chooses : K → Option (List ℕ) → K → Type 0) where
  -- With this configuration: the store doesn't take the place that is named, or it does, and what follows is over the store that this left
  abbrev pub EndsConfigured : (place : Option (List ℕ)) → HubConfig → (now : ℕ) → Sides → Sides → K → K → End → Type 0
  EndsConfigured place config now s s' k k' end =
      EndsUnchosen Tells rows faults s s' k k' end
      ⊎ ((chosen : K) × IsChosen Tells rows faults Chooses place k chosen × (faults chosen ≤ faults k')
      × EndsChosen Tells rows faults config now s s' chosen k' end)

  -- How a session with these words ends: their file says no configuration, or the hub has what it says with the words on top. files, s and
  -- k are the files, what is outside and the store before; with a prime: after
  abbrev pub SessionEnds : SessionWords → FilesTold → FilesTold → Sides → Sides → K → K → End → Type 0
  SessionEnds words files files' s s' k k' end =
      EndsUnconfigured Tells rows faults words files files' s s' k k' end
      ⊎ ((config : HubConfig) × IsConfig files words config × EndsConfigured words.db config words.now s s' k k' end)

  -- ---- the command

  -- How the command ends: as a session, where its words were read as one; else they are refused, or memory was wanting to read them, and
  -- nothing was touched
  abbrev pub CommandEnds : Option SessionWords → FilesTold → FilesTold → Sides → Sides → K → K → End → Type 0
  CommandEnds (Some words) files files' s s' k k' end = SessionEnds words files files' s s' k k' end
  CommandEnds None files files' s s' k k' (Ok end) = ⊥
  CommandEnds None files files' s s' k k' (Err Words) = (files' ≡ files) × (s' ≡ s) × (k' ≡ k)
  CommandEnds None files files' s s' k k' (Err Memory) = (files' ≡ files) × (s' ≡ s) × (k' ≡ k)
  CommandEnds None files files' s s' k k' (Err NoFile) = ⊥
  CommandEnds None files files' s s' k k' (Err (NoConfig bytes)) = ⊥
  CommandEnds None files files' s s' k k' (Err (UnknownName name)) = ⊥
  CommandEnds None files files' s s' k k' (Err NoStore) = ⊥
  CommandEnds None files files' s s' k k' (Err (NotOpened e)) = ⊥

  -- How the whole command ended, as it is told in the end, and with which status. `found` is what its words say, if they are a session's;
  -- files, s and k are the files, what is outside and the store before, with a prime: after
  abbrev pub RunEnds : Option SessionWords → FilesTold → FilesTold → Sides → Sides → K → K → (told : Option End) → (status : ℕ) → Type 0
  RunEnds found files files' s s' k k' told status =
      (end : End) × (told ≡ Some end) × CommandEnds found files files' s s' k k' end × (status ≡ status_of end)
