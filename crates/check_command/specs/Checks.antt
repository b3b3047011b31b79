-- How a check ends: in the words of `serve` and `session`, whose causes are those of a check.
use Rattle.std.specs.Prelude.{◌≡◌, ◌⊎◌, ℕ, List, Option, Some, None, Result, Ok, Err}
use Rattle.keeper.specs.Rows.{Rows}
use Rattle.hub_config.specs.declared.config.FileConfig.{FileConfig}
use Rattle.hub_core.specs.declared.start.Start.{Start}
use Rattle.hub_opening.specs.declared.config.HubConfig.{HubConfig}
use Rattle.hub_words.specs.declared.check.CheckWords.{CheckWords}
use Rattle.hub_main.specs.Told.{FilesTold}
use Rattle.hub_main.specs.Configured.{IsFile, IsUnfound}
use Rattle.hub_main.specs.Opened.{IsChosen, IsOpened, IsUnchosen, IsUnopened}
use Rattle.hub_main.specs.declared.cause.Cause.{Cause}
use Rattle.hub_serving.specs.Ends.{unserved_status}
use Rattle.hub_serving.specs.declared.end.NotServed.{NotServed}
use Rattle.hub_serving.specs.declared.end.NotServed.TheVariants.{Because, NoAddress}

-- a hub would begin, or why it wouldn't
abbrev pub Checked : Type 0
Checked = Result (Unit {0}) NotServed

-- The exit status: that of a `serve` which ends for this cause
abbrev pub status_of : Checked → ℕ
status_of (Ok begun) = 0
status_of (Err why) = unserved_status why

module _ {K : Type 0} (Tells : K → Type 0) (rows : K → Rows) (faults : K → ℕ) where
  -- Over the chosen store k, which is k' in the end: the book of `serve` opens with this configuration, or for the cause that is told it
  -- doesn't
  abbrev pub EndsChosen : HubConfig → (now : ℕ) → K → K → Checked → Type 0
  EndsChosen config now k k' (Ok begun) = (start : Start) × (counted : ℕ) × IsOpened config now (Tells k') (rows k) (faults k) start counted
  EndsChosen config now k k' (Err (Because cause)) = IsUnopened Tells rows faults config now k k' cause
  EndsChosen config now k k' (Err NoAddress) = ⊥

module _ {K : Type 0} (Tells : K → Type 0) (rows : K → Rows) (faults : K → ℕ) (Chooses : K → Option (List ℕ) → K → Type 0) where
  -- The store doesn't take the place that is named, or it does, and what follows is over the store that this left
  abbrev pub EndsAt : (place : Option (List ℕ)) → HubConfig → (now : ℕ) → K → K → Checked → Type 0
  EndsAt place config now k k' end =
      ((cause : Cause) × (end ≡ Err (Because cause)) × IsUnchosen (faults k) (faults k') cause)
      ⊎ ((chosen : K) × IsChosen Tells rows faults Chooses place k chosen × EndsChosen Tells rows faults config now chosen k' end)

  -- The file names no address to listen at, or what follows is by what it says of the hub
  abbrev pub EndsWith : (place : Option (List ℕ)) → FileConfig → (now : ℕ) → K → K → Checked → Type 0
  EndsWith place file now k k' end =
      ((end ≡ Err NoAddress) × (file.listen ≡ None)) ⊎ EndsAt place file.hub now k k' end

  -- The file that the words name says no configuration, for the cause that is told, or what follows is by what it says. `files` and k are
  -- the files and the store before, and with a prime after
  abbrev pub Ends : CheckWords → (now : ℕ) → (files files' : FilesTold) → K → K → Checked → Type 0
  Ends words now files files' k k' end =
      ((cause : Cause) × (end ≡ Err (Because cause)) × IsUnfound files files' (Some words.config) cause)
      ⊎ ((file : FileConfig) × IsFile files words.config file × EndsWith words.db file now k k' end)
