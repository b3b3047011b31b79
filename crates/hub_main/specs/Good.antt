-- A session that has to be served: what it is set up with is good, and no device failed.
use Rattle.std.specs.Prelude.{◌≡◌, ◌⊎◌, ℕ, ◌-◌, ◌<◌, ◌≤◌, ◌^◌, true, List, Option, ⊤}
use Rattle.keeper.specs.Rows.{Rows, Lists}
use Rattle.keeper.specs.declared.keeper.Row.{Row}
use Rattle.hub_opening.specs.Kept.{IsRefusedRow}
use Rattle.hub_opening.specs.Opening.{IsLost, IsFull}
use Rattle.hub_opening.specs.declared.config.HubConfig.{HubConfig}
use Rattle.hub_words.specs.declared.session.SessionWords.{SessionWords}
use Rattle.hub_main.specs.Told.{FilesTold, Sides}
use Rattle.hub_main.specs.Configured.{IsConfig, IsNoConfig}
use Rattle.hub_main.specs.Known.{are_known}

-- At the moment `now` the configuration fits the rows `has`: its names are known, no row is bad, no running server lacks its target, and no
-- kind is past its limit
pub record Fits (config : HubConfig) (now : ℕ) (has : Rows) : Type 0 where
  pub names : (kept : List Row) → Lists has kept → are_known config kept ≡ true
  pub sound : (kind : ℕ) (key : List ℕ) → ¬ (IsRefusedRow config.limits config.custom_scopes ⊤ has kind key)
  pub pooled : (target : List ℕ) → ¬ (IsLost config ⊤ has target)
  pub few : (kind limit : ℕ) → ¬ (IsFull config now ⊤ has kind limit)

-- a count below the greatest that a `u64` keeps didn't rise
abbrev pub Stands : (before after : ℕ) → Type 0
Stands before after = (before < 2 ^ 64 - 1) × (after ≤ before)

-- served to the end, cut inside a request, or without memory
abbrev pub IsGoodStatus : ℕ → Type 0
IsGoodStatus status = (status ≡ 0) ⊎ ((status ≡ 10) ⊎ (status ≡ 7))

module _ {K : Type 0} (rows : K → Rows) (Chooses : K → Option (List ℕ) → K → Type 0) where
  -- what its file says is a configuration, and fits the rows of the chosen store
  pub record IsGood (words : SessionWords) (files : FilesTold) (k : K) : Type 0 where
    pub file : (bytes : List ℕ) → ¬ (IsNoConfig files words.config bytes)
    pub fits : (config : HubConfig) (chosen : K) → IsConfig files words config → Chooses k words.db chosen
        → Fits config words.now (rows chosen)

-- no count of the files, the input, the output and the store rose
pub record NoneRose {K : Type 0} (faults : K → ℕ) (files files' : FilesTold) (s s' : Sides) (k k' : K) : Type 0 where
  pub files_stand : Stands files.faults files'.faults
  pub input : Stands s.input.faults s'.input.faults
  pub output : Stands s.output.faults s'.output.faults
  pub store : Stands (faults k) (faults k')
