-- The book of a session: over which store it is opened, with which names, and why it isn't.
use Rattle.std.specs.Prelude.{◌≡◌, ◌⊎◌, ℕ, ◌≤◌, IsTrue, true, List, [], Option, Some, None, ⊤}
use Rattle.hub_devices.specs.Faults.{Rises}
use Rattle.keeper.specs.Rows.{Rows, AreSame, Lists}
use Rattle.keeper.specs.declared.keeper.Row.{Row}
use Rattle.hub_opening.specs.Kept.{IsRefusedRow}
use Rattle.hub_opening.specs.Opening.{IsSetUp, IsLost, IsFull}
use Rattle.hub_opening.specs.declared.config.HubConfig.{HubConfig}
use Rattle.hub_opening.specs.declared.open_error.OpenError.{OpenError}
use Rattle.hub_opening.specs.declared.open_error.OpenError.TheVariants as opening
use Rattle.hub_core.specs.Visits.{Standing, entries_of}
use Rattle.hub_core.specs.declared.start.Start.{Start}
use Rattle.hub_main.specs.Told.{Sides, IsQuiet}
use Rattle.hub_main.specs.Known.{are_known, unknown_name}
use Rattle.hub_main.specs.declared.known_names.AnyName.{AnyName}
use Rattle.hub_main.specs.declared.cause.Cause.{Cause}
use Rattle.hub_main.specs.declared.cause.Cause.TheVariants.{Words, Memory, NoFile, NoConfig, UnknownName, NoStore, NotOpened}

-- Each name in the lists of the configuration is known: it is configured, or kept by the rows `has` of a store. Where the store doesn't
-- tell its rows (`Tells`), this says only that with some rows each name is known
abbrev pub AreNames : HubConfig → (Tells : Type 0) → Rows → Type 0
AreNames config Tells has =
    (are_known config [] ≡ true) ⊎ ((kept : List Row) × (Tells → Lists has kept) × (are_known config kept ≡ true))

-- This name is the first in those lists that is neither configured nor kept by the rows `has` of a store. Where the store doesn't tell its
-- rows, this says only that with some rows it is the first
abbrev pub IsUnknown : HubConfig → (Tells : Type 0) → Rows → AnyName → Type 0
IsUnknown config Tells has name = (kept : List Row) × (Tells → Lists has kept) × (unknown_name config kept ≡ Some name)

-- ---- why there is no book

-- Why the store didn't take its place, where its count of faults was `before` and is `after`: it failed, or memory was wanting
abbrev pub IsUnchosen : (before after : ℕ) → Cause → Type 0
IsUnchosen before after NoStore = Rises before after
IsUnchosen before after Memory = ⊤
IsUnchosen before after Words = ⊥
IsUnchosen before after NoFile = ⊥
IsUnchosen before after (NoConfig bytes) = ⊥
IsUnchosen before after (UnknownName name) = ⊥
IsUnchosen before after (NotOpened e) = ⊥

-- ---- stores of a kind that tells of each whether its rows are told, its rows, its count of faults, and what the choice of a place may
-- leave

module _ {K : Type 0} (Tells : K → Type 0) (rows : K → Rows) where
  -- The store k is k' now: where its rows are told now, they were told before, and are the same
  abbrev pub Stays : K → K → Type 0
  Stays k k' = Tells k' → Tells k × AreSame (rows k') (rows k)

  -- Nothing was read, written or called, and the store k, which is k' then, has the rows that it had
  pub record IsLeft (s s' : Sides) (k k' : K) : Type 0 where
    pub quiet : IsQuiet s s'
    pub store : Stays k k'

module _ {K : Type 0} (Tells : K → Type 0) (rows : K → Rows) (faults : K → ℕ) where
  -- The choice of this place, if one is named, may leave the store k as `chosen`, by what the kind of stores allows: with no fewer faults,
  -- and with the same rows where no place is named
  pub record IsChosen (Chooses : K → Option (List ℕ) → K → Type 0) (place : Option (List ℕ)) (k chosen : K) : Type 0 where
    pub chooses : Chooses k place chosen
    pub own : place ≡ None → Stays Tells rows k chosen
    pub counted : faults k ≤ faults chosen

  -- Why no book is opened by this configuration at the moment `now` over the store k, which is k' then. A fault of the store and want of
  -- memory come at any time, all else only where the names are known
  abbrev pub IsNotOpened : HubConfig → (now : ℕ) → K → K → OpenError → Type 0
  IsNotOpened config now k k' opening.KeeperFault = Rises (faults k) (faults k')
  IsNotOpened config now k k' (opening.BadRow kind key) =
      IsRefusedRow config.limits config.custom_scopes (Tells k') (rows k) kind key × AreNames config (Tells k') (rows k)
  IsNotOpened config now k k' (opening.LostTarget target) = IsLost config (Tells k') (rows k) target × AreNames config (Tells k') (rows k)
  IsNotOpened config now k k' (opening.Full kind limit) = IsFull config now (Tells k') (rows k) kind limit
      × AreNames config (Tells k') (rows k)
  IsNotOpened config now k k' opening.Memory = ⊤

  -- Why the command stops between the choice of the store and its book: the first name in the configuration's lists that isn't known, a
  -- book that isn't opened, or want of memory. k is the store before, and k' then; no other cause comes here
  abbrev pub IsUnopened : HubConfig → (now : ℕ) → K → K → Cause → Type 0
  IsUnopened config now k k' (UnknownName name) = IsUnknown config (Tells k') (rows k) name
  IsUnopened config now k k' (NotOpened e) = IsNotOpened config now k k' e
  IsUnopened config now k k' Memory = ⊤
  IsUnopened config now k k' Words = ⊥
  IsUnopened config now k k' NoFile = ⊥
  IsUnopened config now k k' (NoConfig bytes) = ⊥
  IsUnopened config now k k' NoStore = ⊥

-- ---- the book

-- The book began with the state that the configuration makes of the rows `has` at the moment `now`, if they are told (`Tells`), and all
-- names in the configuration's lists are known; `counted` is its keeper's count of faults, no less than the store's
pub record IsOpened (config : HubConfig) (now : ℕ) (Tells : Type 0) (has : Rows) (faults : ℕ) (start : Start) (counted : ℕ) : Type 0 where
  pub names : AreNames config Tells has
  pub set_up : IsSetUp config now Tells has start.machine
  pub counts : faults ≤ counted

-- What is known of the book b that is opened by this configuration over a store with these rows and faults: it has no entries
pub record Opens (config : HubConfig) (now : ℕ) (has : Rows) (faults : ℕ) (b : Standing) : Type 0 where
  pub names : AreNames config (IsTrue b.start.has_rows) has
  pub set_up : IsSetUp config now (IsTrue b.start.has_rows) has b.start.machine
  pub entries : entries_of b ≡ []
  pub counts : faults ≤ b.faults
