-- What the store in the thread went through: the calls that it was asked for, each made once and answered by its answer.
use Rattle.std.specs.Prelude.{◌≡◌, ◌⊎◌, ◌≤◌, ℕ, Bool, List, [], ◌∷◌, Option, Some, None, Result, Ok, Err, IfOk, IfErr, OnOk, OnErr, Vec}
use Rattle.std.specs.declared.alloc.Global.{Global}
use Rattle.hub_devices.specs.Faults.{Rises}
use Rattle.keeper.specs.Rows.{Rows, AreSame, Lists, after_items}
use Rattle.keeper.specs.declared.keeper.Item.{Item}
use Rattle.keeper.specs.declared.keeper.KeeperError.{KeeperError}
use Rattle.keeper.specs.declared.keeper.KeeperError.TheVariants.{Failed}
use Rattle.keeper.specs.declared.keeper.Row.{Row}
use Rattle.store_thread.specs.declared.calls.Call.{Call}
use Rattle.store_thread.specs.declared.calls.Call.TheVariants.{Open, Stay, Load, Commit}
use Rattle.store_thread.specs.declared.mailbox.Exchange.{Exchange}
use Rattle.store_thread.specs.declared.mailbox.Talk.{Talk}
use Rattle.store_thread.specs.Told.{Read}

module _ {K : Type 0} (Tells : K → Type 0) (rows : K → Rows) (is_told : K → Bool) (faults : K → ℕ) (Chooses : K → Option (List ℕ) → K
    → Type 0) where
  -- the rows stay, and where they are told they were told before
  abbrev pub Stays : K → K → Type 0
  Stays k k' = Tells k' → Tells k × AreSame (rows k') (rows k)

  -- a failure comes with a risen count of faults, which never falls
  abbrev pub IsCaused : {A : Type 0} → Result A KeeperError → K → K → Type 0
  IsCaused said k k' = (faults k ≤ faults k') × IfErr said (λ e. e ≡ Failed → Rises (faults k) (faults k'))

  -- the rows were read once, and this was said
  abbrev pub Loads : K → Result (Vec Row Global) KeeperError → K → Type 0
  Loads k said k' = (Tells k' → IfOk said (λ all. Lists (rows k) all.items)) × Stays k k' × IsCaused said k k'

  -- whatever was to be read was
  abbrev pub Reads : K → Read → K → Type 0
  Reads k None k' = ⊥
  Reads k (Some said) k' = Loads k said k'

  -- the place was taken and the rows were read then; or it wasn't
  abbrev pub Opens : K → List ℕ → Result (Unit {0}) KeeperError → Read → K → Type 0
  Opens k place (Ok _) read k' = (m : K) × Chooses k (Some place) m × (faults k ≤ faults m) × Reads m read k'
  Opens k place (Err error) read k' = (read ≡ None) × Stays k k' × IsCaused {A = Unit {0}} (Err error) k k'

  -- The items were committed, and that came to `done`: all of them were done, or none
  abbrev pub Commits : K → List Item → Result (Unit {0}) KeeperError → K → Type 0
  Commits k items done k' =
      (Tells k' → Tells k) × (Tells k' → OnOk done (AreSame (rows k') (after_items items (rows k))))
      × (Tells k' → OnErr done (AreSame (rows k') (rows k))) × IsCaused done k k'

  -- The call was made on the store k, which is k' then, and came to `done`, with what was read, if anything was
  abbrev pub Calls : Call → K → Result (Unit {0}) KeeperError → Read → K → Type 0
  Calls (Open place) k done read k' = Opens k place done read k'
  Calls Stay k done read k' = (read ≡ None) × OnOk done (Chooses k None k') × Stays k k' × IsCaused done k k'
  Calls Load k done read k' = (done ≡ Ok (tt {0})) × Reads k read k'
  Calls (Commit items) k done read k' = (read ≡ None) × Commits k items done k'

  -- the call was made and answered so, and the store tells its rows then or doesn't, as it is noted
  abbrev pub Makes : K → Exchange → K → Type 0
  Makes k x k' = (x.told ≡ is_told k') × Calls x.call k x.done x.rows k'

  -- these calls were made, one after the other, and no other
  abbrev pub Went : K → List Exchange → K → Type 0
  Went k [] k' = k' ≡ k
  Went k (x ∷ xs) k' = (m : K) × Makes k x m × Went m xs k'

  -- the call that isn't answered yet was made once too, or not at all
  abbrev pub WentOn : Option Call → K → K → Type 0
  WentOn None m k = k ≡ m
  WentOn (Some call) m k = (k ≡ m) ⊎ ((done : Result (Unit {0}) KeeperError) × (read : Read) × Calls call m done read k)

  -- a store that began so went through what was said, and no further
  abbrev pub WentAt : K → Talk → K → Type 0
  WentAt began talk k = (m : K) × Went began talk.seen m × WentOn talk.asked m k
