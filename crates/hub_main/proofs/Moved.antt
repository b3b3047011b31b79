-- What is said of rows that are told later is said of the same rows where they were told before.
use Rattle.std.proofs.Common.{◌≡◌, ◌≤◌, ◌<◌, ◌∙◌, inl, inr, ℕ, List, refl, sym, arith}
use Rattle.hub_devices.specs.Faults.{Rises}
use Rattle.hub_rows.specs.declared.limits.Limits.{Limits}
use Rattle.scope_names.specs.declared.custom.CustomRow.{CustomRow}
use Rattle.hub_tables.specs.State.{State}
use Rattle.hub_machine.specs.State.{Hub}
use Rattle.keeper.specs.Rows.{Rows, AreSame, Lists}
use Rattle.keeper.specs.declared.keeper.Row.{Row}
use Rattle.hub_opening.specs.Kept.{AreLoaded, IsRefusedRow}
use Rattle.hub_opening.specs.Opening.{IsSetUp, IsLost, IsFull, IsRefused}
use Rattle.hub_opening.specs.declared.config.HubConfig.{HubConfig}
use Rattle.hub_opening.specs.declared.open_error.OpenError.{OpenError}
use Rattle.hub_opening.specs.declared.open_error.OpenError.TheVariants as opening
use Rattle.hub_main.specs.Opened.{AreNames, IsNotOpened, Stays}

lists_same : (has was : Rows) (kept : List Row) → AreSame has was → Lists has kept → Lists was kept
lists_same has was kept same lists = record { in_order = lists.in_order; same = λ kind key. lists.same kind key ∙ same kind key }

-- rows that are told under P were told under Q, and are those of `was`
module _ (P Q : Type 0) (has was : Rows) (comes : P → Q × AreSame has was) where
  listed_before : (kept : List Row) → (Q → Lists has kept) → P → Lists was kept
  listed_before kept lists told = lists_same has was kept (comes told).1 (lists (comes told).0)

  pub names_before : (config : HubConfig) → AreNames config Q has → AreNames config P was
  names_before config (inl configured) = inl configured
  names_before config (inr names) = inr (names.0, listed_before names.0 names.1, names.2)

  loaded_before : (limits : Limits) (scopes : List CustomRow) (t : State) → AreLoaded limits scopes Q has t → AreLoaded limits scopes P was t
  loaded_before limits scopes t loaded = record { kept = loaded.kept; listed = listed_before loaded.kept loaded.listed; tables = loaded.tables }

  pub set_up_before : (config : HubConfig) (now : ℕ) (hub : Hub) → IsSetUp config now Q has hub → IsSetUp config now P was hub
  set_up_before config now hub up =
      record { kept = up.kept; loaded = loaded_before config.limits config.custom_scopes up.kept up.loaded; hub = up.hub; pooled = up.pooled; fits = up.fits }

  pub bad_before : (limits : Limits) (scopes : List CustomRow) (kind : ℕ) (key : List ℕ) → IsRefusedRow limits scopes Q has kind key → IsRefusedRow limits scopes P was kind key
  bad_before limits scopes kind key bad = record { kept = bad.kept; listed = listed_before bad.kept bad.listed; bad = bad.bad }

  pub lost_before : (config : HubConfig) (target : List ℕ) → IsLost config Q has target → IsLost config P was target
  lost_before config target lost = record { kept = lost.kept; loaded = loaded_before config.limits config.custom_scopes lost.kept lost.loaded; lost = lost.lost }

  pub full_before : (config : HubConfig) (now kind limit : ℕ) → IsFull config now Q has kind limit → IsFull config now P was kind limit
  full_before config now kind limit full =
      record { kept = full.kept; loaded = loaded_before config.limits config.custom_scopes full.kept full.loaded; pooled = full.pooled; full = full.full }

pub rises_before : (a b c : ℕ) → a ≤ b → b ≤ c → Rises b c → Rises a c
rises_before a b c first second rises = λ below. grind (arith, first, second, rises, below)

module _ {K : Type 0} (Tells : K → Type 0) (rows : K → Rows) (faults : K → ℕ) where
  pub stays_on : (k mid last : K) → Stays Tells rows k mid → Stays Tells rows mid last → Stays Tells rows k last
  stays_on k mid last first second = λ told.
      let before = second told in
      ((first before.0).0, λ kind key. before.1 kind key ∙ (first before.0).1 kind key)

  -- a store that was loaded is opened in vain
  pub not_opened : (config : HubConfig) (now : ℕ) (k mid last : K) (e : OpenError)
      → Stays Tells rows k mid → Stays Tells rows mid last → faults k ≤ faults mid → faults mid ≤ faults last → AreNames config (Tells mid) (rows k)
      → IsRefused config now (Tells last) (rows mid) (faults mid) (faults last) e → IsNotOpened Tells rows faults config now k last e
  not_opened config now k mid last opening.KeeperFault first second less more names rises = rises_before (faults k) (faults mid) (faults last) less more rises
  not_opened config now k mid last (opening.BadRow kind key) first second less more names bad = (
    bad_before (Tells last) (Tells last) (rows mid) (rows k) (λ told. (told, (first (second told).0).1)) config.limits config.custom_scopes kind key bad,
    names_before (Tells last) (Tells mid) (rows k) (rows k) (λ told. ((second told).0, λ kind key. refl)) config names,
  )
  not_opened config now k mid last (opening.LostTarget target) first second less more names lost = (
    lost_before (Tells last) (Tells last) (rows mid) (rows k) (λ told. (told, (first (second told).0).1)) config target lost,
    names_before (Tells last) (Tells mid) (rows k) (rows k) (λ told. ((second told).0, λ kind key. refl)) config names,
  )
  not_opened config now k mid last (opening.Full kind limit) first second less more names full = (
    full_before (Tells last) (Tells last) (rows mid) (rows k) (λ told. (told, (first (second told).0).1)) config now kind limit full,
    names_before (Tells last) (Tells mid) (rows k) (rows k) (λ told. ((second told).0, λ kind key. refl)) config names,
  )
  not_opened config now k mid last opening.Memory first second less more names refused = tt
