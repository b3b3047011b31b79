-- The book of a session, and what is known at its end.
use Rattle.std.proofs.Common.{◌≤◌, inr, ℕ, IsTrue, refl, arith}
use Rattle.keeper.specs.Rows.{Rows}
use Rattle.hub_opening.specs.declared.config.HubConfig.{HubConfig}
use Rattle.hub_core.specs.Opened.{HasOpened}
use Rattle.hub_core.specs.Visits.{Standing}
use Rattle.hub_main.specs.Ends.{End}
use Rattle.hub_main.specs.Told.{Sides}
use Rattle.hub_main.specs.Opened.{AreNames, IsOpened, Opens, Stays}
use Rattle.hub_main.specs.Served.{SessionEndsOver}
use Rattle.hub_main.specs.Sessions.{EndsChosen, EndsOpened}
use Rattle.hub_main.proofs.Moved.{names_before, set_up_before}

module _ {K : Type 0} (Tells : K → Type 0) (rows : K → Rows) (faults : K → ℕ) where
  pub opens : (config : HubConfig) (now : ℕ) (k mid : K) (b : Standing)
      → Stays Tells rows k mid → faults k ≤ faults mid → AreNames config (Tells mid) (rows k)
      → HasOpened config now (Tells mid) (rows mid) (faults mid) b → Opens config now (rows k) (faults k) b
  opens config now k mid b stays less names opened = record {
    names = names_before (IsTrue b.start.has_rows) (Tells mid) (rows k) (rows k) (λ has. (opened.was_told has, λ kind key. refl)) config names;
    set_up = set_up_before (IsTrue b.start.has_rows) (IsTrue b.start.has_rows) (rows mid) (rows k) (λ has. (has, (stays (opened.was_told has)).1)) config now b.start.machine opened.set_up;
    entries = opened.told;
    counts = omega (arith, less, opened.counted);
  }

  -- the book as it is known at the end, where the store tells its rows
  pub opened_by_end : (config : HubConfig) (now : ℕ) (k k' : K) (b : Standing)
      → Opens config now (rows k) (faults k) b → (Tells k' → IsTrue b.start.has_rows)
      → IsOpened config now (Tells k') (rows k) (faults k) b.start b.faults
  opened_by_end config now k k' b opened had = record {
    names = names_before (Tells k') (IsTrue b.start.has_rows) (rows k) (rows k) (λ told. (had told, λ kind key. refl)) config opened.names;
    set_up = set_up_before (Tells k') (IsTrue b.start.has_rows) (rows k) (rows k) (λ told. (had told, λ kind key. refl)) config now b.start.machine opened.set_up;
    counts = opened.counts;
  }

  -- what follows over the book
  pub ends_over : (config : HubConfig) (now : ℕ) (s s' : Sides) (k k' : K) (b : Standing) (end : End)
      → Opens config now (rows k) (faults k) b → (Tells k' → IsTrue b.start.has_rows)
      → SessionEndsOver Tells rows faults b.start b.faults now s s' k' end → EndsChosen Tells rows faults config now s s' k k' end
  ends_over config now s s' k k' b end opened had over =
      inr (b.start, b.faults, opened_by_end config now k k' b opened had, over)
