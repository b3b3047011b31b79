-- The book that an opening gives.
use Rattle.std.specs.Prelude.{◌≡◌, ℕ, ◌≤◌, IsTrue, []}
use Rattle.keeper.specs.Rows.{Rows}
use Rattle.roles.specs.Looks.{no_entries}
use Rattle.hub_opening.specs.Opening.{IsSetUp}
use Rattle.hub_opening.specs.declared.config.HubConfig.{HubConfig}
use Rattle.hub_core.specs.Visits.{Standing}

-- The book stands in the state that the configuration makes of the rows that the keeper had, with no entry, no fewer faults than were
-- handed in, no change of rights, and a cache in which nothing is kept. Where the keeper tells its rows now, it told them when it was
-- handed in.
pub record HasOpened (c : HubConfig) (now : ℕ) (Tells : Type 0) (has : Rows) (faults : ℕ) (b : Standing) : Type 0 where
  pub set_up : IsSetUp c now (IsTrue b.start.has_rows) has b.start.machine
  pub was_told : IsTrue b.start.has_rows → Tells
  pub hub : b.hub ≡ b.start.machine
  pub told : b.told ≡ []
  pub counted : faults ≤ b.faults
  pub rights : b.rights ≡ no_entries 1024
  pub stamp : b.stamp ≡ 0
