-- What an opening found, said of less.
use Rattle.std.proofs.Common.{◌≡◌, ◌∙◌, ℕ}
use Rattle.keeper.specs.Rows.{Rows}
use Rattle.hub_machine.specs.State.{Hub}
use Rattle.hub_opening.specs.Opening.{IsSetUp}
use Rattle.hub_opening.specs.declared.config.HubConfig.{HubConfig}

-- what is set up from rows that are told where `Tells` holds, is set up too from rows that are told at least then
pub set_up_where : (c : HubConfig) (now : ℕ) (Less Tells : Type 0) (has : Rows) (start hub : Hub) → start ≡ hub → (Less → Tells) → IsSetUp c now Tells has hub
    → IsSetUp c now Less has start
set_up_where c now Less Tells has start hub same less is = record {
  kept = is.kept;
  loaded = record { kept = is.loaded.kept; listed = λ told. is.loaded.listed (less told); tables = is.loaded.tables };
  hub = same ∙ is.hub;
  pooled = is.pooled;
  fits = is.fits;
}
