-- A command for whose words memory was wanting.
use Rattle.std.proofs.Common.{◌≡◌, inl, ℕ, List, Option, Some, None, Err, refl}
use Rattle.keeper.specs.Rows.{Rows}
use Rattle.hub_words.specs.declared.session.SessionWords.{SessionWords}
use Rattle.hub_main.specs.Told.{FilesTold, Sides, IsQuiet}
use Rattle.hub_main.specs.Sessions.{CommandEnds}
use Rattle.hub_main.specs.declared.cause.Cause.TheVariants.{Memory}

pub still : (s : Sides) → IsQuiet s s
still s = record { input = refl; output = refl; kit = refl }

module _ {K : Type 0} (Tells : K → Type 0) (rows : K → Rows) (faults : K → ℕ) (Chooses : K → Option (List ℕ) → K → Type 0) where
  pub wanting_ends : (found : Option SessionWords) (files : FilesTold) (s : Sides) (k : K)
      → CommandEnds Tells rows faults Chooses found files files s s k k (Err Memory)
  wanting_ends None files s k = (refl, refl, refl)
  wanting_ends (Some words) files s k = inl (tt, record { quiet = still s; store = λ told. (told, λ kind key. refl) })
