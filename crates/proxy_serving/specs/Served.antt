-- One connection of a proxy, once it was served.
use Rattle.std.specs.Prelude.{◌≡◌, ℕ, List, Option, Result}
use Rattle.hub_devices.specs.ToCome.{Tells}
use Rattle.http_wire.specs.declared.error.SessionFault.{SessionFault}
use Rattle.carries.specs.declared.carried.Carried.{Carried}
use Rattle.carries.specs.Carries.{CarryEnds, Sides}
use Rattle.proxy_core.specs.Forward.{Found}
use Rattle.proxy_core.specs.Passes as forward
use Rattle.proxy_api.specs.Api as api

-- one request was carried, at the clock's next moment
pub record IsForwarded {L R W : Type 0} (found : Found L) (sides : R → W → Sides) (coming coming' : Option (ℕ → ℕ))
    (old new : forward.Place)
    (routes routes' : L) : Type 0 where
  pub now : ℕ
  pub kept : List ℕ
  pub result : Result (Carried R W) SessionFault
  pub tells : Tells coming now coming'
  pub ends : CarryEnds found sides now old (record new { kept = kept }) routes routes' result

-- one request of the interface was answered, at the clock's next moment, and the secret stays
pub record IsAnsweredAt {A : Type 0} (gave : api.Gave A) (secret secret' : List ℕ) (coming coming' : Option (ℕ → ℕ)) (old new : api.Place)
    (routes routes' : A) : Type 0 where
  pub now : ℕ
  pub result : Result ℕ SessionFault
  pub tells : Tells coming now coming'
  pub stays : secret' ≡ secret
  pub ends : api.ApiEnds gave secret now old new routes routes' result
