-- One connection of a guard, once it was served.
use Rattle.std.specs.Prelude.{◌≡◌, ℕ, Bool, List, [], Option, Result}
use Rattle.hub_devices.specs.declared.link_error.LinkError.{LinkError}
use Rattle.hub_kit.specs.declared.names.ServerKey.{ServerKey}
use Rattle.hub_link.specs.Links.{Exchange, Asks}
use Rattle.http_wire.specs.declared.error.SessionFault.{SessionFault}
use Rattle.proxy_core.specs.Passes.{Place}
use Rattle.carries.specs.declared.carried.Carried.{Carried}
use Rattle.carries.specs.Carries.{Sides}
use Rattle.guard.specs.Carrying.{GuardCarries}
use Rattle.guard_login.specs.Entries.{EnterEnds}
use Rattle.guard_login.specs.declared.entries.Entered.{Entered}
use Rattle.guard_login.specs.declared.door.Door.{Door}
use Rattle.upstreams.specs.Upstream.{Told}
use Rattle.guard_serving.specs.declared.kit.GuardKit.{GuardKit}

-- A guard beside one of its connections: whose it is (a server and its target, or a door), its link to the hub, its source of draws, and
-- the connection
pub record Guarding (D H R : Type 0) : Type 0 where
  pub whose : D
  pub link : H
  pub random : R
  pub place : Place

-- A guard with these devices beside a connection. The first six arguments say what is told: of the two sides the bytes to come and those
-- that were written, of the upstream its calls; and the faults of the one side, of the upstream and of the other side
abbrev pub guarding : {D H R U I O : Type 0} → (I → Option (List ℕ)) → (O → Option (List ℕ)) → (U → Option Told) → (I → ℕ) → (U → ℕ)
    → (O → ℕ) → D → GuardKit H R U → I → O → Guarding D H R
guarding left held told reads links writes whose kit input output = record {
  whose = whose;
  link = kit.link;
  random = kit.random;
  place = record {
    left = left input;
    kept = [];
    held = held output;
    told = told kit.upstream;
    reads = reads input;
    links = links kit.upstream;
    writes = writes output;
  };
}

-- The upstream's two sides as a tunnel left them, beside whether the client's is shut. The first five arguments say what is told of them:
-- the bytes to come and those that were written, their faults, and whether the latter is shut
abbrev pub sides_of : {X Y : Type 0} → (X → Option (List ℕ)) → (Y → Option (List ℕ)) → (X → ℕ) → (Y → ℕ) → (Y → Bool) → Bool → X → Y
    → Sides
sides_of left held reads writes closed is_shut input output = record {
  left = left input;
  held = held output;
  reads = reads input;
  writes = writes output;
  upper_shut = closed output;
  lower_shut = is_shut;
}

module _ {H : Type 0} (asked : H → Option (List (List ℕ × Option (List ℕ)))) (does : H → List ℕ → Result (List ℕ) LinkError → H → Type 0)
    (faults : H → ℕ) where
  -- One request was carried or refused by its token; `kept` was read behind it. Nothing was drawn, and the guard stands before the same
  -- server, at the same target, from then on
  pub record IsGuarded {R X Y : Type 0} (sides : X → Y → Sides) (old new : Guarding (ServerKey × List ℕ) H R) : Type 0 where
    pub asks : List Exchange
    pub kept : List ℕ
    pub result : Result (Carried X Y) SessionFault
    pub chain : Asks asked does old.link asks new.link
    pub ends : GuardCarries old.whose.0 old.whose.1 sides asks (faults old.link) (faults new.link) old.place
        (record new.place { kept = kept }) result
    pub same : (new.whose ≡ old.whose) × (new.random ≡ old.random)

  module _ {R : Type 0} (left : R → Option (List (List ℕ))) (fails : R → ℕ) where
    -- One request was carried, refused, or took a step of a browser's sign-in; `kept` was read behind it. The guard has the same door from
    -- then on
    pub record IsSignedIn {X Y : Type 0} (sides : X → Y → Sides) (old new : Guarding Door H R) : Type 0 where
      pub asks : List Exchange
      pub kept : List ℕ
      pub result : Result (Entered X Y) SessionFault
      pub chain : Asks asked does old.link asks new.link
      pub ends : EnterEnds left fails old.random new.random sides old.whose asks (faults old.link) (faults new.link) old.place
          (record new.place { kept = kept }) result
      pub same : new.whose ≡ old.whose
