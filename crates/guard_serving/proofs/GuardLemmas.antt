-- Lemmas on guards, seen as the devices that they have.
use Rattle.std.proofs.Common.{◌≡◌, ℕ, Bool, List, map, reverse, All, Option, Some, None, Result, ap, ◌∙◌, subst, sym}
use Rattle.std.proofs.lemmas.List.{reverse-reverse}
use Rattle.std.proofs.lemmas.List.Elements.{All-weaker}
use Rattle.hub_devices.specs.declared.link_error.LinkError.{LinkError}
use Rattle.hub_kit.specs.declared.names.ServerKey.{ServerKey}
use Rattle.hub_words.specs.declared.guard.GuardWords.{GuardWords}
use Rattle.guard_login.specs.declared.door.Door.{Door}
use Rattle.upstreams.specs.Upstream.{Told}
use Rattle.carries.specs.Carries.{Sides}
use Rattle.worker_hall.specs.Shifts.{AreServed}
use Rattle.worker_hall.proofs.ShiftLemmas.{served_as, served_none}
use Rattle.guard_serving.specs.Runs.{AreGuarded, door_of}
use Rattle.guard_serving.specs.Served.{Guarding, guarding, IsGuarded, IsSignedIn}
use Rattle.guard_serving.specs.declared.kit.GuardKit.{GuardKit}

turned : {X : Type 0} (xs ys : List X) → xs ≡ reverse ys → ys ≡ reverse xs
turned xs ys is = sym (ap reverse is ∙ reverse-reverse ys)

-- no connection was served, and the kits are as they were
pub none_served : {K I O : Type 0} (are_sides : I → O → Type 0) (served : K → I → O → K → I → O → Type 0) (kits kits' : List K) (count : ℕ) → kits' ≡ kits
    → count ≡ 0 → AreServed are_sides served (reverse kits) count (reverse kits')
none_served are_sides served kits kits' count same none = served_none are_sides served (reverse kits) (reverse kits') count (ap reverse (sym same)) none

-- What a guard's devices do where the guard stands before d, by what it does (`Done`)
abbrev pub by_kit : {D H R U I O : Type 0} → (I → Option (List ℕ)) → (O → Option (List ℕ)) → (U → Option Told) → (I → ℕ) → (U → ℕ) → (O → ℕ)
    → (O → Guarding D H R → Guarding D H R → Type 0) → D → GuardKit H R U → I → O → GuardKit H R U → I → O → Type 0
by_kit left held told reads links writes Done d k i o k' i' o' =
    Done o' (guarding left held told reads links writes d k i o) (guarding left held told reads links writes d k' i' o')

-- Guards that all stand before d, and that stay where they stand, serve by their devices as a guard before d does
module _ {D H R U I O G : Type 0} (are_sides : I → O → Type 0) (left : I → Option (List ℕ)) (held : O → Option (List ℕ)) (told : U → Option Told)
    (reads : I → ℕ) (links : U → ℕ) (writes : O → ℕ) (Done : O → Guarding D H R → Guarding D H R → Type 0)
    (keeps : (o : O) (old new : Guarding D H R) → Done o old new → new.whose ≡ old.whose) (whose : G → D) (kit : G → GuardKit H R U) where
  abbrev beside : D → GuardKit H R U → I → O → Guarding D H R
  beside = guarding left held told reads links writes

  abbrev by_devices : D → GuardKit H R U → I → O → GuardKit H R U → I → O → Type 0
  by_devices = by_kit left held told reads links writes Done

  abbrev by_guard : G → I → O → G → I → O → Type 0
  by_guard g i o g' i' o' = Done o' (beside (whose g) (kit g) i o) (beside (whose g') (kit g') i' o')

  once : (d : D) (g : G) (i : I) (o : O) (g' : G) (i' : I) (o' : O) → whose g ≡ d → by_guard g i o g' i' o'
      → (whose g' ≡ d) × by_devices d (kit g) i o (kit g') i' o'
  once d g i o g' i' o' stands done =
      let still : whose g' ≡ d = keeps o' (beside (whose g) (kit g) i o) (beside (whose g') (kit g') i' o') done ∙ stands in (
        still,
        subst (λ e. Done o' (beside d (kit g) i o) (beside e (kit g') i' o')) still
            (subst (λ e. Done o' (beside e (kit g) i o) (beside (whose g') (kit g') i' o')) stands done),
      )

  pub kits_served : (d : D) (kits kits' : List (GuardKit H R U)) (gs gs' : List G) (count : ℕ) → All (λ g. whose g ≡ d) gs → kits ≡ reverse (map kit gs)
      → AreServed are_sides by_guard gs count gs' → kits' ≡ reverse (map kit gs') → AreServed are_sides (by_devices d) (reverse kits) count (reverse kits')
  kits_served d kits kits' gs gs' count stand had are back =
      subst (λ l. AreServed are_sides (by_devices d) l count (reverse kits')) (turned kits (map kit gs) had)
      (subst (λ l. AreServed are_sides (by_devices d) (map kit gs) count l) (turned kits' (map kit gs') back)
      (served_as are_sides by_guard (by_devices d) kit (λ g. whose g ≡ d) (once d) gs count gs' stand are))

-- ---- the two kinds of guards

module _ {H X Y O : Type 0} (asked : H → Option (List (List ℕ × Option (List ℕ)))) (does : H → List ℕ → Result (List ℕ) LinkError → H → Type 0) (faults : H → ℕ)
    (left : X → Option (List ℕ)) (held : Y → Option (List ℕ)) (reads : X → ℕ) (writes : Y → ℕ) (closed : Y → Bool) (shut : O → Bool) where
  abbrev sides : O → X → Y → Sides
  sides o = λ x y. record { left = left x; held = held y; reads = reads x; writes = writes y; upper_shut = closed y; lower_shut = shut o }

  abbrev pub ByToken : {R : Type 0} → O → Guarding (ServerKey × List ℕ) H R → Guarding (ServerKey × List ℕ) H R → Type 0
  ByToken o old new = IsGuarded asked does faults (sides o) old new

  pub token_keeps : {R : Type 0} (o : O) (old new : Guarding (ServerKey × List ℕ) H R) → ByToken o old new → new.whose ≡ old.whose
  token_keeps o old new done = done.same.0

  abbrev pub AtDoor : {R : Type 0} → (R → Option (List (List ℕ))) → (R → ℕ) → O → Guarding Door H R → Guarding Door H R → Type 0
  AtDoor draws fails o old new = IsSignedIn asked does faults draws fails (sides o) old new

  pub door_keeps : {R : Type 0} (draws : R → Option (List (List ℕ))) (fails : R → ℕ) (o : O) (old new : Guarding Door H R) → AtDoor draws fails o old new
      → new.whose ≡ old.whose
  door_keeps draws fails o old new done = done.same

-- guards by tokens that have this server and this target
pub stand_before : {G : Type 0} (server : G → ServerKey) (target : G → List ℕ) (s : ServerKey) (t : List ℕ) (gs : List G)
    → All (λ g. (server g ≡ s) × (target g ≡ t)) gs → All (λ g. ◌≡◌ {A = ServerKey × List ℕ} (server g, target g) (s, t)) gs
stand_before server target s t gs stand =
    All-weaker (λ g. (server g ≡ s) × (target g ≡ t)) (λ g. ◌≡◌ {A = ServerKey × List ℕ} (server g, target g) (s, t)) (λ g is. cc) gs stand

-- ---- by the words

module _ {K I O : Type 0} (are_sides : I → O → Type 0) (guarded : ServerKey × List ℕ → K → I → O → K → I → O → Type 0)
    (signed_in : Door → K → I → O → K → I → O → Type 0) (kits kits' : List K) (words : GuardWords) (count : ℕ) where
  pub no_secret : (secret : Option (List ℕ)) → secret ≡ None
      → AreServed are_sides (guarded (words.server, words.target)) (reverse kits) count (reverse kits')
      → AreGuarded are_sides guarded signed_in kits kits' words secret count
  no_secret secret is are = subst (λ s. AreGuarded are_sides guarded signed_in kits kits' words s count) (sym is) are

  pub with_secret : (secret : Option (List ℕ)) (text : List ℕ) (door : Door) → secret ≡ Some text → door ≡ door_of words text
      → AreServed are_sides (signed_in door) (reverse kits) count (reverse kits')
      → AreGuarded are_sides guarded signed_in kits kits' words secret count
  with_secret secret text door is made are = subst (λ s. AreGuarded are_sides guarded signed_in kits kits' words s count) (sym is)
      (subst (λ d. AreServed are_sides (signed_in d) (reverse kits) count (reverse kits')) made are)
