-- The whole command.
use Rattle.std.specs.Prelude.{◌≡◌, ◌⊎◌, ℕ, List, reverse, Option, Some, None}
use Rattle.hub_kit.specs.declared.names.ServerKey.{ServerKey}
use Rattle.guard_login.specs.declared.door.Door.{Door}
use Rattle.hub_words.specs.declared.guard.GuardWords.{GuardWords}
use Rattle.secret_files.specs.SecretFiles.{IsSecretFile, IsNoSecret}
use Rattle.secret_files.specs.declared.secret_file.SecretError.{SecretError}
use Rattle.secret_files.specs.declared.secret_file.SecretError.TheVariants.{NoFile, NoSecret, Memory}
use Rattle.worker_hall.specs.Shifts.{AreServed}
use Rattle.guard_serving.specs.Ends.{IsOver, fault_of_secret, unserved}
use Rattle.guard_serving.specs.Hall.{Hall}
use Rattle.guard_serving.specs.declared.ends.GuardEnd.{GuardEnd}
use Rattle.guard_serving.specs.declared.ends.GuardFault.TheVariants as fault

-- The door of a guard with these words and this secret: its server, where that is, where the hub is, the secret of the server's client
-- there, and whether cookies are for TLS alone
abbrev pub door_of : GuardWords → List ℕ → Door
door_of words secret = record {
  key = words.server;
  target = words.target;
  hub = words.hub;
  secret = secret;
  secure_cookies = words.secure_cookies;
}

module _ {K I O : Type 0} (are_sides : I → O → Type 0) (guarded : ServerKey × List ℕ → K → I → O → K → I → O → Type 0)
    (signed_in : Door → K → I → O → K → I → O → Type 0) (kits kits' : List K) where
  -- So many connections were served by guards with these kits, which came to be those: guards of the server and the target of the words
  -- where there is no secret (`guarded`), and else of the door that the words and the secret make (`signed_in`). The first guard has the
  -- last kit
  abbrev pub AreGuarded : GuardWords → Option (List ℕ) → ℕ → Type 0
  AreGuarded words None count = AreServed are_sides (guarded (words.server, words.target)) (reverse kits) count (reverse kits')
  AreGuarded words (Some secret) count = AreServed are_sides (signed_in (door_of words secret)) (reverse kits) count (reverse kits')

-- The secret in the file of this name among these, where one is named; and none where none is
abbrev pub HasSecret : Option (List (List ℕ × List ℕ)) → Option (List ℕ) → Option (List ℕ) → Type 0
HasSecret files None None = Unit {0}
HasSecret files None (Some secret) = ⊥
HasSecret files (Some name) None = ⊥
HasSecret files (Some name) (Some secret) = IsSecretFile files name secret

-- Why there is no secret: a file was named that isn't a secret's, or memory was wanting. `faults` counts the files' faults before, and
-- `faults'` after
abbrev pub HasNoSecret : Option (List (List ℕ × List ℕ)) → Option (List ℕ) → ℕ → ℕ → SecretError → Type 0
HasNoSecret files None faults faults' NoFile = ⊥
HasNoSecret files None faults faults' NoSecret = ⊥
HasNoSecret files None faults faults' Memory = Unit {0}
HasNoSecret files (Some name) faults faults' error = IsNoSecret files name faults faults' error

-- Nothing was done, since there is no secret, for the cause that the end tells. `idle` says that no device was used
pub record EndsWithout (files : Option (List (List ℕ × List ℕ))) (name : Option (List ℕ)) (faults faults' : ℕ) (idle : Type 0) (h : Hall)
    (end : GuardEnd) (h' : Hall)
    : Type 0 where
  pub error : SecretError
  pub none : HasNoSecret files name faults faults' error
  pub is : end ≡ unserved (fault_of_secret error)
  pub quiet : h' ≡ h
  pub unused : idle

-- Connections were served, by the secret of the file where one is named. `guards` says of a secret and a number that guards served so many
-- by it
pub record EndsServed (files : Option (List (List ℕ × List ℕ))) (name : Option (List ℕ)) (guards : Option (List ℕ) → ℕ → Type 0) (h : Hall)
    (end : GuardEnd) (h' : Hall)
    : Type 0 where
  pub secret : Option (List ℕ)
  pub has : HasSecret files name secret
  pub over : IsOver h end h'
  pub served : guards secret end.served

-- How the whole command ends: the words are these; or they are refused, or memory was wanting to read them, and nothing was done. h is what
-- the guard has outside before, and h' then; `faults` counts the files' faults before, and `faults'` then. `guards` says of words, a secret
-- and a number that guards served so many connections by them, and `idle` that no device was used
abbrev pub RunEnds : (guards : GuardWords → Option (List ℕ) → ℕ → Type 0) (idle : Type 0) → Option GuardWords
    → Option (List (List ℕ × List ℕ)) → ℕ → ℕ → Hall → GuardEnd → Hall → Type 0
RunEnds guards idle None files faults faults' h end h' =
    ((end ≡ unserved fault.Words) ⊎ (end ≡ unserved fault.Memory)) × (h' ≡ h) × (faults' ≡ faults) × idle
RunEnds guards idle (Some words) files faults faults' h end h' =
    EndsWithout files words.secret_file faults faults' idle h end h' ⊎ EndsServed files words.secret_file (guards words) h end h'
