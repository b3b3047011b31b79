-- Secrets and tokens that stand in files of their own.
use Rattle.std.specs.Prelude.{◌≡◌, ℕ, ◌-◌, ◌==◌, Bool, ◌&&◌, nat_le, nat_eq, List, [], ◌∷◌, length, take, drop, Option, Some, None, Result}
use Rattle.std.specs.Prelude.{Ok, Err, if◌then◌else◌}
use Rattle.std.specs.Cmp.Lexicographic.{pointwise}
use Rattle.std.specs.List.{list_all}
use Rattle.addresses.specs.Addresses.{is_visible}
use Rattle.hub_devices.specs.Faults.{Rises}
use Rattle.hub_devices.specs.NamedFiles.{Reads}
use Rattle.secret_files.specs.declared.secret_file.SecretError.{SecretError}
use Rattle.secret_files.specs.declared.secret_file.SecretError.TheVariants.{NoFile, NoSecret, Memory}

abbrev pub ends_line : List ℕ → Bool
ends_line bytes = pointwise nat_eq (drop (length bytes - 1) bytes) (10 ∷ [])

-- the bytes without a line end behind them
abbrev pub without_end : List ℕ → List ℕ
without_end bytes = if ends_line bytes then take (length bytes - 1) bytes else bytes

abbrev pub are_visible : List ℕ → Bool
are_visible bytes = list_all is_visible bytes

-- 8 to 255 visible ASCII bytes
abbrev pub is_secret : List ℕ → Bool
is_secret bytes = nat_le 8 (length bytes) && nat_le (length bytes) 255 && are_visible bytes

abbrev pub secret_in : List ℕ → Option (List ℕ)
secret_in bytes = if is_secret (without_end bytes) then Some (without_end bytes) else None

-- what these bytes are read as
abbrev pub IsSecretRead : List ℕ → Result (List ℕ) SecretError → Type 0
IsSecretRead bytes (Ok secret) = secret_in bytes ≡ Some secret
IsSecretRead bytes (Err NoSecret) = secret_in bytes ≡ None
IsSecretRead bytes (Err Memory) = Unit {0}
IsSecretRead bytes (Err NoFile) = ⊥

-- the file of this name is that of the secret
abbrev pub IsSecretFile : Option (List (List ℕ × List ℕ)) → List ℕ → List ℕ → Type 0
IsSecretFile files name secret = (bytes : List ℕ) × Reads files name 256 bytes × (secret_in bytes ≡ Some secret)

-- why it isn't: it wasn't read, and the count of faults rose, or its text is none
abbrev pub IsNoSecret : Option (List (List ℕ × List ℕ)) → List ℕ → ℕ → ℕ → SecretError → Type 0
IsNoSecret files name faults faults' NoFile = Rises faults faults'
IsNoSecret files name faults faults' NoSecret = (bytes : List ℕ) × Reads files name 256 bytes × (secret_in bytes ≡ None)
IsNoSecret files name faults faults' Memory = Unit {0}
