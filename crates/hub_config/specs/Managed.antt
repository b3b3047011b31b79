-- Services whose program the hub starts.
use Rattle.std.specs.Prelude.{ℕ, ◌+◌, Bool, true, not, ◌&&◌, ◌||◌, List, [], ◌∷◌, ◌++◌, bytes_eq, Option, Some, None, Ok, Err}
use Rattle.std.specs.List.{list_any, list_all}
use Rattle.toml.specs.Data.{Data, Items, no_items, item, get, as_array}
use Rattle.hub_config.specs.declared.config.ConfigManaged.{ConfigManaged}
use Rattle.hub_config.specs.Settings.{pair, needed, optional, listed}
use Rattle.hub_config.specs.Forms.{name, text, target, secret}
use Rattle.hub_config.specs.Keys.{text_of}
use Rattle.hub_config.specs.Faults.{Read, broken, broken_at, then_read, at_entry, at_key}
use Rattle.hub_config.specs.declared.config_key.ConfigKey.TheVariants as its
use Rattle.hub_config.specs.declared.fault.Rule.TheVariants.{StandsWith, List as IsList}

-- ---- one service

-- the words of its program and its target stand together, and then with a secret
abbrev pub managed_from : List ℕ × (List (List ℕ) × (Option (List ℕ) × Option (List ℕ))) → Read (Option ConfigManaged)
managed_from (name, ([], (None, secret))) = Ok None
managed_from (name, ([], (Some target, secret))) = Err (broken_at its.Command (StandsWith its.Target))
managed_from (name, (word ∷ words, (Some target, Some secret))) =
    Ok (Some (record { name = name; command = word ∷ words; target = target; secret = secret }))
managed_from (name, (word ∷ words, (Some target, None))) = Err (broken_at its.Secret (StandsWith its.Command))
managed_from (name, (word ∷ words, (None, secret))) = Err (broken_at its.Target (StandsWith its.Command))

abbrev pub managed_of : Data → Read (Option ConfigManaged)
managed_of value = then_read managed_from
    (pair (needed name its.Name value)
    (pair (listed text its.Command value)
    (pair (optional target its.Target value) (optional secret its.Secret value))))

-- ---- all of them

abbrev pub with_one : List ConfigManaged → Option ConfigManaged → List ConfigManaged
with_one found None = found
with_one found (Some service) = found ++ service ∷ []

-- what was found so far, and those of the items that have a program, which are counted from n
abbrev pub managed_in : List ConfigManaged → ℕ → Items → Read (List ConfigManaged)
managed_in found n no_items = Ok found
managed_in found n (item value rest) =
    then_read (λ service. managed_in (with_one found service) (n + 1) rest) (at_entry n (managed_of value))

abbrev pub managed_items : Option Items → Read (List ConfigManaged)
managed_items None = Err (broken IsList)
managed_items (Some items) = managed_in [] 0 items

abbrev pub managed_at : Option Data → Read (List ConfigManaged)
managed_at None = Ok []
managed_at (Some value) = at_key its.Services (managed_items (as_array value))

abbrev pub managed : Data → Read (List ConfigManaged)
managed value = managed_at (get (text_of its.Services) value)

-- ---- apart

-- one name, or one target
abbrev pub clash : ConfigManaged → ConfigManaged → Bool
clash one other = bytes_eq one.name other.name || bytes_eq one.target other.target

abbrev pub are_distinct : List ConfigManaged → Bool
are_distinct [] = true
are_distinct (service ∷ services) = not (list_any (clash service) services) && are_distinct services

-- no two have one name or one target, and none has a target of the pool
abbrev pub are_apart : List (List ℕ) → List ConfigManaged → Bool
are_apart pool services = are_distinct services && list_all (λ service. not (list_any (bytes_eq service.target) pool)) services
