-- What a value of a configuration is read as: a key that is needed or may lack, a list, a whole number up to a greatest one, and a table
-- with known keys alone.
use Rattle.std.specs.Prelude.{◌≡◌, ℕ, ℤ, pos, negsuc, nat_le, Bool, true, false, ◌&&◌, List, [], ◌∷◌, ◌++◌, bytes_eq, Option, Some, None}
use Rattle.std.specs.Prelude.{length, option_and_then, Result, Ok, Err, ⊤, if◌then◌else◌}
use Rattle.std.specs.List.{list_any}
use Rattle.toml.specs.Data.{Data, Items, no_items, item, Members, no_members, member, get, as_array, as_table, as_integer}
use Rattle.hub_config.specs.Keys.{text_of}
use Rattle.hub_config.specs.Faults.{Read, broken, broken_at, by_rule, map_ok, then_read, at_entry, at_key}
use Rattle.hub_config.specs.declared.config_key.ConfigKey.{ConfigKey}
use Rattle.hub_config.specs.declared.fault.Rule.TheVariants.{Keys, Lacks, List as IsList, Number}
use Rattle.hub_config.specs.declared.setting.ConfigError.{ConfigError}
use Rattle.hub_config.specs.declared.setting.ConfigError.TheVariants.{Refused, Memory}

-- what is read, or exactly the fault for which nothing is, unless there was no memory
abbrev pub Gives : {X : Type 0} → Result X ConfigError → Read X → Type 0
Gives (Ok x) read = read ≡ Ok x
Gives (Err (Refused fault)) read = read ≡ Err fault
Gives (Err Memory) read = ⊤

-- both, or the fault of the first that isn't read
abbrev pub pair : {A B : Type 0} → Read A → Read B → Read (A × B)
pair (Ok a) (Ok b) = Ok (a, b)
pair (Ok a) (Err fault) = Err fault
pair (Err fault) b = Err fault

-- a key that has to be there
abbrev pub needed_of : {X : Type 0} → (Data → Read X) → ConfigKey → Option Data → Read X
needed_of reads key None = Err (broken_at key Lacks)
needed_of reads key (Some value) = at_key key (reads value)

abbrev pub needed : {X : Type 0} → (Data → Read X) → ConfigKey → Data → Read X
needed reads key value = needed_of reads key (get (text_of key) value)

-- a value that may lack
abbrev pub if_there : {X : Type 0} → (Data → Read X) → ConfigKey → Option Data → Read (Option X)
if_there reads key None = Ok None
if_there reads key (Some value) = map_ok Some (at_key key (reads value))

abbrev pub optional : {X : Type 0} → (Data → Read X) → ConfigKey → Data → Read (Option X)
optional reads key value = if_there reads key (get (text_of key) value)

-- what was found so far, and what the items are read as, if each is read
abbrev pub list_from : {X : Type 0} → (Data → Read X) → List X → Items → Read (List X)
list_from reads found no_items = Ok found
list_from reads found (item value rest) =
    then_read (λ x. list_from reads (found ++ x ∷ []) rest) (at_entry (length found) (reads value))

abbrev pub items_of : {X : Type 0} → (Data → Read X) → Option Items → Read (List X)
items_of reads None = Err (broken IsList)
items_of reads (Some items) = list_from reads [] items

abbrev pub list_of : {X : Type 0} → (Data → Read X) → ConfigKey → Option Data → Read (List X)
list_of reads key None = Ok []
list_of reads key (Some value) = at_key key (items_of reads (as_array value))

-- a list, which has no items where the key lacks
abbrev pub listed : {X : Type 0} → (Data → Read X) → ConfigKey → Data → Read (List X)
listed reads key value = list_of reads key (get (text_of key) value)

-- a number that is not below 0 and not past the greatest
abbrev pub up_to : ℕ → ℤ → Option ℕ
up_to greatest (pos n) = if nat_le n greatest then Some n else None
up_to greatest (negsuc n) = None

abbrev pub limit_of : ℕ → ConfigKey → Option Data → Read ℕ
limit_of greatest key None = Ok greatest
limit_of greatest key (Some value) = at_key key (by_rule (Number greatest) (option_and_then (up_to greatest) (as_integer value)))

-- such a number, which is the greatest where the key lacks
abbrev pub limit : ℕ → ConfigKey → Data → Read ℕ
limit greatest key value = limit_of greatest key (get (text_of key) value)

-- ---- known keys

abbrev pub is_among : List (List ℕ) → List ℕ → Bool
is_among known key = list_any (λ name. bytes_eq name key) known

abbrev pub known_alone : List (List ℕ) → Members → Bool
known_alone known no_members = true
known_alone known (member key value rest) = is_among known key && known_alone known rest

abbrev pub if_known : List (List ℕ) → Option Members → Bool
if_known known None = false
if_known known (Some members) = known_alone known members

-- a table whose keys are all among those that are known
abbrev pub has_only : List (List ℕ) → Data → Bool
has_only known value = if_known known (as_table value)

-- a table with these keys alone, read so
abbrev pub table_with : {X : Type 0} → List (List ℕ) → Data → Read X → Read X
table_with keys value reads = if has_only keys value then reads else Err (broken Keys)
