-- What is made of what was read.
use Rattle.std.proofs.Common.{◌≡◌, ℕ, true, List, Err, ap, sym, subst, rules}
use Rattle.toml.specs.Data.{Data}
use Rattle.hub_config.specs.declared.setting.ConfigError.{ConfigError}
use Rattle.hub_config.specs.declared.setting.ConfigError.TheVariants.{Refused, Memory}
use Rattle.hub_config.specs.Faults.{Read, map_ok}
use Rattle.hub_config.specs.Settings.{Gives, has_only, table_with}

-- a table with known keys alone is read as it is said
pub as_said : {X : Type 0} (keys : List (List ℕ)) (value : Data) (reads : Read X) → has_only keys value ≡ true → table_with keys value reads ≡ reads
as_said keys value reads known = search (rules, known)

-- where a part isn't read, the whole isn't, for the same fault
pub unmade : {A X : Type 0} (e : ConfigError) (part : Read A) (make : A → X) → Gives (Err e) part → Gives (Err e) (map_ok make part)
unmade (Refused fault) part make h = ap (map_ok make) h
unmade Memory part make h = tt

pub unmade_with : {A X : Type 0} (keys : List (List ℕ)) (value : Data) (e : ConfigError) (part : Read A) (make : A → X) → has_only keys value ≡ true → Gives (Err e) part → Gives (Err e) (table_with keys value (map_ok make part))
unmade_with keys value e part make known h = subst (λ whole. Gives (Err e) whole) (sym (as_said keys value (map_ok make part) known)) (unmade e part make h)
