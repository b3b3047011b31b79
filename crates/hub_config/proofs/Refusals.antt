-- Bytes that are refused are no configuration.
use Rattle.std.proofs.Common.{◌≡◌, ◌↔◌, ℕ, Bool, IsTrue, true, false, List, Some, None, Ok, Err, inl, inr, refl, sym, ◌∙◌, subst}
use Rattle.hub_config.specs.declared.config.FileConfig.{FileConfig}
use Rattle.hub_config.specs.declared.fault.Fault.{Fault}
use Rattle.hub_opening.specs.Kept.{MakeTable}
use Rattle.hub_config.specs.declared.config_key.ConfigKey.TheVariants as its
use Rattle.hub_config.specs.declared.fault.Rule.TheVariants as rule
use Rattle.hub_config.specs.declared.setting.ConfigError.{ConfigError}
use Rattle.hub_config.specs.declared.setting.ConfigError.TheVariants.{Refused}
use Rattle.hub_config.specs.Faults.{Read, broken_at}
use Rattle.hub_config.specs.Settings.{Gives}
use Rattle.hub_config.specs.Config.{Breaks, IsChecked, IsRead, IsRefused, IsSound, config_in}

unsound : (c : FileConfig) (fault : Fault) → Breaks c fault → IsSound c → ⊥
unsound c fault (inl (clash, is)) sound = let apart = sound.apart in cc
unsound c fault (inr (inl (none, is))) sound = none sound.table
unsound c fault (inr (inr found)) sound = let declared = sound.declared in cc

pub refused_none : (bytes : List ℕ) (fault : Fault) → IsRead bytes (Err (Refused fault)) → (c : FileConfig) → config_in bytes ≡ Ok c → IsSound c → ⊥
refused_none bytes fault h c says sound = unsound c fault (subst (λ (read : Read FileConfig). IsRefused read fault) says h) sound

-- custom scopes that make no table break the rule of their key
pub no_table : (c : FileConfig) (e : ConfigError) → e ≡ Refused (broken_at its.CustomScopes rule.CustomTable) → (MakeTable c.hub.custom_scopes → ⊥) → IsChecked c (Err e)
no_table c e is none = subst (λ (error : ConfigError). IsChecked c (Err error)) (sym is) (inr (inl (none, refl)))

-- what breaks the rule isn't read, for that fault
pub given_up : {X : Type 0} (e : ConfigError) (fault : Fault) (read : Read X) → e ≡ Refused fault → read ≡ Err fault → Gives (Err e) read
given_up {X = X} e fault read is none = subst (λ (error : ConfigError). Gives {X = X} (Err error) read) (sym is) none

pub not_wanting : {P : Type 0} (wanting : Bool) → (IsTrue wanting ↔ P) → wanting ≡ false → P → ⊥
not_wanting wanting tells isnt p = let is = tells.1 p in cc
