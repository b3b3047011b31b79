-- Where a file of configuration breaks a rule.
use Rattle.std.specs.Prelude.{ℕ, Option, Some, None, Result, Ok, Err}
use Rattle.hub_config.specs.declared.config_key.ConfigKey.{ConfigKey}
use Rattle.hub_config.specs.declared.fault.Fault.{Fault}
use Rattle.hub_config.specs.declared.fault.Rule.{Rule}

-- a value breaks the rule
abbrev pub broken : Rule → Fault
broken rule = record { rule = rule; at = None; key = None; entry = None; inner = None; item = None }

-- the same fault, in this entry of a list
abbrev pub in_entry : ℕ → Fault → Fault
in_entry n fault = record fault { at = Some n }

-- the same fault, under this key
abbrev pub under : ConfigKey → Fault → Fault
under key fault =
    record { rule = fault.rule; at = None; key = Some key; entry = fault.at; inner = fault.key; item = fault.entry }

-- the value of this key breaks the rule, or the key lacks
abbrev pub broken_at : ConfigKey → Rule → Fault
broken_at key rule = under key (broken rule)

-- ---- what is read, or why nothing is

abbrev pub Read : Type 0 → Type 0
Read X = Result X Fault

abbrev pub map_ok : {A B : Type 0} → (A → B) → Read A → Read B
map_ok f (Ok a) = Ok (f a)
map_ok f (Err fault) = Err fault

abbrev pub then_read : {A B : Type 0} → (A → Read B) → Read A → Read B
then_read f (Ok a) = f a
then_read f (Err fault) = Err fault

-- what is read of this entry of a list
abbrev pub at_entry : {X : Type 0} → ℕ → Read X → Read X
at_entry n (Ok x) = Ok x
at_entry n (Err fault) = Err (in_entry n fault)

-- what is read of the value of this key
abbrev pub at_key : {X : Type 0} → ConfigKey → Read X → Read X
at_key key (Ok x) = Ok x
at_key key (Err fault) = Err (under key fault)

-- a form, of which a value is read or whose rule it breaks
abbrev pub by_rule : {X : Type 0} → Rule → Option X → Read X
by_rule rule (Some x) = Ok x
by_rule rule None = Err (broken rule)
