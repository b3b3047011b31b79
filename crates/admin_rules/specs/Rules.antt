-- What a call on users, groups, services or roles gives: the rows of its change, or the first rule that refuses it.
use Rattle.std.specs.Prelude.{◌≡◌, ℕ, ◌+◌, Bool, false, not, ◌&&◌, nat_lt, List, [], ◌∷◌, Option, Some, None, Result, Ok, Err}
use Rattle.std.specs.Prelude.{if◌then◌else◌}
use Rattle.std.specs.List.{find, list_any}
use Rattle.std.specs.FinMap.{FinMap, contains_key}
use Rattle.std.specs.declared.vec.Vec.{Vec}
use Rattle.std.specs.declared.alloc.Global.{Global}
use Rattle.hub_kit.specs.KeyOrder.{name_cmp}
use Rattle.hub_rows.specs.declared.changes.RowChange.{RowChange}
use Rattle.hub_tables.specs.Changes.{puts_hashed}
use Rattle.admin_rules.specs.declared.refusals.RuleRefusal.{RuleRefusal}
use Rattle.admin_rules.specs.declared.refusals.RuleRefusal.TheVariants.{Full, Memory}

abbrev pub Answer : Type 0
Answer = Result (List RowChange) RuleRefusal

-- the first rule that refuses, or else the rows
abbrev pub by_rules : List (Option RuleRefusal) → List RowChange → Answer
by_rules [] rows = Ok rows
by_rules (None ∷ rules) rows = by_rules rules rows
by_rules (Some refusal ∷ rules) rows = Err refusal

-- a rule that refuses where a test holds
abbrev pub if_so : Bool → RuleRefusal → Option RuleRefusal
if_so test refusal = if test then Some refusal else None

-- a rule that refuses new rows which would pass the limit of their kind
abbrev pub if_full : (kind limit rows new : ℕ) → Option RuleRefusal
if_full kind limit rows new = if_so (nat_lt 0 new && nat_lt limit (rows + new)) (Full kind limit)

-- the first of the names that isn't kept
abbrev pub first_unkept : {X : Type 0} → FinMap name_cmp X → List (List ℕ) → Option (List ℕ)
first_unkept rows names = find (λ name. not (contains_key rows name)) names

-- a call says its answer: those rows or that refusal; but at any time there may be no memory
abbrev pub Says : Answer → Result (Vec RowChange Global) RuleRefusal → Type 0
Says answer (Ok rows) = answer ≡ Ok rows.items
Says answer (Err Memory) = Unit {0}
Says answer (Err refusal) = answer ≡ Err refusal

-- none of the changes puts a row that is found by a hash
abbrev pub ArePlain : List RowChange → Type 0
ArePlain rows = list_any puts_hashed rows ≡ false

-- a check says what its rule says: it passes, or gives that refusal
abbrev pub Checks : Option RuleRefusal → Result (Unit {0}) RuleRefusal → Type 0
Checks rule (Ok _) = rule ≡ None
Checks rule (Err Memory) = Unit {0}
Checks rule (Err refusal) = rule ≡ Some refusal
