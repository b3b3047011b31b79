-- What the calls' definitions share.
use Rattle.std.specs.Prelude.{List, [], ◌∷◌, ◌++◌, codes, Ok, Err}
use Rattle.hub_rows.specs.declared.changes.RowChange.{RowChange}
use Rattle.admin_rules.specs.declared.refusals.RuleRefusal.{RuleRefusal}
use Rattle.admin_rules.specs.declared.refusals.RuleRefusal.TheVariants as Rule
use Rattle.admin_rules.specs.Rules as rules
use Rattle.hub_machine.specs.State.{Hub}
use Rattle.hub_machine.specs.Apply.{apply}
use Rattle.hub_machine.specs.Replies.{Answer, refuses, rows_then, Good, good}
use Rattle.hub_machine.specs.declared.change.Change.TheVariants.{Rows}
use Rattle.hub_machine.specs.declared.refusal.Refusal.{Refusal}
use Rattle.hub_machine.specs.declared.refusal.Refusal.TheVariants as No

-- how a rule's refusal is said. Want of memory is no answer of the rules
abbrev pub refusal_of : RuleRefusal → Refusal
refusal_of (Rule.Exists key) = No.Exists key
refusal_of Rule.LiveServers = No.Rule (codes "live servers")
refusal_of (Rule.UnknownUser user) = No.Rule (codes "unknown user " ++ user)
refusal_of (Rule.UnknownServer server) = No.Rule (codes "unknown server " ++ server)
refusal_of Rule.FixedRole = No.Rule (codes "fixed role")
refusal_of (Rule.UnknownScope scope) = No.Rule (codes "unknown scope " ++ scope)
refusal_of (Rule.UnknownHolder name) = No.Rule (codes "unknown holder " ++ name)
refusal_of (Rule.Full kind limit) = No.Full kind limit
refusal_of Rule.Memory = No.Rule []

-- what the rows leave; no rows are no change
abbrev pub after_rows : List RowChange → Hub → Hub
after_rows [] s = s
after_rows (r ∷ rest) s = apply (Rows (r ∷ rest)) s

-- the rows of the rules with a reply that shows the state after them, or the refusal of the rules
abbrev pub by_rules : Hub → rules.Answer → (Hub → Good) → Answer
by_rules s (Ok rows) reply = rows_then rows (reply (after_rows rows s))
by_rules s (Err refusal) reply = refuses (refusal_of refusal)

abbrev pub done : Hub → Good
done s = good 204 []
