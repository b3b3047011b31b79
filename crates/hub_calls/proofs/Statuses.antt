-- An answer by the rules is said by no 503.
use Rattle.std.proofs.Common.{◌≡◌, ◌==◌, false, refl}
use Rattle.std.specs.Prelude.{Ok, Err}
use Rattle.admin_rules.specs.declared.refusals.RuleRefusal.{RuleRefusal}
use Rattle.admin_rules.specs.declared.refusals.RuleRefusal.TheVariants as Rule
use Rattle.admin_rules.specs.Rules as rules
use Rattle.hub_machine.specs.State.{Hub}
use Rattle.hub_machine.specs.Replies.{Good, status_of}
use Rattle.hub_machine.proofs.Statuses.{is_503, no_rows}
use Rattle.hub_calls.specs.Calling.{after_rows, by_rules, refusal_of}

no_rule : (r : RuleRefusal) → (status_of (refusal_of r) == 503) ≡ false
no_rule (Rule.Exists key) = refl
no_rule Rule.LiveServers = refl
no_rule (Rule.UnknownUser user) = refl
no_rule (Rule.UnknownServer server) = refl
no_rule Rule.FixedRole = refl
no_rule (Rule.UnknownScope scope) = refl
no_rule (Rule.UnknownHolder name) = refl
no_rule (Rule.Full kind limit) = refl
no_rule Rule.Memory = refl

-- an answer by the rules, whose reply isn't
pub ruled : (s : Hub) (made : rules.Answer) (reply : Hub → Good) → ((t : Hub) → ((reply t).status == 503) ≡ false) → is_503 (by_rules s made reply) ≡ false
ruled s (Ok rows) reply h = no_rows rows (reply (after_rows rows s)) (h (after_rows rows s))
ruled s (Err e) reply h = no_rule e
