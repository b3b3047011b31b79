-- A refusal of the rules, as an answer.
use Rattle.std.proofs.Common.{◌≡◌, sym, ◌∙◌, ap, refl}
use Rattle.std.specs.Prelude.{◌≢◌, Err}
use Rattle.admin_rules.specs.declared.refusals.RuleRefusal.{RuleRefusal}
use Rattle.admin_rules.specs.declared.refusals.RuleRefusal.TheVariants as Rule
use Rattle.admin_rules.specs.Rules as rules
use Rattle.hub_machine.specs.State.{Hub}
use Rattle.hub_machine.specs.Replies.{Good, refuses}
use Rattle.hub_machine.specs.declared.refusal.Refusal.{Refusal}
use Rattle.hub_calls.specs.Calling.{by_rules, refusal_of}

says_refuses : (refusal : RuleRefusal) (r : Refusal) → r ≡ refusal_of refusal → (answer : rules.Answer) → answer ≡ Err refusal → (s : Hub) (reply : Hub → Good) → refuses r ≡ by_rules s answer reply
says_refuses refusal r same answer says s reply = ap refuses same ∙ sym (ap (λ made. by_rules s made reply) says)

-- a rule's refusal, which was said, so that memory wasn't wanting
pub err_refuses : (refusal : RuleRefusal) (r : Refusal) → r ≡ refusal_of refusal → (refusal ≢ Rule.Memory) → (answer : rules.Answer) → rules.Says answer (Err refusal) → (s : Hub) (reply : Hub → Good)
    → refuses r ≡ by_rules s answer reply
err_refuses (Rule.Exists key) r same some answer says s reply = says_refuses (Rule.Exists key) r same answer says s reply
err_refuses Rule.LiveServers r same some answer says s reply = says_refuses Rule.LiveServers r same answer says s reply
err_refuses (Rule.UnknownUser user) r same some answer says s reply = says_refuses (Rule.UnknownUser user) r same answer says s reply
err_refuses (Rule.UnknownServer server) r same some answer says s reply = says_refuses (Rule.UnknownServer server) r same answer says s reply
err_refuses Rule.FixedRole r same some answer says s reply = says_refuses Rule.FixedRole r same answer says s reply
err_refuses (Rule.UnknownScope scope) r same some answer says s reply = says_refuses (Rule.UnknownScope scope) r same answer says s reply
err_refuses (Rule.UnknownHolder name) r same some answer says s reply = says_refuses (Rule.UnknownHolder name) r same answer says s reply
err_refuses (Rule.Full kind limit) r same some answer says s reply = says_refuses (Rule.Full kind limit) r same answer says s reply
err_refuses Rule.Memory r same some answer says s reply = absurd (some refl)
