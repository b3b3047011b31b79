use Rattle.std.proofs.Common.{rules, subst, sym, ap, ◌∙◌}
use Rattle.store_thread.specs.declared.mailbox.Talk.{Talk}
use Rattle.store_thread.specs.Mailbox.{exchange}
use Rattle.store_thread.specs.Told.{IsFaithful, known_of}
use Rattle.store_thread.proofs.Posting.{gives}
use Rattle.store_thread.proofs.ends.NearEnd.give_as.Goals as goal

pub try_push_as-requires-clause-rule : goal.try_push_as-requires-clause-rule
try_push_as-requires-clause-rule g c =
    gives _ _ _ c.args.answer g.N.Telling.told c.requires.0 (search rules) c.self.invariant.2 c.self.invariant.3
    (ap (λ (t : Talk). t.asked) c.self.view_is ∙ c.requires.1)
    (subst (λ (t : Talk). IsFaithful (known_of t.seen) (exchange c.requires.0 c.args.answer g.N.Telling.told)) (sym c.self.view_is) c.requires.2)
