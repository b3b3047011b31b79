use Rattle.std.proofs.Common.{◌≡◌}
use Rattle.rule_tests.proofs.of_desk.add_many.Given as goal

abbrev pub invariant-loop : goal.invariant-loop
invariant-loop g l = l.pass.of ≡ l.initial.pass.of
