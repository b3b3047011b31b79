use Rattle.roles.specs.Looks.{IsRight}
use Rattle.rule_tests.proofs.of_roles.look_often.Given as goal

abbrev pub invariant-loop : goal.invariant-loop
invariant-loop g l = IsRight l.cache l.tables l.token 0
