use Rattle.std.proofs.Common.{◌≡◌, drop}
use Rattle.admin_rules.specs.Rules.{first_unkept}
use Rattle.admin_rules.proofs.roles.unkept_group.Given as goal

abbrev pub invariant-loop-group : goal.invariant-loop-group
invariant-loop-group l = first_unkept l.tables.groups (drop l.group-index l.groups) ≡ first_unkept l.tables.groups l.groups
