use Rattle.std.proofs.Common.{◌≡◌, ◌||◌}
use Rattle.hub_kit.specs.declared.names.ServerKey.{ServerKey}
use Rattle.row_rules.specs.Across.{is_leased_by}
use Rattle.row_rules.specs.Judged.{is_in}
use Rattle.row_rules.proofs.standing.add_servers.Given as goal

abbrev pub invariant-loop-lease : goal.invariant-loop-lease
invariant-loop-lease g l = (server : ServerKey) → (is_in l.leased server || is_leased_by l.lease-iterator server) ≡ (is_in l.initial.leased server || is_leased_by l.fn.leases server)
