use Rattle.std.proofs.Common.{◌≡◌, ◌++◌, drop}
use Rattle.idle_culler.specs.Culled.{culled}
use Rattle.idle_culler.proofs.rules.push_culled.Given as goal

abbrev pub invariant-loop-user : goal.invariant-loop-user
invariant-loop-user l =
    l.list ++ culled l.options l.now (drop l.user-index l.users) ≡ l.fn.list ++ culled l.options l.now l.users
