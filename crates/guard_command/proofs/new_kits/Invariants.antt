use Rattle.std.proofs.Common.{◌≡◌, All}
use Rattle.guard_command.proofs.new_kits.Given as goal

abbrev pub invariant-kits : goal.invariant-kits
invariant-kits g l = All (λ kit. kit.link.target ≡ l.hub) l.kits.items
