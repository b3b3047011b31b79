use Rattle.std.proofs.Common.{◌≡◌, drop}
use Rattle.request_parts.specs.Scopes.{scopes_from}
use Rattle.request_parts.proofs.Fronts.{joined_ok}
use Rattle.request_parts.proofs.scopes.read_scopes.Given as goal

abbrev pub invariant-loop-index : goal.invariant-loop-index
invariant-loop-index l = joined_ok l.scopes (scopes_from l.index (drop l.index l.fn.texts)) ≡ scopes_from 0 l.fn.texts
