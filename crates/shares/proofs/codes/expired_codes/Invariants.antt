use Rattle.std.proofs.Common.{◌≡◌, ◌++◌}
use Rattle.shares.specs.Codes.{expired_among}
use Rattle.shares.proofs.codes.expired_codes.Given as goal

-- those so far, and those of the codes to come
abbrev pub invariant-loop-code : goal.invariant-loop-code
invariant-loop-code l = l.ids.items ++ expired_among l.now l.server l.code-iterator ≡ expired_among l.now l.server l.initial.code-iterator
