use Rattle.std.proofs.Common.{◌≡◌, ◌++◌}
use Rattle.oauth_flow.specs.Codes.{expired_among}
use Rattle.oauth_flow.proofs.codes.expired_codes.Given as goal

-- those so far, and those of the codes to come
abbrev pub invariant-loop-code : goal.invariant-loop-code
invariant-loop-code l = l.hashes.items ++ expired_among l.now l.code-iterator ≡ expired_among l.now l.initial.code-iterator
