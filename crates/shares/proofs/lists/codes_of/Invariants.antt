use Rattle.std.proofs.Common.{◌≡◌, ◌++◌}
use Rattle.shares.specs.Lists.{codes_among}
use Rattle.shares.proofs.lists.codes_of.Given as goal

-- those so far, and those of the codes to come
abbrev pub invariant-loop-code : goal.invariant-loop-code
invariant-loop-code l = l.ids.items ++ codes_among l.whose l.code-iterator ≡ codes_among l.whose l.initial.code-iterator
