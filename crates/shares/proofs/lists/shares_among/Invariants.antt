use Rattle.std.proofs.Common.{◌≡◌, ◌++◌, drop}
use Rattle.std.specs.List.{filter}
use Rattle.shares.specs.Lists.{is_share_of}
use Rattle.shares.proofs.lists.shares_among.Given as goal

-- those so far, and those of the keys to come
abbrev pub invariant-loop-key : goal.invariant-loop-key
invariant-loop-key l = l.among.items ++ filter (is_share_of l.whose) (drop l.key-index l.keys) ≡ filter (is_share_of l.whose) l.keys
