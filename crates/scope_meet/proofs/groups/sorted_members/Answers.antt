use Rattle.std.proofs.Common.{sym, ap, ◌∙◌}
use Rattle.std.specs.List.{list_any}
use Rattle.std.proofs.lemmas.List.Sorted.{list_any-IsPermutation}
use Rattle.scope_meet.proofs.groups.sorted_members.Goals as goal

pub returns-clause-same : goal.returns-clause-same
returns-clause-same g c = λ p.
    sym (list_any-IsPermutation p c.in_ok-users.users.items c.sort_unstable.new.self.items c.sort_unstable.ensures.permutation) ∙ ap (list_any p) c.in_ok-users.ensures
