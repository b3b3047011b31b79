use Rattle.std.proofs.Common.{◌∙◌, sym, ap, subst}
use Rattle.keyed_rows.specs.Sorted.{IsInOrder}
use Rattle.hub_rows.specs.SharedScopes.{scope_cmp, with_scopes}
use Rattle.hub_rows.proofs.InOrder.{with_ordered}
use Rattle.hub_rows.proofs.shared_scopes.SharedScopes.with.Goals as goal

pub invariant_of-result : goal.invariant_of-result
invariant_of-result c =
    subst (IsInOrder scope_cmp) (sym (c.from_vec.ensures ∙ c.in_ok-scopes.ensures ∙ ap (with_scopes c.args.more.now) c.as_slice.ensures))
    (with_ordered c.args.more.now _ c.self.invariant)
