use Rattle.std.proofs.Common.{◌∙◌, sym, ap, subst}
use Rattle.keyed_rows.specs.Sorted.{IsInOrder}
use Rattle.hub_rows.specs.SharedScopes.{scope_cmp, without_scopes}
use Rattle.hub_rows.proofs.InOrder.{without_ordered}
use Rattle.hub_rows.proofs.shared_scopes.SharedScopes.without.Goals as goal

pub invariant_of-result : goal.invariant_of-result
invariant_of-result c =
    subst (IsInOrder scope_cmp) (sym (c.from_vec.ensures ∙ c.in_ok-scopes.ensures ∙ ap (without_scopes c.args.less.now) c.as_slice.ensures))
    (without_ordered c.args.less.now _ c.self.invariant)
