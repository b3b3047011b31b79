use Rattle.std.proofs.Common.{◌++◌, ◌∙◌, ap}
use Rattle.keyed_rows.specs.Sorted.{in_order, with_keys}
use Rattle.keyed_rows.proofs.KeyLists.{united}
use Rattle.keyed_rows.proofs.sorted.Sorted.with.Goals as goal

pub returns : goal.returns
returns g c =
    c.from_vec.ensures
    ∙ ap (in_order g.K.Ord.cmp) (c.in_ok-extend_from_slice.ensures.items ∙ ap (λ ks. ks ++ c.args.more.now) (c.in_ok-items.ensures.items ∙ c.as_slice.ensures.value))
    ∙ united g.met.K.Ord.total g.met.K.Key.exact _ c.args.more.now c.self.invariant
    ∙ ap (with_keys g.K.Ord.cmp c.args.more.now) c.self.view_is
