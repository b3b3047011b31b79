use Rattle.std.proofs.Common.{◌∙◌}
use Rattle.keyed_rows.proofs.KeyLists.{found, in_order_sorted}
use Rattle.keyed_rows.proofs.sorted.is_found.Goals as goal

pub returns : goal.returns
returns g c =
    c.is_ok.ensures.value
    ∙ found g.met.K.Ord.total c.args.key.now c.args.keys.now c.binary_search.result (in_order_sorted g.met.K.Ord.total c.args.keys.now c.requires) c.binary_search.ensures.bound c.binary_search.ensures.position
