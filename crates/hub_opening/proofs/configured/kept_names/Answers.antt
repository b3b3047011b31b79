use Rattle.std.proofs.Common.{◌∙◌, ap}
use Rattle.keyed_rows.specs.Sorted.{in_order}
use Rattle.hub_opening.proofs.KeptNames.{kept_in_order, all_walked}
use Rattle.hub_opening.proofs.configured.kept_names.Goals as goal

pub returns : goal.returns
returns g c =
    let test = g.N.Named.is_in c.args.tables.now in
    c.from_vec.ensures
    ∙ ap (in_order g.N.Ord.cmp)
    (all_walked test c.args.names.now c.as_slice-name-items.result.now c.loop-name.name-index c.loop-name.kept.items
    c.loop-name.invariant c.as_slice-name-items.ensures.keys c.loop-name-test.false)
    ∙ kept_in_order g.met.N.Ord.total g.met.N.Key.exact test c.args.names.now c.as_slice-name-items.ensures.ordered
