use Rattle.std.proofs.Common.{◌<◌, ◌-◌, ◌+◌, ◌/◌, length, map, ap, ◌∙◌, arith}
use Rattle.std.specs.declared.cmp.Ordering.TheVariants.{Less, Equal, Greater}
use Rattle.std.specs.Ordering.{nat_cmp}
use Rattle.std.specs.Cmp.Lexicographic.{slice_cmp}
use Rattle.percent_encoding.specs.Percent.{percent_decode}
use Rattle.route_table.specs.Path.{rank}
use Rattle.route_table.proofs.SearchLemmas.{segments_exact, below_up_to, above_from, compared}
use Rattle.route_table.proofs.search.search.Goals as goal

pub returns-in-Equal-clause-found : goal.returns-in-Equal-clause-found
returns-in-Equal-clause-found c =
    let within : c.halves.low + (c.halves.high - c.halves.low) / 2 < length c.args.rows.now = omega arith in record {
      within = within;
      same = λ d. segments_exact _ _ (compared c.args.rows.now c.args.path.now c.requires.rise c.requires.keys c.requires.key c.requires.clear
          (c.halves.low + (c.halves.high - c.halves.low) / 2) c.row_at-row.result.now Equal within c.row_at-row.ensures (c.in-Equal.ensures ∙ ap (λ k. slice_cmp nat_cmp (map rank k) (map rank (percent_decode c.args.path.now))) c.as_slice.ensures) d);
    }

pub halves-preserved-in-Less : goal.halves-preserved-in-Less
halves-preserved-in-Less c =
    let within : c.halves.low + (c.halves.high - c.halves.low) / 2 < length c.args.rows.now = omega arith in record {
      in_order = omega arith;
      within = omega arith;
      below = below_up_to c.args.rows.now c.args.path.now c.requires.rise c.requires.keys c.requires.key c.requires.clear _ within
          (compared c.args.rows.now c.args.path.now c.requires.rise c.requires.keys c.requires.key c.requires.clear
          (c.halves.low + (c.halves.high - c.halves.low) / 2) c.row_at-row.result.now Less within c.row_at-row.ensures (c.in-Less.ensures ∙ ap (λ k. slice_cmp nat_cmp (map rank k) (map rank (percent_decode c.args.path.now))) c.as_slice.ensures));
      above = c.halves.invariant.above;
    }

pub halves-preserved : goal.halves-preserved
halves-preserved c =
    let within : c.halves.low + (c.halves.high - c.halves.low) / 2 < length c.args.rows.now = omega arith in record {
      in_order = omega arith;
      within = omega arith;
      below = c.halves.invariant.below;
      above = above_from c.args.rows.now c.args.path.now c.requires.rise c.requires.keys c.requires.key c.requires.clear _ within
          (compared c.args.rows.now c.args.path.now c.requires.rise c.requires.keys c.requires.key c.requires.clear
          (c.halves.low + (c.halves.high - c.halves.low) / 2) c.row_at-row.result.now Greater within c.row_at-row.ensures (c.in-Greater.ensures ∙ ap (λ k. slice_cmp nat_cmp (map rank k) (map rank (percent_decode c.args.path.now))) c.as_slice.ensures));
    }
