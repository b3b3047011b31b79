use Rattle.std.proofs.Common.{is_some, ◌∙◌, ap}
use Rattle.std.specs.Ordering.{nat_cmp}
use Rattle.std.specs.Cmp.{nat_cmp_total}
use Rattle.std.specs.FinMap.{contains_key, insert, nat_cmp-IsAntisymmetric}
use Rattle.keyed_rows.specs.Rows.{map_of}
use Rattle.keyed_rows.proofs.Finite.{clash, lent_row, written_row}
use Rattle.hub_tables.proofs.owned.replace_token.Goals as goal

pub returns-in-Some-clause-row : goal.returns-in-Some-clause-row
returns-in-Some-clause-row c =
    written_row nat_cmp_total nat_cmp-IsAntisymmetric c.args.rows.now (c.get_mut.follows.lender c.set.new.self) c.args.value.id c.in-Some.kept.now c.set.new.self (c.get_mut.follows.holds c.set.new.self) c.in-Some.ensures.value
    ∙ ap (insert (map_of nat_cmp c.args.rows.now) c.args.value.id) c.set.ensures

pub returns-in_default-clause-row : goal.returns-in_default-clause-row
returns-in_default-clause-row c = absurd (clash (contains_key (map_of nat_cmp c.args.rows.now) c.args.value.id) c.requires (ap is_some (lent_row nat_cmp_total c.args.rows.now c.args.value.id _ c.in_default.ensures.value)))
