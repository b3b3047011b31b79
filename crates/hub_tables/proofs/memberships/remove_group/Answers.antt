use Rattle.std.proofs.Common.{sym}
use Rattle.std.specs.Cmp.Lexicographic.{nat_list_cmp_total}
use Rattle.row_indexes.proofs.MemberRows.{same_but_taken}
use Rattle.hub_tables.proofs.memberships.remove_group.Goals as goal

pub returns-clause-told : goal.returns-clause-told
returns-clause-told c =
    c.follow_row.ensures _ (sym c.take_row-old.ensures.row) (same_but_taken nat_list_cmp_total _ _ c.args.name.now c.take_row-old.ensures.removed) c.requires.told
