use Rattle.std.proofs.Common.{sym}
use Rattle.std.specs.Cmp.Lexicographic.{nat_list_cmp_total}
use Rattle.row_indexes.proofs.MemberRows.{same_but_put}
use Rattle.hub_tables.proofs.memberships.put_group.Goals as goal

pub returns-clause-told : goal.returns-clause-told
returns-clause-told c =
    c.follow_row.ensures _ (sym c.in_ok-old.ensures.old) (same_but_put nat_list_cmp_total _ _ c.args.value.name c.args.value c.in_ok-old.ensures.ok) c.requires.told
