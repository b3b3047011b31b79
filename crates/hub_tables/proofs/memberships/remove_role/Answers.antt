use Rattle.std.proofs.Common.{sym}
use Rattle.std.specs.Cmp.Lexicographic.{nat_list_cmp_total}
use Rattle.row_indexes.proofs.MemberRows.{same_but_taken}
use Rattle.hub_tables.proofs.memberships.remove_role.Goals as goal

pub returns-clause-told : goal.returns-clause-told
returns-clause-told c =
    let old = sym c.take_row-old.ensures.row in
    let same = same_but_taken nat_list_cmp_total _ _ c.args.name.now c.take_row-old.ensures.removed in
    record {
      users = c.follow_role.ensures.users _ old same c.requires.told.users;
      groups = c.follow_role.ensures.groups _ old same c.requires.told.groups;
      services = c.follow_role.ensures.services _ old same c.requires.told.services;
    }
