use Rattle.std.proofs.Common.{sym}
use Rattle.std.specs.Cmp.Lexicographic.{nat_list_cmp_total}
use Rattle.row_indexes.proofs.MemberRows.{same_but_put}
use Rattle.hub_tables.proofs.memberships.put_role.Goals as goal

pub returns-clause-told : goal.returns-clause-told
returns-clause-told c =
    let old = sym c.in_ok-old.ensures.old in
    let same = same_but_put nat_list_cmp_total _ _ c.args.value.name c.args.value c.in_ok-old.ensures.ok in
    record {
      users = c.follow_role.ensures.users _ old same c.requires.told.users;
      groups = c.follow_role.ensures.groups _ old same c.requires.told.groups;
      services = c.follow_role.ensures.services _ old same c.requires.told.services;
    }
