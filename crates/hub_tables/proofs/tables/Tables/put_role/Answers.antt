use Rattle.std.proofs.Common.{subst}
use Rattle.std.specs.Cmp.Lexicographic.{nat_list_cmp_total}
use Rattle.hub_kit.specs.KeyOrder.{name_cmp}
use Rattle.keyed_rows.specs.Puts.{IsAnswerIn}
use Rattle.keyed_rows.specs.Rows.{map_of}
use Rattle.keyed_rows.proofs.Finite.{own_put}
use Rattle.hub_rows.specs.declared.records.Role.{Role}
use Rattle.hub_tables.specs.Kept.{Roles}
use Rattle.hub_rows.specs.ShareOrder.{names_exact}
use Rattle.hub_tables.proofs.Kept.{roles_kept}
use Rattle.hub_tables.proofs.tables.Tables.put_role.Goals as goal

pub put_role-requires : goal.put_role-requires
put_role-requires c = record { told = (c.self.invariant Roles).told }

pub invariant_of-self : goal.invariant_of-self
invariant_of-self c =
    roles_kept c.self.inside.trees c.put_role.new.rows c.put_role.new.indexes c.self.invariant (record {
      own = own_put nat_list_cmp_total names_exact (λ (row : Role). row.name) _ _ c.args.value c.put_role.result c.put_role.ensures.ok c.put_role.ensures.err (c.self.invariant Roles).own;
      told = c.put_role.ensures.told;
    })

pub returns-clause-answer : goal.returns-clause-answer
returns-clause-answer c =
    rw (← c.self.view_is) (subst (λ room. IsAnswerIn room (map_of name_cmp c.self.inside.trees.roles) c.args.value.name c.put_role.result) c.room_of-room.ensures c.put_role.ensures.answer)
