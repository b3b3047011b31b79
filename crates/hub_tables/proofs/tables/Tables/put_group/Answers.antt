use Rattle.std.proofs.Common.{subst}
use Rattle.std.specs.Cmp.Lexicographic.{nat_list_cmp_total}
use Rattle.hub_kit.specs.KeyOrder.{name_cmp}
use Rattle.keyed_rows.specs.Puts.{IsAnswerIn}
use Rattle.keyed_rows.specs.Rows.{map_of}
use Rattle.keyed_rows.proofs.Finite.{own_put}
use Rattle.hub_rows.specs.declared.records.Group.{Group}
use Rattle.hub_tables.specs.Kept.{Groups}
use Rattle.hub_rows.specs.ShareOrder.{names_exact}
use Rattle.hub_tables.proofs.Kept.{groups_kept}
use Rattle.hub_tables.proofs.tables.Tables.put_group.Goals as goal

pub put_group-requires : goal.put_group-requires
put_group-requires c = record { told = (c.self.invariant Groups).told }

pub invariant_of-self : goal.invariant_of-self
invariant_of-self c =
    groups_kept c.self.inside.trees c.put_group.new.rows c.put_group.new.users c.self.invariant (record {
      own = own_put nat_list_cmp_total names_exact (λ (row : Group). row.name) _ _ c.args.value c.put_group.result c.put_group.ensures.ok c.put_group.ensures.err (c.self.invariant Groups).own;
      told = c.put_group.ensures.told;
    })

pub returns-clause-answer : goal.returns-clause-answer
returns-clause-answer c =
    rw (← c.self.view_is) (subst (λ room. IsAnswerIn room (map_of name_cmp c.self.inside.trees.groups) c.args.value.name c.put_group.result) c.room_of-room.ensures c.put_group.ensures.answer)
