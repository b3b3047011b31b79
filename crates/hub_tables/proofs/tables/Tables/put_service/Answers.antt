use Rattle.std.proofs.Common.{subst}
use Rattle.std.specs.Cmp.Lexicographic.{nat_list_cmp_total}
use Rattle.hub_kit.specs.KeyOrder.{name_cmp}
use Rattle.keyed_rows.specs.Puts.{IsAnswerIn}
use Rattle.keyed_rows.specs.Rows.{map_of}
use Rattle.keyed_rows.proofs.Finite.{own_put}
use Rattle.hub_rows.specs.declared.records.Service.{Service}
use Rattle.hub_tables.specs.Kept.{Services}
use Rattle.hub_rows.specs.ShareOrder.{names_exact}
use Rattle.hub_tables.proofs.Kept.{services_kept}
use Rattle.hub_tables.proofs.tables.Tables.put_service.Goals as goal

pub invariant_of-self : goal.invariant_of-self
invariant_of-self c =
    services_kept c.self.inside.trees c.put.new.rows c.self.invariant (own_put nat_list_cmp_total names_exact (λ (row : Service). row.name) _ _ c.args.value c.put.result c.put.ensures.ok c.put.ensures.err (c.self.invariant Services))

pub returns-clause-answer : goal.returns-clause-answer
returns-clause-answer c =
    rw (← c.self.view_is) (subst (λ room. IsAnswerIn room (map_of name_cmp c.self.inside.trees.services) c.args.value.name c.put.result) c.room_of-room.ensures c.put.ensures.answer)
