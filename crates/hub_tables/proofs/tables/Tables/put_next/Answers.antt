use Rattle.std.specs.Cmp.Lexicographic.{nat_list_cmp_total}
use Rattle.keyed_rows.proofs.Finite.{own_put}
use Rattle.hub_rows.specs.declared.records.Next.{Next}
use Rattle.hub_tables.specs.Kept.{Nexts}
use Rattle.hub_rows.specs.ShareOrder.{names_exact}
use Rattle.hub_tables.proofs.Kept.{nexts_kept}
use Rattle.hub_tables.proofs.tables.Tables.put_next.Goals as goal

pub invariant_of-self : goal.invariant_of-self
invariant_of-self c =
    nexts_kept c.self.inside.trees c.put.new.rows c.self.invariant (own_put nat_list_cmp_total names_exact (λ (row : Next). row.name) _ _ c.args.value c.put.result c.put.ensures.ok c.put.ensures.err (c.self.invariant Nexts))

pub returns-clause-answer : goal.returns-clause-answer
returns-clause-answer c = rw (← c.self.view_is) c.put.ensures.answer
