use Rattle.std.proofs.Common.{◌∙◌, sym, ap, subst}
use Rattle.std.specs.FinMap as map
use Rattle.std.specs.Cmp.Lexicographic.{nat_list_cmp_total}
use Rattle.keyed_rows.specs.Rows.{OwnKeys}
use Rattle.keyed_rows.proofs.Finite.{values_row}
use Rattle.hub_rows.specs.declared.records.Next.{Next}
use Rattle.hub_tables.specs.Kept.{Nexts}
use Rattle.hub_tables.specs.State.{State}
use Rattle.hub_tables.proofs.tables.Tables.nexts.Goals as goal

pub returns-clause-rows : goal.returns-clause-rows
returns-clause-rows c = c.values.ensures.rest ∙ sym (values_row nat_list_cmp_total c.self.inside.trees.nexts c.values.ensures.ordered) ∙ ap (λ (s : State). map.values s.nexts) c.self.view_is

pub returns-clause-own : goal.returns-clause-own
returns-clause-own c = subst (λ (s : State). OwnKeys (λ (row : Next). row.name) s.nexts) c.self.view_is (c.self.invariant Nexts)
