use Rattle.std.proofs.Common.{◌∙◌, sym, ap, subst}
use Rattle.std.specs.FinMap as map
use Rattle.std.specs.Cmp.Lexicographic.{nat_list_cmp_total}
use Rattle.keyed_rows.specs.Rows.{OwnKeys}
use Rattle.keyed_rows.proofs.Finite.{values_row}
use Rattle.hub_rows.specs.declared.records.Role.{Role}
use Rattle.hub_tables.specs.Kept.{Roles}
use Rattle.hub_tables.specs.State.{State}
use Rattle.hub_tables.proofs.tables.Tables.roles.Goals as goal

pub returns-clause-rows : goal.returns-clause-rows
returns-clause-rows c = c.values.ensures.rest ∙ sym (values_row nat_list_cmp_total c.self.inside.trees.roles c.values.ensures.ordered) ∙ ap (λ (s : State). map.values s.roles) c.self.view_is

pub returns-clause-own : goal.returns-clause-own
returns-clause-own c = subst (λ (s : State). OwnKeys (λ (row : Role). row.name) s.roles) c.self.view_is (c.self.invariant Roles).own
