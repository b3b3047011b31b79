use Rattle.std.proofs.Common.{◌∙◌, sym, ap, subst}
use Rattle.std.specs.FinMap as map
use Rattle.std.specs.Cmp.Lexicographic.{nat_list_cmp_total}
use Rattle.keyed_rows.specs.Rows.{OwnKeys}
use Rattle.keyed_rows.proofs.Finite.{values_row}
use Rattle.hub_rows.specs.declared.records.OAuthClient.{OAuthClient}
use Rattle.hub_tables.specs.Kept.{Clients}
use Rattle.hub_tables.specs.State.{State}
use Rattle.hub_tables.proofs.tables.Tables.clients.Goals as goal

pub returns-clause-rows : goal.returns-clause-rows
returns-clause-rows c = c.values.ensures.rest ∙ sym (values_row nat_list_cmp_total c.self.inside.trees.clients c.values.ensures.ordered) ∙ ap (λ (s : State). map.values s.clients) c.self.view_is

pub returns-clause-own : goal.returns-clause-own
returns-clause-own c = subst (λ (s : State). OwnKeys (λ (row : OAuthClient). row.id) s.clients) c.self.view_is (c.self.invariant Clients)
