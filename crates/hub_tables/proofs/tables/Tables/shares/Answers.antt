use Rattle.std.proofs.Common.{◌∙◌, sym, ap, subst}
use Rattle.std.specs.FinMap as map
use Rattle.hub_rows.specs.contracts.keys.ShareKeyOrd.TheImpl.Laws.{total-law}
use Rattle.keyed_rows.specs.Rows.{OwnKeys}
use Rattle.keyed_rows.proofs.Finite.{values_row}
use Rattle.hub_rows.specs.declared.records.Share.{Share}
use Rattle.hub_tables.specs.Kept.{Shares}
use Rattle.hub_tables.specs.State.{State}
use Rattle.hub_tables.proofs.tables.Tables.shares.Goals as goal

pub returns-clause-rows : goal.returns-clause-rows
returns-clause-rows c = c.values.ensures.rest ∙ sym (values_row total-law c.self.inside.trees.shares c.values.ensures.ordered) ∙ ap (λ (s : State). map.values s.shares) c.self.view_is

pub returns-clause-own : goal.returns-clause-own
returns-clause-own c = subst (λ (s : State). OwnKeys (λ (row : Share). row.key) s.shares) c.self.view_is (c.self.invariant Shares).own
