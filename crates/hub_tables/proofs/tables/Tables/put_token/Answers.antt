use Rattle.std.proofs.Common.{sym, subst}
use Rattle.std.specs.Ordering.{nat_cmp}
use Rattle.std.specs.Cmp.{nat_cmp_total}
use Rattle.std.specs.FinMap.{nat_cmp-IsAntisymmetric}
use Rattle.keyed_rows.specs.Puts.{IsAnswerIn}
use Rattle.keyed_rows.specs.Rows.{map_of}
use Rattle.keyed_rows.proofs.Finite.{own_put}
use Rattle.hub_rows.specs.declared.records.Token.{Token}
use Rattle.hub_tables.specs.Hashes.{FitsToken}
use Rattle.hub_tables.specs.Kept.{Tokens}
use Rattle.hub_tables.specs.State.{State}
use Rattle.hub_tables.proofs.Kept.{tokens_kept}
use Rattle.hub_tables.proofs.tables.Tables.put_token.Goals as goal

pub put_token-requires-clause-indexed : goal.put_token-requires-clause-indexed
put_token-requires-clause-indexed c = (c.self.invariant Tokens).indexed

pub put_token-requires-clause-owned : goal.put_token-requires-clause-owned
put_token-requires-clause-owned c = (c.self.invariant Tokens).owned

pub put_token-requires-clause-fits : goal.put_token-requires-clause-fits
put_token-requires-clause-fits c = subst (λ (s : State). FitsToken s.tokens c.args.value) (sym c.self.view_is) c.requires

pub invariant_of-self : goal.invariant_of-self
invariant_of-self c =
    tokens_kept c.self.inside.trees c.put_token.new.rows c.put_token.new.ids c.put_token.new.owners c.self.invariant (record {
      own = own_put nat_cmp_total nat_cmp-IsAntisymmetric (λ (row : Token). row.id) _ _ c.args.value c.put_token.result c.put_token.ensures.ok c.put_token.ensures.err (c.self.invariant Tokens).own;
      ordered = c.put_token.ensures.ordered;
      indexed = c.put_token.ensures.indexed;
      owned = c.put_token.ensures.owned;
    })

pub returns-clause-answer : goal.returns-clause-answer
returns-clause-answer c =
    rw (← c.self.view_is) (subst (λ room. IsAnswerIn room (map_of nat_cmp c.self.inside.trees.tokens) c.args.value.id c.put_token.result) c.room_of-room.ensures c.put_token.ensures.answer)
