use Rattle.std.specs.Cmp.{nat_cmp_total}
use Rattle.std.specs.FinMap.{nat_cmp-IsAntisymmetric}
use Rattle.keyed_rows.proofs.Finite.{own_removed}
use Rattle.hub_rows.specs.declared.records.Token.{Token}
use Rattle.hub_tables.specs.Kept.{Tokens}
use Rattle.hub_tables.proofs.Kept.{tokens_kept}
use Rattle.hub_tables.proofs.tables.Tables.remove_token.Goals as goal

pub remove_token-requires : goal.remove_token-requires
remove_token-requires c = record { indexed = (c.self.invariant Tokens).indexed; owned = (c.self.invariant Tokens).owned }

pub invariant_of-self : goal.invariant_of-self
invariant_of-self c =
    tokens_kept c.self.inside.trees c.remove_token.new.rows c.remove_token.new.ids c.remove_token.new.owners c.self.invariant (record {
      own = own_removed nat_cmp_total nat_cmp-IsAntisymmetric (λ (row : Token). row.id) _ _ c.args.id c.remove_token.ensures.removed (c.self.invariant Tokens).own;
      ordered = c.remove_token.ensures.ordered;
      indexed = c.remove_token.ensures.indexed;
      owned = c.remove_token.ensures.owned;
    })
