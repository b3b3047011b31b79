use Rattle.std.proofs.Common.{sym, subst}
use Rattle.std.specs.Ordering.{nat_cmp}
use Rattle.std.specs.Cmp.{nat_cmp_total}
use Rattle.std.specs.FinMap.{nat_cmp-IsAntisymmetric}
use Rattle.keyed_rows.specs.Puts.{IsAnswerIn}
use Rattle.keyed_rows.specs.Rows.{map_of}
use Rattle.keyed_rows.proofs.Finite.{own_put}
use Rattle.hub_rows.specs.declared.records.ShareCode.{ShareCode}
use Rattle.hub_tables.specs.Hashes.{FitsCode}
use Rattle.hub_tables.specs.Kept.{Codes}
use Rattle.hub_tables.specs.State.{State}
use Rattle.hub_tables.proofs.Kept.{codes_kept}
use Rattle.hub_tables.proofs.tables.Tables.put_code.Goals as goal

pub put_hashed-requires-clause-indexed : goal.put_hashed-requires-clause-indexed
put_hashed-requires-clause-indexed c = (c.self.invariant Codes).indexed

pub put_hashed-requires-clause-fits : goal.put_hashed-requires-clause-fits
put_hashed-requires-clause-fits c = (subst (λ (s : State). FitsCode s.codes c.args.value) (sym c.self.view_is) c.requires).hash

pub invariant_of-self : goal.invariant_of-self
invariant_of-self c =
    codes_kept c.self.inside.trees c.put_hashed.new.rows c.put_hashed.new.ids c.self.invariant (record {
      own = own_put nat_cmp_total nat_cmp-IsAntisymmetric (λ (row : ShareCode). row.id) _ _ c.args.value c.put_hashed.result c.put_hashed.ensures.ok c.put_hashed.ensures.err (c.self.invariant Codes).own;
      ordered = c.put_hashed.ensures.ordered;
      indexed = c.put_hashed.ensures.indexed;
    })

pub returns-clause-answer : goal.returns-clause-answer
returns-clause-answer c =
    rw (← c.self.view_is) (subst (λ room. IsAnswerIn room (map_of nat_cmp c.self.inside.trees.codes) c.args.value.id c.put_hashed.result) c.room_of-room.ensures c.put_hashed.ensures.answer)
