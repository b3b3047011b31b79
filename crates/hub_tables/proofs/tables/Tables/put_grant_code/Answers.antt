use Rattle.std.proofs.Common.{subst}
use Rattle.std.specs.Cmp.Lexicographic.{nat_list_cmp_total}
use Rattle.hub_kit.specs.KeyOrder.{name_cmp}
use Rattle.keyed_rows.specs.Puts.{IsAnswerIn}
use Rattle.keyed_rows.specs.Rows.{map_of}
use Rattle.keyed_rows.proofs.Finite.{own_put}
use Rattle.hub_rows.specs.declared.records.OAuthCode.{OAuthCode}
use Rattle.hub_tables.specs.Kept.{GrantCodes}
use Rattle.hub_rows.specs.ShareOrder.{names_exact}
use Rattle.hub_tables.proofs.Kept.{grant_codes_kept}
use Rattle.hub_tables.proofs.tables.Tables.put_grant_code.Goals as goal

pub invariant_of-self : goal.invariant_of-self
invariant_of-self c =
    grant_codes_kept c.self.inside.trees c.put.new.rows c.self.invariant (own_put nat_list_cmp_total names_exact (λ (row : OAuthCode). row.hash) _ _ c.args.value c.put.result c.put.ensures.ok c.put.ensures.err (c.self.invariant GrantCodes))

pub returns-clause-answer : goal.returns-clause-answer
returns-clause-answer c =
    rw (← c.self.view_is) (subst (λ room. IsAnswerIn room (map_of name_cmp c.self.inside.trees.grant_codes) c.args.value.hash c.put.result) c.room_of-room.ensures c.put.ensures.answer)
