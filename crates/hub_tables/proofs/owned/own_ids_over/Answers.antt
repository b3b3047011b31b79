use Rattle.std.proofs.Common.{◌≡◌, ◌+◌, ℕ, Bool, List, ◌++◌, drop, sym, ap, ◌∙◌}
use Rattle.std.specs.Option.{option_copied}
use Rattle.std.specs.FinMap.{get}
use Rattle.std.specs.List.{filter}
use Rattle.std.specs.Ordering.{nat_cmp}
use Rattle.keyed_rows.specs.Rows.{map_of, is_kept_and}
use Rattle.hub_tables.specs.Parties.{is_over_token_of, of_owner}
use Rattle.hub_tables.proofs.Picked.{passed_by, kept_too}
use Rattle.hub_tables.proofs.owned.own_ids_over.Goals.{then-is_over_token_of+in_ok-push, else-is_over_token_of}
use Rattle.hub_tables.proofs.owned.own_ids_over.Goals as goal

pub loop-id-preserved : goal.loop-id-preserved
loop-id-preserved c =
    let is_own : ℕ → Bool = λ id. is_kept_and (is_over_token_of (of_owner c.args.owner.now) c.args.now) (get (map_of nat_cmp c.args.rows.now) id) in
    let rest : List ℕ = filter is_own (drop (c.loop-id.id-index + 1) c.args.ids.now) in
    let told = c.is_over_token_of.ensures ∙ ap (λ p. is_kept_and (is_over_token_of p c.args.now) (option_copied c.row_at.result)) c.of_owner-party.ensures ∙ ap (is_kept_and (is_over_token_of (of_owner c.args.owner.now) c.args.now)) c.row_at.ensures in
    elim c.if-is_over_token_of.branch as (λ _. c.if-is_over_token_of.over.items ++ rest ≡ filter is_own c.args.ids.now) [
      | then-is_over_token_of+in_ok-push w ↦ ap (λ over. over.items ++ rest) w.over-is ∙ ap (λ ids. ids ++ rest) w.in_ok-push.ensures.items
          ∙ kept_too is_own c.args.ids.now c.loop-id.id-index 0 c.loop-id-test.true c.loop-id.over.items _ c.loop-id.invariant (sym told ∙ w.if-is_over_token_of.true)
      | else-is_over_token_of w ↦ ap (λ over. over.items ++ rest) w.over-is
          ∙ passed_by is_own c.args.ids.now c.loop-id.id-index 0 c.loop-id-test.true c.loop-id.over.items _ c.loop-id.invariant (sym told ∙ w.if-is_over_token_of.false)
    ]
