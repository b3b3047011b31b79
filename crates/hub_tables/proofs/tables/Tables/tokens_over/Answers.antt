use Rattle.std.proofs.Common.{◌∙◌, ap, ℕ, List}
use Rattle.std.specs.Ordering.{nat_cmp}
use Rattle.std.specs.FinMap.{get, keys}
use Rattle.std.specs.List.{filter}
use Rattle.keyed_rows.specs.Rows.{map_of, is_kept_and}
use Rattle.row_indexes.specs.Owned.{owned_cmp, keys_under}
use Rattle.hub_tables.specs.Kept.{Tokens}
use Rattle.hub_tables.specs.Lookups.{tokens_over}
use Rattle.hub_tables.specs.Parties.{is_over_token_of, of_owner}
use Rattle.hub_tables.specs.State.{State}
use Rattle.row_indexes.proofs.Indexed.{if_ok}
use Rattle.hub_tables.proofs.Owners.{over_ids}
use Rattle.hub_tables.proofs.tables.Tables.tokens_over.Goals as goal

pub returns : goal.returns
returns c =
    let own_of : List ℕ → List ℕ = filter (λ id. is_kept_and (is_over_token_of (of_owner c.args.owner.now) c.args.now) (get (map_of nat_cmp c.self.inside.trees.tokens) id)) in
    if_ok c.own_ids_over.result (λ ids e.
    e ∙ ap own_of (c.deref.ensures.value ∙ c.in_ok-ids.ensures ∙ ap (λ n. keys_under nat_cmp n (keys (map_of (owned_cmp nat_cmp nat_cmp) c.self.inside.trees.token_owners))) c.owner_number.ensures)
    ∙ over_ids c.args.now _ _ (c.self.invariant Tokens).owned (c.self.invariant Tokens).own c.args.owner.now
    ∙ ap (λ (s : State). tokens_over s c.args.owner.now c.args.now) c.self.view_is)
    c.own_ids_over.ensures
