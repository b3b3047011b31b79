-- The tables of kept rows are exactly what the keeper has.
use Rattle.std.proofs.Common.{◌≡◌, ℕ, List, [], ◌∷◌, map, Option, Some, None, ap, sym, subst, ◌∙◌, refl}
use Rattle.std.specs.Prelude.{option_map}
use Rattle.std.specs.Ordering.{nat_cmp}
use Rattle.std.specs.FinMap.{get-empty}
use Rattle.hub_kit.specs.KeyOrder.{name_cmp, key_cmp}
use Rattle.scope_names.specs.declared.custom.CustomRow.{CustomRow}
use Rattle.hub_rows.specs.ShareOrder.{share_cmp}
use Rattle.hub_rows.specs.declared.changes.RowChange.TheVariants as Change
use Rattle.hub_rows.specs.declared.limits.Limits.{Limits}
use Rattle.hub_rows.specs.declared.rows.Row.{Row}
use Rattle.hub_rows.specs.declared.rows.Row.TheVariants as Row
use Rattle.hub_rows.specs.declared.rows.RowKey.{RowKey}
use Rattle.hub_rows.specs.declared.rows.RowKey.TheVariants as RowKey
use Rattle.hub_tables.specs.Changes.{row_at, with_row}
use Rattle.hub_tables.specs.State.{State}
use Rattle.keeper.specs.declared.keeper.Item.{Item}
use Rattle.keeper.specs.declared.keeper.Item.TheVariants.{Put}
use Rattle.keeper.specs.declared.keeper.Row.{Row as KeptRow}
use Rattle.keeper.specs.Rows.{Rows, AreSame, Lists, after_item, after_items, rows_of, no_rows}
use Rattle.kept_rows.specs.Reading.{AreReadAs}
use Rattle.row_rules.specs.Across.{no_tables, rows_put, kept_tables}
use Rattle.hub_machine.specs.KeptRows.{Keeps}
use Rattle.hub_machine.proofs.KeptChanges.{row_kept, same_kept}
use Rattle.hub_opening.specs.Kept.{AreLoaded}

none_some : {X : Type 0} (x : X) → None ≡ Some x → ⊥
none_some x h = cc

pub nothing_there : (limits : Limits) (scopes : List CustomRow) (key : RowKey) → row_at (no_tables limits scopes) key ≡ None
nothing_there limits scopes (RowKey.User key) = ap (option_map Row.User) (get-empty name_cmp key)
nothing_there limits scopes (RowKey.Group key) = ap (option_map Row.Group) (get-empty name_cmp key)
nothing_there limits scopes (RowKey.Service key) = ap (option_map Row.Service) (get-empty name_cmp key)
nothing_there limits scopes (RowKey.Role key) = ap (option_map Row.Role) (get-empty name_cmp key)
nothing_there limits scopes (RowKey.Token key) = ap (option_map Row.Token) (get-empty nat_cmp key)
nothing_there limits scopes (RowKey.ServerRow key) = ap (option_map Row.ServerRow) (get-empty key_cmp key)
nothing_there limits scopes (RowKey.Lease key) = ap (option_map Row.Lease) (get-empty name_cmp key)
nothing_there limits scopes (RowKey.Share key) = ap (option_map Row.Share) (get-empty share_cmp key)
nothing_there limits scopes (RowKey.ShareCode key) = ap (option_map Row.ShareCode) (get-empty nat_cmp key)
nothing_there limits scopes (RowKey.OAuthClient key) = ap (option_map Row.OAuthClient) (get-empty name_cmp key)
nothing_there limits scopes (RowKey.OAuthCode key) = ap (option_map Row.OAuthCode) (get-empty name_cmp key)
nothing_there limits scopes (RowKey.Next key) = ap (option_map Row.Next) (get-empty name_cmp key)

pub no_row : (limits : Limits) (scopes : List CustomRow) (key : RowKey) (row : Row) → row_at (no_tables limits scopes) key ≡ Some row → ⊥
no_row limits scopes key row there = none_some row (sym (nothing_there limits scopes key) ∙ there)

nothing_kept : (limits : Limits) (scopes : List CustomRow) → Keeps no_rows (no_tables limits scopes)
nothing_kept limits scopes = record {
  exactly = λ kind name text. (λ is. absurd (none_some text is), λ x. absurd (no_row limits scopes x.key x.row x.there));
  keys = λ key row there. absurd (no_row limits scopes key row there);
}

-- rows that are put one after another are kept as the tables have them
puts_kept : (kept : List KeptRow) (rows : List Row) (has : Rows) (t : State) → AreReadAs kept rows → Keeps has t → Keeps (after_items (map Put kept) has) (rows_put rows t)
puts_kept [] [] has t are keeps = keeps
puts_kept [] (row ∷ rows) has t are keeps = absurd are
puts_kept (k ∷ kept) [] has t are keeps = absurd are
puts_kept (k ∷ kept) (row ∷ rows) has t are keeps =
    puts_kept kept rows (after_item (Put k) has) (with_row row t) are.1
    (subst (λ (one : KeptRow). Keeps (after_item (Put one) has) (with_row row t)) are.0.same (row_kept (Change.Put row) has t are.0.valid keeps))

-- what was listed, and reads as these rows, is what their tables hold
pub loaded_kept : (has : Rows) (kept : List KeptRow) (rows : List Row) (limits : Limits) (scopes : List CustomRow)
    → Lists has kept → AreReadAs kept rows → Keeps has (kept_tables limits scopes rows)
loaded_kept has kept rows limits scopes lists are =
    same_kept (rows_of kept) has (kept_tables limits scopes rows) (λ kind key. sym (lists.same kind key))
    (puts_kept kept rows no_rows (no_tables limits scopes) are (nothing_kept limits scopes))

-- so a keeper that tells its rows has those of the tables that were loaded from it
pub loaded_has : (limits : Limits) (scopes : List CustomRow) (Tells : Type 0) (has : Rows) (t : State) → AreLoaded limits scopes Tells has t → Tells → Keeps has t
loaded_has limits scopes Tells has t loaded tells =
    subst (Keeps has) (sym loaded.tables.tables) (loaded_kept has loaded.kept loaded.tables.rows limits scopes (loaded.listed tells) loaded.tables.read)
