-- What is made of rows that were read, and of those that weren't.
use Rattle.std.proofs.Common.{◌≡◌, ◌≤◌, ℕ, zero, suc, List, [], ◌∷◌, slice_get, Some, None, inl, inr, sym, ap, subst, ◌∙◌}
use Rattle.std.specs.Prelude.{Result, Ok, Err, IfOk, IfErr, option_map}
use Rattle.scope_names.specs.declared.custom.CustomRow.{CustomRow}
use Rattle.hub_rows.specs.declared.limits.Limits.{Limits}
use Rattle.hub_rows.specs.declared.rows.Row.{Row}
use Rattle.hub_tables.specs.State.{State}
use Rattle.keeper.specs.declared.keeper.Row.{Row as KeptRow}
use Rattle.keeper.specs.Rows.{Rows, Lists}
use Rattle.kept_rows.specs.Reading.{kept_as, AreReadAs, AreReading}
use Rattle.record_texts.specs.declared.record.RowError.{RowError}
use Rattle.record_texts.specs.declared.record.RowError.TheVariants.{BadRow as Unread, Memory as Wanting}
use Rattle.row_rules.specs.Across.{kept_tables, sound_rows}
use Rattle.hub_opening.specs.Kept.{AreTables, AreTablesOf, AreLoaded, IsBadRow, IsSaid, AreLeasable}
use Rattle.hub_opening.specs.Opening.{IsUnread}
use Rattle.hub_opening.specs.declared.open_error.OpenError.{OpenError}
use Rattle.hub_opening.specs.declared.open_error.OpenError.TheVariants.{KeeperFault, BadRow, LostTarget, Full, Memory}
use Rattle.hub_opening.proofs.Sound.{kept_leasable}

-- ---- of what was listed

pub loaded : (limits : Limits) (scopes : List CustomRow) (Tells : Type 0) (has : Rows) (kept : List KeptRow) (r : Result State OpenError) → (Tells → Lists has kept) → AreTables limits scopes kept r
    → IfOk r (AreLoaded limits scopes Tells has)
loaded limits scopes Tells has kept (Ok t) listed tables = record { kept = kept; listed = listed; tables = tables }
loaded limits scopes Tells has kept (Err e) listed tables = tt

pub unloaded : (limits : Limits) (scopes : List CustomRow) (Tells : Type 0) (has : Rows) (before after : ℕ) (kept : List KeptRow) (r : Result State OpenError) → (Tells → Lists has kept) → AreTables limits scopes kept r
    → IfErr r (IsUnread limits scopes Tells has before after)
unloaded limits scopes Tells has before after kept (Ok t) listed tables = tt
unloaded limits scopes Tells has before after kept (Err KeeperFault) listed tables = absurd tables
unloaded limits scopes Tells has before after kept (Err (BadRow number name)) listed tables = record { kept = kept; listed = listed; bad = tables }
unloaded limits scopes Tells has before after kept (Err (LostTarget target)) listed tables = absurd tables
unloaded limits scopes Tells has before after kept (Err (Full number limit)) listed tables = absurd tables
unloaded limits scopes Tells has before after kept (Err Memory) listed tables = tt

-- ---- by themselves

pub unread : (limits : Limits) (scopes : List CustomRow) (kept : List KeptRow) (e : RowError) (said : OpenError) → AreReading kept (Err e) → IsSaid e said → AreTables limits scopes kept (Err said)
unread limits scopes kept (Unread number name) said first is = subst (λ (x : OpenError). AreTables limits scopes kept (Err x)) (sym is) (inl first)
unread limits scopes kept Wanting said first is = subst (λ (x : OpenError). AreTables limits scopes kept (Err x)) (sym is) tt

-- ---- by the rules across rows

none_some : {X : Type 0} {x : X} → None ≡ Some x → ⊥
none_some h = cc

read_at : (kept : List KeptRow) (rows : List Row) (i : ℕ) (row : Row) → AreReadAs kept rows → slice_get rows i ≡ Some row → slice_get kept i ≡ Some (kept_as row)
read_at kept [] i row are there = absurd (none_some there)
read_at [] (r ∷ rows) i row are there = absurd are
read_at (k ∷ kept) (r ∷ rows) zero row are there = ap Some (sym are.0.same) ∙ ap (option_map kept_as) there
read_at (k ∷ kept) (r ∷ rows) (suc i) row are there = read_at kept rows i row are.1 there

pub broken : (limits : Limits) (scopes : List CustomRow) (kept : List KeptRow) (rows : List Row) (place : ℕ) (row : Row) (e : OpenError) → AreReadAs kept rows
    → sound_rows (kept_tables limits scopes rows) rows ≡ place → slice_get rows place ≡ Some row → IsBadRow (kept_as row) e → AreTables limits scopes kept (Err e)
broken limits scopes kept rows place row KeeperFault are sound here is = absurd is
broken limits scopes kept rows place row (BadRow number name) are sound here is =
    inr (record {
      rows = rows;
      bad = kept_as row;
      read = are;
      there = ap (slice_get kept) sound ∙ read_at kept rows place row are here;
      kind = is.0;
      key = is.1;
    })
broken limits scopes kept rows place row (LostTarget target) are sound here is = absurd is
broken limits scopes kept rows place row (Full number limit) are sound here is = absurd is
broken limits scopes kept rows place row Memory are sound here is = tt

-- ---- what is true of such tables

pub loaded_leasable : (limits : Limits) (scopes : List CustomRow) (Tells : Type 0) (has : Rows) (t : State) → AreLoaded limits scopes Tells has t → AreLeasable t
loaded_leasable limits scopes Tells has t l = subst AreLeasable (sym l.tables.tables) (kept_leasable limits scopes l.tables.rows l.tables.sound)
