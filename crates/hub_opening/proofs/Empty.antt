-- Over a keeper without rows a hub begins with its configuration alone.
use Rattle.std.proofs.Common.{◌≡◌, ℕ, Bool, true, false, cond, List, [], ◌∷◌, map, length, Option, Some, None, refl, sym, ap, subst, ◌∙◌, arith}
use Rattle.std.specs.Prelude.{fold, is_some}
use Rattle.std.specs.FinMap.{empty, entries, values, len-entries, len-empty}
use Rattle.hub_kit.specs.KeyOrder.{name_cmp}
use Rattle.scope_names.specs.declared.custom.CustomRow.{CustomRow}
use Rattle.hub_rows.specs.declared.limits.Limits.{Limits}
use Rattle.hub_rows.specs.declared.records.Lease.{Lease}
use Rattle.hub_rows.specs.declared.rows.Row.{Row}
use Rattle.hub_tables.specs.State.{State}
use Rattle.keeper.specs.declared.keeper.Item.TheVariants.{Put}
use Rattle.keeper.specs.declared.keeper.Row.{Row as KeptRow}
use Rattle.keeper.specs.Rows.{Rows, AreSame, Lists, is_at, after_item, after_items, no_rows}
use Rattle.keeper.proofs.Places.{at_itself}
use Rattle.kept_rows.specs.Reading.{AreReadAs}
use Rattle.row_rules.specs.Across.{no_tables, kept_tables}
use Rattle.hub_machine.specs.State.{Hub}
use Rattle.hub_opening.specs.Kept.{AreLoaded, adopted, generation_given, lives_in, targets_of, with_generations}
use Rattle.hub_opening.specs.Opening.{configured, opened, opened_tables}
use Rattle.hub_opening.specs.declared.config.HubConfig.{HubConfig}
use Rattle.hub_opening.proofs.Opened.{configured_leases}

-- ---- nothing is listed

some_after : (kept : List KeptRow) (has : Rows) (kind : ℕ) (name : List ℕ) → is_some (has kind name) ≡ true → is_some (after_items (map Put kept) has kind name) ≡ true
some_after [] has kind name h = h
some_after (k ∷ kept) has kind name h = some_after kept (after_item (Put k) has) kind name (by (is_at k.kind k.key kind name))
  where
    by : (b : Bool) → is_some (cond b (Some k.text) (has kind name)) ≡ true
    by true = refl
    by false = h

none_some : (b : Bool) → b ≡ true → b ≡ false → ⊥
none_some b h k = cc

nothing_listed : (has : Rows) (kept : List KeptRow) → AreSame has no_rows → Lists has kept → kept ≡ []
nothing_listed has [] none lists = refl
nothing_listed has (k ∷ kept) none lists =
    let there = some_after kept (after_item (Put k) no_rows) k.kind k.key (ap (λ b. is_some (cond b (Some k.text) (no_rows k.kind k.key))) (at_itself k.kind k.key)) in
    absurd (none_some _ there (ap is_some (lists.same k.kind k.key ∙ none k.kind k.key)))

nothing_read : (kept : List KeptRow) (rows : List Row) → AreReadAs kept rows → kept ≡ [] → rows ≡ []
nothing_read [] [] are e = refl
nothing_read [] (row ∷ rows) are e = absurd are
nothing_read (k ∷ kept) rows are e = absurd cc

pub nothing_loaded : (limits : Limits) (scopes : List CustomRow) (Tells : Type 0) (has : Rows) (t : State) → AreLoaded limits scopes Tells has t → Tells → AreSame has no_rows → t ≡ no_tables limits scopes
nothing_loaded limits scopes Tells has t loaded tells none =
    loaded.tables.tables
    ∙ ap (kept_tables limits scopes) (nothing_read loaded.kept loaded.tables.rows loaded.tables.read (nothing_listed has loaded.kept none (loaded.listed tells)))

-- ---- no lease, and no live server

none_left : {A : Type 0} (es : List A) → length es ≡ 0 → es ≡ []
none_left [] h = refl
none_left (e ∷ es) h = absurd (omega (arith, h))

no_leases : values (empty {K = List ℕ} {X = Lease} {R = name_cmp}) ≡ []
no_leases = ap (λ es. map (λ e. e.1) es) (none_left (entries empty) (sym (len-entries empty) ∙ len-empty name_cmp Lease))

pub none_given : (t : State) → t.leases ≡ empty → with_generations t ≡ t
none_given t e = ap (λ ls. fold generation_given t (map (λ (l : Lease). l.target) ls)) (ap values e ∙ no_leases)

pub none_adopted : (t : State) → t.leases ≡ empty → lives_in t ≡ empty
none_adopted t e = ap (λ ls. fold adopted empty ls) (ap values e ∙ no_leases)

-- the state of the configuration alone
pub opened_alone : (c : HubConfig) (now : ℕ) → opened c now (no_tables c.limits c.custom_scopes)
    ≡ record { tables = configured c now (no_tables c.limits c.custom_scopes); lives = empty; length = 0; cost = 0; pool = c.pool; hub_url = c.hub_url; no_trail = c.no_trail }
opened_alone c now =
    let tables : opened_tables c now (no_tables c.limits c.custom_scopes) ≡ configured c now (no_tables c.limits c.custom_scopes) = ap (configured c now) (none_given (no_tables c.limits c.custom_scopes) refl) in
    let lives = ap lives_in tables ∙ none_adopted (configured c now (no_tables c.limits c.custom_scopes)) (configured_leases c now (no_tables c.limits c.custom_scopes)) in
    λ i. record { tables = tables i; lives = lives i; length = 0; cost = 0; pool = c.pool; hub_url = c.hub_url; no_trail = c.no_trail }
