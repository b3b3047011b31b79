-- What stands in tables that have all rows but some tokens and share codes, and how these are put.
use Rattle.std.proofs.Common.{◌≡◌, List, [], ◌∷◌, fold, refl, ap, sym, subst, ◌∙◌}
use Rattle.std.specs.Ordering.{nat_cmp}
use Rattle.std.specs.FinMap.{FinMap, empty}
use Rattle.hub_kit.specs.KeyOrder.{name_cmp}
use Rattle.hub_rows.specs.declared.rows.Row.{Row}
use Rattle.hub_rows.specs.declared.records.ShareCode.{ShareCode}
use Rattle.hub_rows.specs.declared.records.Token.{Token}
use Rattle.hub_rows.specs.declared.records.User.{User}
use Rattle.hub_tables.specs.Changes.{with_row}
use Rattle.hub_tables.specs.State.{State}
use Rattle.row_rules.specs.Across.{rows_put, stands}
use Rattle.row_rules.specs.Judged.{users_back, with_other, with_hashed, is_free, part_of, AreOthersPut, IsLedger}
use Rattle.row_rules.specs.declared.standing.Ledger.{Ledger}
use Rattle.row_rules.proofs.Users.{all_users}

-- ---- all rows but tokens and share codes

-- other users, tokens and share codes in the tables
abbrev swapped : State → FinMap name_cmp User → FinMap nat_cmp Token → FinMap nat_cmp ShareCode → State
swapped t users tokens codes = record t { users = users; tokens = tokens; codes = codes }

swapped_row : (row : Row) (t : State) (u : FinMap name_cmp User) (a : FinMap nat_cmp Token) (b : FinMap nat_cmp ShareCode)
    → with_other row (swapped t u a b) ≡ swapped (with_row row t) u a b
swapped_row (Row.User r) t u a b = refl
swapped_row (Row.Token k) t u a b = refl
swapped_row (Row.ShareCode c) t u a b = refl
swapped_row row t u a b = refl

swapped_rows : (rows : List Row) (t : State) (u : FinMap name_cmp User) (a : FinMap nat_cmp Token) (b : FinMap nat_cmp ShareCode)
    → fold (λ s row. with_other row s) (swapped t u a b) rows ≡ swapped (rows_put rows t) u a b
swapped_rows [] t u a b = refl
swapped_rows (row ∷ rows) t u a b = ap (λ s. fold (λ s row. with_other row s) s rows) (swapped_row row t u a b) ∙ swapped_rows rows (with_row row t) u a b

pub others_put : (rows : List Row) (t first after : State) → t.users ≡ empty → first ≡ record t { users = users_back rows t.users }
    → after ≡ fold (λ s row. with_other row s) first rows → AreOthersPut t rows after
others_put rows t first after bare users others =
    others ∙ ap (λ s. fold (λ s row. with_other row s) s rows) users
    ∙ swapped_rows rows t (users_back rows t.users) t.tokens t.codes
    ∙ ap (λ u. swapped (rows_put rows t) u t.tokens t.codes) (all_users rows t bare)

-- ---- and of those the ones of the first rows

pub part_more : (row : Row) (all first : State) → with_hashed row (part_of all first) ≡ part_of all (with_row row first)
part_more (Row.Token k) all first = refl
part_more (Row.ShareCode c) all first = refl
part_more row all first = refl

-- no rule asks for tokens or share codes
pub part_stands : (row : Row) (all first : State) → stands (part_of all first) row ≡ stands all row
part_stands (Row.Token k) all first = refl
part_stands row all first = refl

pub part_free : (row : Row) (all first : State) → is_free (part_of all first) row ≡ is_free first row
part_free (Row.Token k) all first = refl
part_free (Row.ShareCode c) all first = refl
part_free row all first = refl

ledger_with : (row : Row) (t : State) (ledger : Ledger) → IsLedger t ledger → IsLedger (with_hashed row t) ledger
ledger_with (Row.Token k) t ledger l = record { code = l.code; generation = l.generation; token = l.token; leased = l.leased }
ledger_with (Row.ShareCode c) t ledger l = record { code = l.code; generation = l.generation; token = l.token; leased = l.leased }
ledger_with row t ledger l = l

pub ledger_on : (row : Row) (t after : State) (ledger : Ledger) → after ≡ with_hashed row t → IsLedger t ledger → IsLedger after ledger
ledger_on row t after ledger put l = subst (λ s. IsLedger s ledger) (sym put) (ledger_with row t ledger l)
