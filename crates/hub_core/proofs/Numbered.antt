-- Numbers of tokens and of share codes: what a change has to keep of them, and that the changes of all answers keep it.
use Rattle.std.proofs.Common.{◌≡◌, ◌≤◌, ◌<◌, ◌+◌, ℕ, Bool, true, false, ◌||◌, cond, List, [], ◌∷◌, filter, All, Option, refl, sym, ◌∙◌, ap, subst, ◌⊎◌, inl, inr, codes, arith}
use Rattle.std.specs.Prelude.{Some, None}
use Rattle.std.specs.List.{list_any}
use Rattle.std.specs.Cmp.{nat_cmp_total, tied_itself}
use Rattle.std.specs.Cmp.Lexicographic.{nat_list_cmp_total}
use Rattle.std.specs.Ordering.{nat_cmp, is_eq, eq_by_cmp}
use Rattle.std.specs.FinMap.{FinMap, get, insert, remove, get-insert, get-remove, nat_cmp-IsAntisymmetric}
use Rattle.std.proofs.lemmas.List.Elements.{All-nil, All-cons, All-head, All-tail, All-filter}
use Rattle.keyed_rows.proofs.Finite.{tied}
use Rattle.hub_rows.specs.declared.changes.RowChange.{RowChange}
use Rattle.hub_rows.specs.declared.changes.RowChange.TheVariants.{Put, Remove}
use Rattle.hub_rows.specs.declared.rows.Row.TheVariants as Row
use Rattle.hub_rows.specs.declared.rows.RowKey.TheVariants as RowKey
use Rattle.hub_rows.specs.RowKeys.{is_put}
use Rattle.hub_rows.specs.declared.records.Next.{Next}
use Rattle.hub_rows.specs.declared.records.ShareCode.{ShareCode}
use Rattle.hub_rows.specs.declared.records.Token.{Token}
use Rattle.hub_tables.specs.Changes.{row_done, rows_done, puts_of, removals_of}
use Rattle.hub_tables.specs.Lookups.{number_of}
use Rattle.hub_tables.specs.State.{State}
use Rattle.keeper.specs.Rows.{Rows}
use Rattle.hub_machine.specs.Apply.{change_done, rows_of}
use Rattle.hub_machine.specs.State.{Hub}
use Rattle.hub_opening.specs.Kept.{with_generations}
use Rattle.hub_opening.specs.Opening.{next_token, added, token_row, IsSetUp}
use Rattle.hub_opening.specs.declared.config.ConfigToken.{ConfigToken}
use Rattle.hub_opening.specs.declared.config.HubConfig.{HubConfig}
use Rattle.hub_opening.proofs.Numbers.{given_numbered}
use Rattle.hub_opening.proofs.Opened.{configured_keeps}
use Rattle.hub_core.specs.Current.{AreNumbered, next_code}
use Rattle.hub_core.proofs.Calm.{IsCalm}
use Rattle.hub_machine.specs.declared.change.Change.{Change}

-- a token or a share code that is put has a number that was never given before, and that won't be given again
abbrev pub IsNumbered : (t t' : State) → RowChange → Type 0
IsNumbered t t' (Put (Row.Token k)) = (next_token t ≤ k.id) × (k.id < next_token t')
IsNumbered t t' (Put (Row.ShareCode c)) = (next_code t ≤ c.id) × (c.id < next_code t')
IsNumbered t t' _ = Unit {0}

-- all that a change has to keep: each token and each share code that it puts is new, and no number is given twice
pub record NumbersTokens (rows : List RowChange) (t : State) : Type 0 where
  pub each : All (IsNumbered t (change_done rows t)) rows
  pub rises : next_token t ≤ next_token (change_done rows t)
  pub codes_rise : next_code t ≤ next_code (change_done rows t)

abbrev pub NumbersIn : State → Option Change → Type 0
NumbersIn t None = Unit {0}
NumbersIn t (Some c) = NumbersTokens (rows_of c) t

-- ---- rows that put neither a token nor a share code, and change no next number

pub numbers : RowChange → Bool
numbers (Put (Row.Token row)) = true
numbers (Put (Row.ShareCode row)) = true
numbers (Put (Row.Next row)) = true
numbers (Remove (RowKey.Next key)) = true
numbers _ = false

pub none_numbered : IsCalm numbers
unfolding numbers
none_numbered = record {
  put_user = λ x. refl;
  remove_user = λ x. refl;
  put_group = λ x. refl;
  remove_group = λ x. refl;
  put_service = λ x. refl;
  remove_service = λ x. refl;
  put_role = λ x. refl;
  remove_role = λ x. refl;
  remove_token = λ x. refl;
  put_server = λ x. refl;
  put_share = λ x. refl;
  remove_server = λ x. refl;
  remove_share = λ x. refl;
  remove_code = λ x. refl;
  remove_client = λ x. refl;
  put_grant = λ x. refl;
  remove_grant = λ x. refl;
}

-- nor do the removal of a token or a share code, and the end of a lease
pub token_removed : (x : ℕ) → numbers (Remove (RowKey.Token x)) ≡ false
unfolding numbers
token_removed x = refl

pub code_removed : (x : ℕ) → numbers (Remove (RowKey.ShareCode x)) ≡ false
unfolding numbers
code_removed x = refl

pub lease_removed : (x : List ℕ) → numbers (Remove (RowKey.Lease x)) ≡ false
unfolding numbers
lease_removed x = refl

true_false : true ≡ false → ⊥
true_false h = cc

pub either : (a b : Bool) → (a || b) ≡ false → (a ≡ false) × (b ≡ false)
either true b h = absurd (true_false h)
either false b h = (refl, h)

pub neither : (a b : Bool) → a ≡ false → b ≡ false → (a || b) ≡ false
neither true b h k = h
neither false b h k = k

pub none_filtered : (q test : RowChange → Bool) (rows : List RowChange) → list_any test rows ≡ false → list_any test (filter q rows) ≡ false
none_filtered q test [] h = refl
none_filtered q test (r ∷ rows) h =
    let parts = either (test r) (list_any test rows) h in
    let rest = none_filtered q test rows parts.1 in
    elim (q r) as (λ b. list_any test (cond b (r ∷ filter q rows) (filter q rows)) ≡ false) [
      | true ↦ neither (test r) (list_any test (filter q rows)) parts.0 rest
      | false ↦ rest
    ]

next_same : (r : RowChange) (t : State) → numbers r ≡ false → (row_done r t).nexts ≡ t.nexts
unfolding numbers
next_same (Put (Row.Next row)) t h = absurd (true_false h)
next_same (Remove (RowKey.Next key)) t h = absurd (true_false h)
next_same _ t h = refl

pub nexts_same : (rows : List RowChange) (t : State) → list_any numbers rows ≡ false → (rows_done rows t).nexts ≡ t.nexts
nexts_same [] t h = refl
nexts_same (r ∷ rows) t h =
    let parts = either (numbers r) (list_any numbers rows) h in
    nexts_same rows (row_done r t) parts.1 ∙ next_same r t parts.0

is_numbered : (t t' : State) (r : RowChange) → numbers r ≡ false → IsNumbered t t' r
unfolding numbers
is_numbered t t' (Put (Row.Token k)) h = absurd (true_false h)
is_numbered t t' (Put (Row.ShareCode c)) h = absurd (true_false h)
is_numbered t t' _ h = tt

pub are_numbered : (t t' : State) (rows : List RowChange) → list_any numbers rows ≡ false → All (IsNumbered t t') rows
are_numbered t t' [] h = All-nil (IsNumbered t t')
are_numbered t t' (r ∷ rows) h =
    let parts = either (numbers r) (list_any numbers rows) h in
    All-cons (IsNumbered t t') r rows (is_numbered t t' r parts.0) (are_numbered t t' rows parts.1)

pub numbers_tokens : (rows : List RowChange) (t : State) → list_any numbers rows ≡ false → NumbersTokens rows t
numbers_tokens rows t h =
    let puts = rows_done (puts_of rows) t in
    let same : (change_done rows t).nexts ≡ t.nexts =
    nexts_same (removals_of rows) puts (none_filtered _ numbers rows h) ∙ nexts_same (puts_of rows) t (none_filtered is_put numbers rows h) in
    record {
      each = are_numbered t (change_done rows t) rows h;
      rises = let n : next_token t ≤ next_token t = omega arith in subst (λ m. next_token t ≤ number_of (get m (codes "token"))) (sym same) n;
      codes_rise = let n : next_code t ≤ next_code t = omega arith in subst (λ m. next_code t ≤ number_of (get m (codes "code"))) (sym same) n;
    }

-- ---- what a change that numbers its rows makes of them

none_some : {X : Type 0} (x : X) → None ≡ Some x → ⊥
none_some x h = cc

-- a row of a kind is one of those before, or has a number of the change
abbrev IsOldOr : {X : Type 0} → FinMap nat_cmp X → (low high id : ℕ) → X → Type 0
IsOldOr m low high id x = (get m id ≡ Some x) ⊎ ((low ≤ id) × (id < high))

put_step : {X : Type 0} (m : FinMap nat_cmp X) (low high own : ℕ) (row : X) (id : ℕ) (x : X) → (low ≤ own) × (own < high) → get (insert m own row) id ≡ Some x → IsOldOr m low high id x
put_step m low high own row id x new e = by_test (eq_by_cmp nat_cmp id own) refl (sym (get-insert nat_cmp_total m own row id) ∙ e)
  where
    by_test : (b : Bool) → eq_by_cmp nat_cmp id own ≡ b → cond b (Some row) (get m id) ≡ Some x → IsOldOr m low high id x
    by_test true same h = inr (subst (λ n. (low ≤ n) × (n < high)) (sym (nat_cmp-IsAntisymmetric id own (tied (nat_cmp id own) same))) new)
    by_test false same h = inl h

remove_step : {X : Type 0} (m : FinMap nat_cmp X) (low high key id : ℕ) (x : X) → get (remove m key) id ≡ Some x → IsOldOr m low high id x
remove_step m low high key id x e = by_test (eq_by_cmp nat_cmp id key) (sym (get-remove nat_cmp_total m key id) ∙ e)
  where
    by_test : (b : Bool) → cond b None (get m id) ≡ Some x → IsOldOr m low high id x
    by_test true h = absurd (none_some x h)
    by_test false h = inl h

token_step : (t0 t1 : State) (r : RowChange) (t : State) (id : ℕ) (k : Token) → IsNumbered t0 t1 r → get (row_done r t).tokens id ≡ Some k → IsOldOr t.tokens (next_token t0) (next_token t1) id k
token_step t0 t1 (Put (Row.Token row)) t id k new e = put_step t.tokens (next_token t0) (next_token t1) row.id row id k new e
token_step t0 t1 (Remove (RowKey.Token key)) t id k new e = remove_step t.tokens (next_token t0) (next_token t1) key id k e
token_step t0 t1 _ t id k new e = inl e

code_step : (t0 t1 : State) (r : RowChange) (t : State) (id : ℕ) (c : ShareCode) → IsNumbered t0 t1 r → get (row_done r t).codes id ≡ Some c → IsOldOr t.codes (next_code t0) (next_code t1) id c
code_step t0 t1 (Put (Row.ShareCode row)) t id c new e = put_step t.codes (next_code t0) (next_code t1) row.id row id c new e
code_step t0 t1 (Remove (RowKey.ShareCode key)) t id c new e = remove_step t.codes (next_code t0) (next_code t1) key id c e
code_step t0 t1 _ t id c new e = inl e

-- of tokens, and of share codes alike
module _ {X : Type 0} (table : State → FinMap nat_cmp X) (next : State → ℕ)
    (step : (t0 t1 : State) (r : RowChange) (t : State) (id : ℕ) (x : X) → IsNumbered t0 t1 r → get (table (row_done r t)) id ≡ Some x → IsOldOr (table t) (next t0) (next t1) id x) where
  after : (t0 t1 : State) (rows : List RowChange) (t : State) (id : ℕ) (x : X) → All (IsNumbered t0 t1) rows → get (table (rows_done rows t)) id ≡ Some x → IsOldOr (table t) (next t0) (next t1) id x
  after t0 t1 [] t id x new e = inl e
  after t0 t1 (r ∷ rows) t id x new e =
      elim (after t0 t1 rows (row_done r t) id x (All-tail (IsNumbered t0 t1) r rows new) e) as (λ _. IsOldOr (table t) (next t0) (next t1) id x) [
        | inl h ↦ step t0 t1 r t id x (All-head (IsNumbered t0 t1) r rows new) h
        | inr h ↦ inr h
      ]

  changed : (rows : List RowChange) (t : State) (id : ℕ) (x : X) → NumbersTokens rows t → get (table (change_done rows t)) id ≡ Some x → IsOldOr (table t) (next t) (next (change_done rows t)) id x
  changed rows t id x new e =
      let t' = change_done rows t in
      elim (after t t' (removals_of rows) (rows_done (puts_of rows) t) id x (All-filter _ (IsNumbered t t') rows new.each) e) as (λ _. IsOldOr (table t) (next t) (next t') id x) [
        | inl h ↦ after t t' (puts_of rows) t id x (All-filter is_put (IsNumbered t t') rows new.each) h
        | inr h ↦ inr h
      ]

  below_after : (rows : List RowChange) (t : State) → NumbersTokens rows t → next t ≤ next (change_done rows t) → ((id : ℕ) (x : X) → get (table t) id ≡ Some x → id < next t)
      → (id : ℕ) (x : X) → get (table (change_done rows t)) id ≡ Some x → id < next (change_done rows t)
  below_after rows t new more all id x e = elim (changed rows t id x new e) as (λ _. id < next (change_done rows t)) [
    | inl h ↦ let below : id < next t = all id x h in omega (arith, below, more)
    | inr h ↦ h.1
  ]

-- a token that was numbered before is the one of before
pub token_kept : (rows : List RowChange) (t : State) (id : ℕ) (k : Token) → NumbersTokens rows t → id < next_token t → get (change_done rows t).tokens id ≡ Some k → get t.tokens id ≡ Some k
token_kept rows t id k new below e = elim (changed (λ (t : State). t.tokens) next_token token_step rows t id k new e) as (λ _. get t.tokens id ≡ Some k) [
  | inl h ↦ h
  | inr h ↦ let not_below : next_token t ≤ id = h.0 in absurd (omega (arith, not_below, below))
]

pub numbered_after : (rows : List RowChange) (t : State) → NumbersTokens rows t → AreNumbered t → AreNumbered (change_done rows t)
numbered_after rows t new all = record {
  tokens = below_after (λ (t : State). t.tokens) next_token token_step rows t new new.rises all.tokens;
  codes = below_after (λ (t : State). t.codes) next_code code_step rows t new new.codes_rise all.codes;
}

-- ---- at opening

next_put : (now : ℕ) (k : ConfigToken) (t : State) → next_token (added now k t) ≡ next_token t + 1
next_put now k t =
    let name = codes "token" in
    ap number_of (get-insert nat_list_cmp_total t.nexts name (record { name = name; next = next_token t + 1 }) name
    ∙ ap (λ o. cond (is_eq o) (Some (record { name = name; next = next_token t + 1 })) (get t.nexts name)) (tied_itself nat_list_cmp_total name))

next_code_put : (now : ℕ) (k : ConfigToken) (t : State) → next_code (added now k t) ≡ next_code t
next_code_put now k t =
    let name = codes "token" in
    ap number_of (get-insert nat_list_cmp_total t.nexts name (record { name = name; next = next_token t + 1 }) (codes "code"))

added_numbered : (now : ℕ) (k : ConfigToken) (t : State) → AreNumbered t → AreNumbered (added now k t)
added_numbered now k t all = record {
  tokens = λ id row e. by_test id row (eq_by_cmp nat_cmp id (next_token t)) refl (sym (get-insert nat_cmp_total t.tokens (next_token t) (token_row (next_token t) now k) id) ∙ e);
  codes = λ id c e. let below : id < next_code t = all.codes id c e in let same : next_code (added now k t) ≡ next_code t = next_code_put now k t in omega (arith, below, same);
}
  where
    next : next_token (added now k t) ≡ next_token t + 1
    next = next_put now k t

    by_test : (id : ℕ) (row : Token) (b : Bool) → eq_by_cmp nat_cmp id (next_token t) ≡ b → cond b (Some (token_row (next_token t) now k)) (get t.tokens id) ≡ Some row → id < next_token (added now k t)
    by_test id row true same h = let a : id ≡ next_token t = nat_cmp-IsAntisymmetric id (next_token t) (tied (nat_cmp id (next_token t)) same) in omega (arith, a, next)
    by_test id row false same h = let below : id < next_token t = all.tokens id row h in omega (arith, below, next)

-- the same tokens, share codes and next numbers
numbered_too : (t t' : State) → t'.tokens ≡ t.tokens → t'.codes ≡ t.codes → t'.nexts ≡ t.nexts → AreNumbered t → AreNumbered t'
numbered_too t t' tokens share_codes nexts all = record {
  tokens = λ id k e. subst (λ m. id < number_of (get m (codes "token"))) (sym nexts) (all.tokens id k (ap (λ m. get m id) (sym tokens) ∙ e));
  codes = λ id c e. subst (λ m. id < number_of (get m (codes "code"))) (sym nexts) (all.codes id c (ap (λ m. get m id) (sym share_codes) ∙ e));
}

-- the opened tables, since those that were kept are
pub numbered_opened : (c : HubConfig) (now : ℕ) (Tells : Type 0) (has : Rows) (hub : Hub) → IsSetUp c now Tells has hub → AreNumbered hub.tables
numbered_opened c now Tells has hub is =
    let given = given_numbered c.limits c.custom_scopes Tells has is.kept is.loaded in
    subst (λ (h : Hub). AreNumbered h.tables) (sym is.hub)
    (configured_keeps AreNumbered c now (with_generations is.kept) (record {
      user = λ t u all. numbered_too t _ refl refl refl all;
      group = λ t g all. numbered_too t _ refl refl refl all;
      service = λ t v all. numbered_too t _ refl refl refl all;
      role = λ t r all. numbered_too t _ refl refl refl all;
      token = λ t k all. added_numbered now k t all;
    }) (record { tokens = given.tokens; codes = given.codes }))
