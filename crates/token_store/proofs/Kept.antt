-- Tokens that stand under their ids, and which of them are over.
use Rattle.std.proofs.Common.{◌≡◌, ℕ, Bool, true, false, ◌&&◌, cond, List, [], ◌∷◌, map, refl, sym, ◌∙◌, ap, subst, T}
use Rattle.std.specs.Prelude.{Option, Some, None, Result, Ok, Err}
use Rattle.std.specs.Cmp.{nat_cmp_total, tied_itself}
use Rattle.std.specs.List.{filter}
use Rattle.std.specs.List as scan
use Rattle.std.specs.Ordering.{nat_cmp, is_lt, is_eq, eq_by_cmp}
use Rattle.std.specs.FinMap.{FinMap, get, values, entries, entries_sorted, get-entries, nat_cmp-IsAntisymmetric}
use Rattle.std.specs.FinMap.Entries.{is_sorted, below_all}
use Rattle.std.specs.FinMap.Entries as entry
use Rattle.hub_kit.specs.Hashes.{hash_text}
use Rattle.hub_kit.specs.KeyOrder.{name_cmp}
use Rattle.keyed_rows.proofs.Finite.{tied}
use Rattle.keyed_rows.specs.Rows.{OwnKeys}
use Rattle.hub_rows.specs.declared.records.Token.{Token}
use Rattle.hub_tables.proofs.RowsAt.{own_tokens}
use Rattle.hub_tables.specs.Ends.{is_over}
use Rattle.hub_rows.specs.ShareOrder.{names_exact}
use Rattle.hub_tables.specs.Lookups.{token_of_hash}
use Rattle.hub_tables.specs.Own.{AreOwn}
use Rattle.hub_tables.specs.State.{State}
use Rattle.token_store.specs.Finding.{find, in_time, until}
use Rattle.token_store.specs.declared.finding.TokenError.{TokenError}
use Rattle.token_store.specs.declared.finding.TokenError.TheVariants.{Expired}

abbrev some_or : {X : Type 0} → X → Option X → X
some_or x None = x
some_or x (Some y) = y

none_some : {X : Type 0} (x : X) → None ≡ Some x → ⊥
none_some x h = cc

first : (a b : Bool) → T (a && b) → T a
first true b p = tt
first false b p = p

second : (a b : Bool) → T (a && b) → T b
second true b p = p
second false b p = absurd p

not_true : (b : Bool) → (b ≡ true → ⊥) → b ≡ false
not_true true h = absurd (h refl)
not_true false h = refl

-- ---- each entry of a map is found at its key

abbrev Each : {X : Type 0} (P : X → Type 0) → List X → Type 0
Each P [] = Unit {0}
Each P (x ∷ xs) = P x × Each P xs

weaker : {X : Type 0} (P Q : X → Type 0) → ((x : X) → P x → Q x) → (xs : List X) → Each P xs → Each Q xs
weaker P Q f [] h = tt
weaker P Q f (x ∷ xs) h = (f x h.0, weaker P Q f xs h.1)

module _ {X : Type 0} where
  -- a key that stands among entries above another one isn't that
  apart : (x q : ℕ) (es : List (ℕ × X)) (v : X) → T (below_all nat_cmp x es) → entry.find nat_cmp q es ≡ Some v → eq_by_cmp nat_cmp q x ≡ false
  apart x q [] v s h = absurd (none_some v h)
  apart x q (e ∷ es) v s h = by_test (eq_by_cmp nat_cmp q e.0) refl h (apart x q es v (second (is_lt (nat_cmp x e.0)) (below_all nat_cmp x es) s))
    where
      by_test : (b : Bool) → eq_by_cmp nat_cmp q e.0 ≡ b → cond b (Some e.1) (entry.find nat_cmp q es) ≡ Some v → (entry.find nat_cmp q es ≡ Some v → eq_by_cmp nat_cmp q x ≡ false)
          → eq_by_cmp nat_cmp q x ≡ false
      by_test true eq h below = not_true (eq_by_cmp nat_cmp q x) (λ same.
          let a : q ≡ e.0 = nat_cmp-IsAntisymmetric q e.0 (tied (nat_cmp q e.0) eq) in
          let b : q ≡ x = nat_cmp-IsAntisymmetric q x (tied (nat_cmp q x) same) in
          subst T (ap (λ (y : ℕ). is_lt (nat_cmp x y)) (sym a ∙ b) ∙ ap is_lt (tied_itself nat_cmp_total x)) (first (is_lt (nat_cmp x e.0)) (below_all nat_cmp x es) s))
      by_test false eq h below = below h

  abbrev IsAt : List (ℕ × X) → ℕ × X → Type 0
  IsAt es e = entry.find nat_cmp e.0 es ≡ Some e.1

  each_at : (es : List (ℕ × X)) → T (is_sorted nat_cmp es) → Each (IsAt es) es
  each_at [] s = tt
  each_at (e ∷ es) s = (
    ap (λ r. cond (is_eq r) (Some e.1) (entry.find nat_cmp e.0 es)) (tied_itself nat_cmp_total e.0),
    weaker (IsAt es) (IsAt (e ∷ es)) (λ f at. ap (λ b. cond b (Some e.1) (entry.find nat_cmp f.0 es)) (apart e.0 f.0 es f.1 (first (below_all nat_cmp e.0 es) (is_sorted nat_cmp es) s) at) ∙ at)
        es (each_at es (second (below_all nat_cmp e.0 es) (is_sorted nat_cmp es) s)),
  )

  -- each row stands under its own key
  values_own : (key : X → ℕ) (m : FinMap nat_cmp X) → OwnKeys key m → Each (λ v. get m (key v) ≡ Some v) (values m)
  values_own key m own = of_entries (entries m) (each_at (entries m) (entries_sorted m))
    where
      of_entries : (es : List (ℕ × X)) → Each (IsAt (entries m)) es → Each (λ v. get m (key v) ≡ Some v) (map (λ e. e.1) es)
      of_entries [] h = tt
      of_entries (e ∷ es) h =
          let kept : get m e.0 ≡ Some e.1 = get-entries m e.0 ∙ h.0 in
          (ap (get m) (own e.0 e.1 kept) ∙ kept, of_entries es h.1)

  -- what a search finds is one of the rows, and passes
  found : (P : X → Type 0) (p : X → Bool) (v : X) (rows : List X) → Each P rows → scan.find p rows ≡ Some v → P v × (p v ≡ true)
  found P p v [] each h = absurd (none_some v h)
  found P p v (row ∷ rows) each h = by_test (p row) refl h (found P p v rows each.1)
    where
      by_test : (b : Bool) → p row ≡ b → cond b (Some row) (scan.find p rows) ≡ Some v → (scan.find p rows ≡ Some v → P v × (p v ≡ true)) → P v × (p v ≡ true)
      by_test true e h later =
          let same : row ≡ v = ap (some_or v) h in
          (subst P same each.0, sym (ap p same) ∙ e)
      by_test false e h later = later h

-- ---- whom a text finds

abbrev ok_or : ℕ → Result ℕ TokenError → ℕ
ok_or id (Ok found) = found
ok_or id (Err e) = id

err_ok : {e : TokenError} {id : ℕ} → Err e ≡ Ok id → ⊥
err_ok h = cc

until_ok : (now id found : ℕ) (end : Option ℕ) → until now found end ≡ Ok id → (found ≡ id) × (is_over now end ≡ false)
until_ok now id found None h = (ap (ok_or id) h, refl)
until_ok now id found (Some end) h = by_test (is_over now (Some end)) refl h
  where
    by_test : (b : Bool) → is_over now (Some end) ≡ b → cond b (Err (Expired end)) (Ok found) ≡ Ok id → (found ≡ id) × (is_over now (Some end) ≡ false)
    by_test true e h = absurd (err_ok h)
    by_test false e h = (ap (ok_or id) h, e)

pub finds_hash : (t : State) (text : List ℕ) (now id : ℕ) → AreOwn t → find t text now ≡ Ok id
    → (token : Token) × (get t.tokens id ≡ Some token) × (token.hash ≡ hash_text text) × (is_over now token.expires_at ≡ false)
finds_hash t text now id own h = of_row (token_of_hash t (hash_text text)) refl h
  where
    of_row : (row : Option Token) → token_of_hash t (hash_text text) ≡ row → in_time now row ≡ Ok id
        → (token : Token) × (get t.tokens id ≡ Some token) × (token.hash ≡ hash_text text) × (is_over now token.expires_at ≡ false)
    of_row None e h = absurd (err_ok h)
    of_row (Some k) e h =
        let good = until_ok now id k.id k.expires_at h in
        let at = found (λ (k : Token). get t.tokens k.id ≡ Some k) (λ (k : Token). eq_by_cmp name_cmp k.hash (hash_text text)) k (values t.tokens) (values_own (λ (k : Token). k.id) t.tokens (own_tokens t own)) e in
        (k, ap (get t.tokens) (sym good.0) ∙ at.0, names_exact k.hash (hash_text text) (tied (name_cmp k.hash (hash_text text)) at.1), good.1)
