-- What the way back asks: its row is kept, so it takes no memory, and it may stand there.
use Rattle.std.proofs.Common.{◌≡◌, ℕ, true, List, Option, Some, None, Result, Ok, Err, IfOk, is_some, sym, ap, ◌∙◌, refl, subst, inl, inr}
use Rattle.std.specs.Prelude.{option_map}
use Rattle.std.specs.Ordering.{nat_cmp}
use Rattle.std.specs.Cmp.{nat_cmp_total}
use Rattle.std.specs.FinMap.{FinMap, get, insert, nat_cmp-IsAntisymmetric}
use Rattle.keyed_rows.proofs.Finite.{insert_same, insert_cases}
use Rattle.hub_rows.specs.RowKeys.{key_of, is_put}
use Rattle.hub_rows.specs.declared.changes.RowChange.{RowChange}
use Rattle.hub_rows.specs.declared.changes.RowChange.TheVariants.{Put, Remove}
use Rattle.hub_rows.specs.declared.rows.Row.{Row}
use Rattle.hub_rows.specs.declared.rows.Row.TheVariants as Row
use Rattle.hub_rows.specs.declared.rows.RowKey.{RowKey}
use Rattle.hub_rows.specs.declared.rows.RowKey.TheVariants as RowKey
use Rattle.hub_rows.specs.declared.records.Token.{Token}
use Rattle.hub_rows.specs.declared.records.ShareCode.{ShareCode}
use Rattle.hub_tables.specs.Changes.{row_at, with_row, row_done, has_row, put_or_remove, way_back, FitsKey, FitsRow}
use Rattle.hub_tables.specs.Hashes.{FitsHash, FitsToken, FitsCode}
use Rattle.hub_tables.specs.Own.{AreOwn}
use Rattle.hub_tables.specs.State.{State}
use Rattle.hub_tables.proofs.RowsAt.{put_same}

same_some : {X : Type 0} {x y : X} → Some x ≡ Some y → x ≡ y
same_some h = cc

-- ---- the row of its key is kept

kept_at : (s : State) (row : Row) → AreOwn s → (at : Option Row) → row_at s (key_of row) ≡ at → is_put (put_or_remove (key_of row) at) ≡ true
    → has_row (with_row row s) (put_or_remove (key_of row) at) ≡ true
kept_at s row own None is p = cc
kept_at s row own (Some x) is p = ap is_some (ap (row_at (with_row row s)) (own (key_of row) x is) ∙ put_same s row)

kept : (s : State) (c : RowChange) → AreOwn s → is_put c ≡ true → is_put (way_back s c) ≡ true → has_row (row_done c s) (way_back s c) ≡ true
kept s (Put row) own p = kept_at s row own (row_at s (key_of row)) refl
kept s (Remove key) own p = cc

-- ---- it may stand there

module _ {X : Type 0} (id_of : X → ℕ) (hash_of : X → List ℕ) (m : FinMap nat_cmp X) (v x : X) (fits : FitsHash id_of hash_of m v) (at : get m (id_of v) ≡ Some x) (same : id_of x ≡ id_of v) where
  stands : (row : X) → get (insert m (id_of v) v) (id_of x) ≡ Some row → v ≡ row
  stands row h = same_some (sym (insert_same nat_cmp_total nat_cmp-IsAntisymmetric m (id_of v) v) ∙ ap (get (insert m (id_of v) v)) (sym same) ∙ h)

  fits_back : FitsHash id_of hash_of (insert m (id_of v) v) x
  fits_back = record {
    no_other = λ id row h e. elim (insert_cases nat_cmp_total nat_cmp-IsAntisymmetric m (id_of v) v id row h) as (λ _. id ≡ id_of x) [
      | inl here ↦ here.0 ∙ sym same
      | inr other ↦ fits.no_other id row other.1 (e ∙ fits.same x at) ∙ sym same
    ];
    same = λ row h. ap hash_of (sym (stands row h)) ∙ sym (fits.same x at);
  }

token_back : (s : State) (v : Token) → FitsToken s.tokens v → ((x : Token) → get s.tokens v.id ≡ Some x → x.id ≡ v.id) → (at : Option Token) → get s.tokens v.id ≡ at
    → FitsRow (with_row (Row.Token v) s) (put_or_remove (RowKey.Token v.id) (option_map Row.Token at))
token_back s v fits own None at = tt
token_back s v fits own (Some x) at = record {
  hash = fits_back (λ (t : Token). t.id) (λ (t : Token). t.hash) s.tokens v x fits.hash at (own x at);
  owner = λ row h. ap (λ (t : Token). t.owner) (sym (stands (λ (t : Token). t.id) (λ (t : Token). t.hash) s.tokens v x fits.hash at (own x at) row h)) ∙ sym (fits.owner x at);
}

code_back : (s : State) (v : ShareCode) → FitsCode s.codes v → ((x : ShareCode) → get s.codes v.id ≡ Some x → x.id ≡ v.id) → (at : Option ShareCode) → get s.codes v.id ≡ at
    → FitsRow (with_row (Row.ShareCode v) s) (put_or_remove (RowKey.ShareCode v.id) (option_map Row.ShareCode at))
code_back s v fits own None at = tt
code_back s v fits own (Some x) at = record {
  hash = fits_back (λ (t : ShareCode). t.id) (λ (t : ShareCode). t.hash) s.codes v x fits.hash at (own x at);
  server = λ row h. ap (λ (t : ShareCode). t.server) (sym (stands (λ (t : ShareCode). t.id) (λ (t : ShareCode). t.hash) s.codes v x fits.hash at (own x at) row h)) ∙ sym (fits.server x at);
}

any_fits : {X : Type 0} (t : State) (key : RowKey) (of_kind : X → Row) → ((x : X) → FitsKey t (of_kind x)) → (at : Option X) → FitsRow t (put_or_remove key (option_map of_kind at))
any_fits t key of_kind f None = tt
any_fits t key of_kind f (Some x) = f x

-- the way back from a put that may stand may stand after it
fits_put : (s : State) (row : Row) → AreOwn s → FitsKey s row → FitsRow (with_row row s) (put_or_remove (key_of row) (row_at s (key_of row)))
fits_put s (Row.User row) own h = any_fits (with_row (Row.User row) s) (RowKey.User row.name) Row.User (λ x. tt) (get s.users row.name)
fits_put s (Row.Group row) own h = any_fits (with_row (Row.Group row) s) (RowKey.Group row.name) Row.Group (λ x. tt) (get s.groups row.name)
fits_put s (Row.Service row) own h = any_fits (with_row (Row.Service row) s) (RowKey.Service row.name) Row.Service (λ x. tt) (get s.services row.name)
fits_put s (Row.Role row) own h = any_fits (with_row (Row.Role row) s) (RowKey.Role row.name) Row.Role (λ x. tt) (get s.roles row.name)
fits_put s (Row.Token row) own h = token_back s row h (λ x at. same_token (own (RowKey.Token row.id) (Row.Token x) (ap (option_map Row.Token) at))) (get s.tokens row.id) refl
  where
    same_token : {a b : ℕ} → RowKey.Token a ≡ RowKey.Token b → a ≡ b
    same_token e = cc
fits_put s (Row.ServerRow row) own h = any_fits (with_row (Row.ServerRow row) s) (RowKey.ServerRow row.key) Row.ServerRow (λ x. tt) (get s.servers row.key)
fits_put s (Row.Lease row) own h = any_fits (with_row (Row.Lease row) s) (RowKey.Lease row.target) Row.Lease (λ x. tt) (get s.leases row.target)
fits_put s (Row.Share row) own h = any_fits (with_row (Row.Share row) s) (RowKey.Share row.key) Row.Share (λ x. tt) (get s.shares row.key)
fits_put s (Row.ShareCode row) own h = code_back s row h (λ x at. same_code (own (RowKey.ShareCode row.id) (Row.ShareCode x) (ap (option_map Row.ShareCode) at))) (get s.codes row.id) refl
  where
    same_code : {a b : ℕ} → RowKey.ShareCode a ≡ RowKey.ShareCode b → a ≡ b
    same_code e = cc
fits_put s (Row.OAuthClient row) own h = any_fits (with_row (Row.OAuthClient row) s) (RowKey.OAuthClient row.id) Row.OAuthClient (λ x. tt) (get s.clients row.id)
fits_put s (Row.OAuthCode row) own h = any_fits (with_row (Row.OAuthCode row) s) (RowKey.OAuthCode row.hash) Row.OAuthCode (λ x. tt) (get s.grant_codes row.hash)
fits_put s (Row.Next row) own h = any_fits (with_row (Row.Next row) s) (RowKey.Next row.name) Row.Next (λ x. tt) (get s.nexts row.name)

fits : (s : State) (c : RowChange) → AreOwn s → is_put c ≡ true → FitsRow s c → FitsRow (row_done c s) (way_back s c)
fits s (Put row) own p h = fits_put s row own h
fits s (Remove key) own p h = cc

-- ---- of what was made

pub kept_back : {E : Type 0} (s : State) (c : RowChange) → AreOwn s → (r : Result RowChange E) → IfOk r (λ back. back ≡ way_back s c) → IfOk r (λ back. is_put c ≡ true → is_put back ≡ true → has_row (row_done c s) back ≡ true)
kept_back s c own (Ok back) is = λ p q. ap (has_row (row_done c s)) is ∙ kept s c own p (ap is_put (sym is) ∙ q)
kept_back s c own (Err e) is = tt

pub fitting_back : {E : Type 0} (s : State) (c : RowChange) → AreOwn s → (r : Result RowChange E) → IfOk r (λ back. back ≡ way_back s c) → IfOk r (λ back. is_put c ≡ true → FitsRow s c → FitsRow (row_done c s) back)
fitting_back s c own (Ok back) is = λ p h. subst (FitsRow (row_done c s)) (sym is) (fits s c own p h)
fitting_back s c own (Err e) is = tt
