-- Look-ups of rows after a row is put or removed, whatever its kind.
use Rattle.std.proofs.Common.{◌≡◌, List, [], ◌∷◌, Option, Some, None, ◌⊎◌, inl, inr, sym, ap, ◌∙◌, refl}
use Rattle.std.specs.Prelude.{option_map}
use Rattle.std.specs.declared.cmp.Ordering.{Ordering}
use Rattle.std.specs.Cmp.{IsTotalOrder, nat_cmp_total}
use Rattle.std.specs.Cmp.Lexicographic.{nat_list_cmp_total}
use Rattle.std.specs.FinMap.{FinMap, get, remove, get-remove, same_map, IsAntisymmetric, nat_cmp-IsAntisymmetric}
use Rattle.hub_kit.specs.KeyOrder.{key_exact}
use Rattle.hub_kit.specs.contracts.names.ServerKeyOrd.TheImpl.Laws as server_key
use Rattle.keyed_rows.specs.Rows.{OwnKeys}
use Rattle.keyed_rows.proofs.Finite.{insert_same, insert_other, remove_other, remove_cases, same_or_apart}
use Rattle.hub_rows.specs.RowKeys.{key_of, key_in}
use Rattle.hub_rows.specs.ShareOrder.{names_exact, share_exact}
use Rattle.hub_rows.specs.contracts.keys.ShareKeyOrd.TheImpl.Laws as share_key
use Rattle.hub_rows.specs.declared.changes.RowChange.{RowChange}
use Rattle.hub_rows.specs.declared.changes.RowChange.TheVariants.{Put, Remove}
use Rattle.hub_rows.specs.declared.records.User.{User}
use Rattle.hub_rows.specs.declared.records.Group.{Group}
use Rattle.hub_rows.specs.declared.records.Service.{Service}
use Rattle.hub_rows.specs.declared.records.Role.{Role}
use Rattle.hub_rows.specs.declared.records.Token.{Token}
use Rattle.hub_rows.specs.declared.records.ServerRow.{ServerRow}
use Rattle.hub_rows.specs.declared.records.Share.{Share}
use Rattle.hub_rows.specs.declared.records.OAuthClient.{OAuthClient}
use Rattle.hub_rows.specs.declared.records.Next.{Next}
use Rattle.hub_rows.specs.declared.rows.Row.{Row}
use Rattle.hub_rows.specs.declared.rows.Row.TheVariants as Row
use Rattle.hub_rows.specs.declared.rows.RowKey.{RowKey}
use Rattle.hub_rows.specs.declared.rows.RowKey.TheVariants as RowKey
use Rattle.hub_tables.specs.Changes.{row_at, with_row, without_row, row_done, rows_done, put_or_remove}
use Rattle.hub_tables.specs.Own.{AreOwn}
use Rattle.hub_tables.specs.State.{State}

none_some : {X : Type 0} (x : X) → None ≡ Some x → ⊥
none_some x h = cc

some_one : {X : Type 0} (x y : X) → Some x ≡ Some y → x ≡ y
some_one x y h = cc

-- ---- one map

none_there : {X : Type 0} (at : Option X) → ((x : X) → at ≡ Some x → ⊥) → at ≡ None
none_there None h = refl
none_there (Some x) h = absurd (h x refl)

remove_same : {K X : Type 0} {R : K → K → Ordering} (o : IsTotalOrder R) (exact : IsAntisymmetric R) (m : FinMap R X) (k : K) → get (remove m k) k ≡ None
remove_same o exact m k = none_there (get (remove m k) k) (λ x at. (remove_cases o exact m k k x at).0 refl)

-- rows of a kind are one where they are one in the kind
unmapped : {X : Type 0} (of_kind : X → Row) → ((x y : X) → of_kind x ≡ of_kind y → x ≡ y) → (x y : Option X) → option_map of_kind x ≡ option_map of_kind y → x ≡ y
unmapped of_kind one None None h = refl
unmapped of_kind one None (Some y) h = absurd (none_some (of_kind y) h)
unmapped of_kind one (Some x) None h = absurd (none_some (of_kind x) (sym h))
unmapped of_kind one (Some x) (Some y) h = ap Some (one x y (some_one (of_kind x) (of_kind y) h))

-- ---- the tables

in_kind : {K : Type 0} (of_kind : K → RowKey) → ((a b : K) → of_kind a ≡ of_kind b → a ≡ b) → (a b : K) → (a ≡ b) ⊎ (a ≡ b → ⊥) → (of_kind a ≡ of_kind b) ⊎ (of_kind a ≡ of_kind b → ⊥)
in_kind of_kind one a b (inl e) = inl (ap of_kind e)
in_kind of_kind one a b (inr apart) = inr (λ e. apart (one a b e))

pub same_or_not : (a b : RowKey) → (a ≡ b) ⊎ (a ≡ b → ⊥)
same_or_not (RowKey.User a) (RowKey.User b) = in_kind RowKey.User (λ x y e. cc) a b (same_or_apart nat_list_cmp_total names_exact a b)
same_or_not (RowKey.Group a) (RowKey.Group b) = in_kind RowKey.Group (λ x y e. cc) a b (same_or_apart nat_list_cmp_total names_exact a b)
same_or_not (RowKey.Service a) (RowKey.Service b) = in_kind RowKey.Service (λ x y e. cc) a b (same_or_apart nat_list_cmp_total names_exact a b)
same_or_not (RowKey.Role a) (RowKey.Role b) = in_kind RowKey.Role (λ x y e. cc) a b (same_or_apart nat_list_cmp_total names_exact a b)
same_or_not (RowKey.Token a) (RowKey.Token b) = in_kind RowKey.Token (λ x y e. cc) a b (same_or_apart nat_cmp_total nat_cmp-IsAntisymmetric a b)
same_or_not (RowKey.ServerRow a) (RowKey.ServerRow b) = in_kind RowKey.ServerRow (λ x y e. cc) a b (same_or_apart server_key.total-law key_exact a b)
same_or_not (RowKey.Lease a) (RowKey.Lease b) = in_kind RowKey.Lease (λ x y e. cc) a b (same_or_apart nat_list_cmp_total names_exact a b)
same_or_not (RowKey.Share a) (RowKey.Share b) = in_kind RowKey.Share (λ x y e. cc) a b (same_or_apart share_key.total-law share_exact a b)
same_or_not (RowKey.ShareCode a) (RowKey.ShareCode b) = in_kind RowKey.ShareCode (λ x y e. cc) a b (same_or_apart nat_cmp_total nat_cmp-IsAntisymmetric a b)
same_or_not (RowKey.OAuthClient a) (RowKey.OAuthClient b) = in_kind RowKey.OAuthClient (λ x y e. cc) a b (same_or_apart nat_list_cmp_total names_exact a b)
same_or_not (RowKey.OAuthCode a) (RowKey.OAuthCode b) = in_kind RowKey.OAuthCode (λ x y e. cc) a b (same_or_apart nat_list_cmp_total names_exact a b)
same_or_not (RowKey.Next a) (RowKey.Next b) = in_kind RowKey.Next (λ x y e. cc) a b (same_or_apart nat_list_cmp_total names_exact a b)
same_or_not _ _ = inr (λ e. cc)

module _ (s : State) where
  -- a row that was put stands under its key, and all others stand where they stood
  pub put_same : (row : Row) → row_at (with_row row s) (key_of row) ≡ Some row
  put_same (Row.User row) = ap (option_map Row.User) (insert_same nat_list_cmp_total names_exact s.users row.name row)
  put_same (Row.Group row) = ap (option_map Row.Group) (insert_same nat_list_cmp_total names_exact s.groups row.name row)
  put_same (Row.Service row) = ap (option_map Row.Service) (insert_same nat_list_cmp_total names_exact s.services row.name row)
  put_same (Row.Role row) = ap (option_map Row.Role) (insert_same nat_list_cmp_total names_exact s.roles row.name row)
  put_same (Row.Token row) = ap (option_map Row.Token) (insert_same nat_cmp_total nat_cmp-IsAntisymmetric s.tokens row.id row)
  put_same (Row.ServerRow row) = ap (option_map Row.ServerRow) (insert_same server_key.total-law key_exact s.servers row.key row)
  put_same (Row.Lease row) = ap (option_map Row.Lease) (insert_same nat_list_cmp_total names_exact s.leases row.target row)
  put_same (Row.Share row) = ap (option_map Row.Share) (insert_same share_key.total-law share_exact s.shares row.key row)
  put_same (Row.ShareCode row) = ap (option_map Row.ShareCode) (insert_same nat_cmp_total nat_cmp-IsAntisymmetric s.codes row.id row)
  put_same (Row.OAuthClient row) = ap (option_map Row.OAuthClient) (insert_same nat_list_cmp_total names_exact s.clients row.id row)
  put_same (Row.OAuthCode row) = ap (option_map Row.OAuthCode) (insert_same nat_list_cmp_total names_exact s.grant_codes row.hash row)
  put_same (Row.Next row) = ap (option_map Row.Next) (insert_same nat_list_cmp_total names_exact s.nexts row.name row)

  pub put_other : (row : Row) (key : RowKey) → (key ≡ key_of row → ⊥) → row_at (with_row row s) key ≡ row_at s key
  put_other (Row.User row) (RowKey.User key) apart = ap (option_map Row.User) (insert_other nat_list_cmp_total names_exact s.users row.name row key (λ e. apart (ap RowKey.User e)))
  put_other (Row.Group row) (RowKey.Group key) apart = ap (option_map Row.Group) (insert_other nat_list_cmp_total names_exact s.groups row.name row key (λ e. apart (ap RowKey.Group e)))
  put_other (Row.Service row) (RowKey.Service key) apart = ap (option_map Row.Service) (insert_other nat_list_cmp_total names_exact s.services row.name row key (λ e. apart (ap RowKey.Service e)))
  put_other (Row.Role row) (RowKey.Role key) apart = ap (option_map Row.Role) (insert_other nat_list_cmp_total names_exact s.roles row.name row key (λ e. apart (ap RowKey.Role e)))
  put_other (Row.Token row) (RowKey.Token key) apart = ap (option_map Row.Token) (insert_other nat_cmp_total nat_cmp-IsAntisymmetric s.tokens row.id row key (λ e. apart (ap RowKey.Token e)))
  put_other (Row.ServerRow row) (RowKey.ServerRow key) apart = ap (option_map Row.ServerRow) (insert_other server_key.total-law key_exact s.servers row.key row key (λ e. apart (ap RowKey.ServerRow e)))
  put_other (Row.Lease row) (RowKey.Lease key) apart = ap (option_map Row.Lease) (insert_other nat_list_cmp_total names_exact s.leases row.target row key (λ e. apart (ap RowKey.Lease e)))
  put_other (Row.Share row) (RowKey.Share key) apart = ap (option_map Row.Share) (insert_other share_key.total-law share_exact s.shares row.key row key (λ e. apart (ap RowKey.Share e)))
  put_other (Row.ShareCode row) (RowKey.ShareCode key) apart = ap (option_map Row.ShareCode) (insert_other nat_cmp_total nat_cmp-IsAntisymmetric s.codes row.id row key (λ e. apart (ap RowKey.ShareCode e)))
  put_other (Row.OAuthClient row) (RowKey.OAuthClient key) apart = ap (option_map Row.OAuthClient) (insert_other nat_list_cmp_total names_exact s.clients row.id row key (λ e. apart (ap RowKey.OAuthClient e)))
  put_other (Row.OAuthCode row) (RowKey.OAuthCode key) apart = ap (option_map Row.OAuthCode) (insert_other nat_list_cmp_total names_exact s.grant_codes row.hash row key (λ e. apart (ap RowKey.OAuthCode e)))
  put_other (Row.Next row) (RowKey.Next key) apart = ap (option_map Row.Next) (insert_other nat_list_cmp_total names_exact s.nexts row.name row key (λ e. apart (ap RowKey.Next e)))
  put_other _ _ apart = refl

  -- no row stands under a key that was removed, and all others stand where they stood
  pub gone_same : (key : RowKey) → row_at (without_row key s) key ≡ None
  gone_same (RowKey.User key) = ap (option_map Row.User) (remove_same nat_list_cmp_total names_exact s.users key)
  gone_same (RowKey.Group key) = ap (option_map Row.Group) (remove_same nat_list_cmp_total names_exact s.groups key)
  gone_same (RowKey.Service key) = ap (option_map Row.Service) (remove_same nat_list_cmp_total names_exact s.services key)
  gone_same (RowKey.Role key) = ap (option_map Row.Role) (remove_same nat_list_cmp_total names_exact s.roles key)
  gone_same (RowKey.Token key) = ap (option_map Row.Token) (remove_same nat_cmp_total nat_cmp-IsAntisymmetric s.tokens key)
  gone_same (RowKey.ServerRow key) = ap (option_map Row.ServerRow) (remove_same server_key.total-law key_exact s.servers key)
  gone_same (RowKey.Lease key) = ap (option_map Row.Lease) (remove_same nat_list_cmp_total names_exact s.leases key)
  gone_same (RowKey.Share key) = ap (option_map Row.Share) (remove_same share_key.total-law share_exact s.shares key)
  gone_same (RowKey.ShareCode key) = ap (option_map Row.ShareCode) (remove_same nat_cmp_total nat_cmp-IsAntisymmetric s.codes key)
  gone_same (RowKey.OAuthClient key) = ap (option_map Row.OAuthClient) (remove_same nat_list_cmp_total names_exact s.clients key)
  gone_same (RowKey.OAuthCode key) = ap (option_map Row.OAuthCode) (remove_same nat_list_cmp_total names_exact s.grant_codes key)
  gone_same (RowKey.Next key) = ap (option_map Row.Next) (remove_same nat_list_cmp_total names_exact s.nexts key)

  pub gone_other : (gone key : RowKey) → (key ≡ gone → ⊥) → row_at (without_row gone s) key ≡ row_at s key
  gone_other (RowKey.User gone) (RowKey.User key) apart = ap (option_map Row.User) (remove_other nat_list_cmp_total names_exact s.users gone key (λ e. apart (ap RowKey.User e)))
  gone_other (RowKey.Group gone) (RowKey.Group key) apart = ap (option_map Row.Group) (remove_other nat_list_cmp_total names_exact s.groups gone key (λ e. apart (ap RowKey.Group e)))
  gone_other (RowKey.Service gone) (RowKey.Service key) apart = ap (option_map Row.Service) (remove_other nat_list_cmp_total names_exact s.services gone key (λ e. apart (ap RowKey.Service e)))
  gone_other (RowKey.Role gone) (RowKey.Role key) apart = ap (option_map Row.Role) (remove_other nat_list_cmp_total names_exact s.roles gone key (λ e. apart (ap RowKey.Role e)))
  gone_other (RowKey.Token gone) (RowKey.Token key) apart = ap (option_map Row.Token) (remove_other nat_cmp_total nat_cmp-IsAntisymmetric s.tokens gone key (λ e. apart (ap RowKey.Token e)))
  gone_other (RowKey.ServerRow gone) (RowKey.ServerRow key) apart = ap (option_map Row.ServerRow) (remove_other server_key.total-law key_exact s.servers gone key (λ e. apart (ap RowKey.ServerRow e)))
  gone_other (RowKey.Lease gone) (RowKey.Lease key) apart = ap (option_map Row.Lease) (remove_other nat_list_cmp_total names_exact s.leases gone key (λ e. apart (ap RowKey.Lease e)))
  gone_other (RowKey.Share gone) (RowKey.Share key) apart = ap (option_map Row.Share) (remove_other share_key.total-law share_exact s.shares gone key (λ e. apart (ap RowKey.Share e)))
  gone_other (RowKey.ShareCode gone) (RowKey.ShareCode key) apart = ap (option_map Row.ShareCode) (remove_other nat_cmp_total nat_cmp-IsAntisymmetric s.codes gone key (λ e. apart (ap RowKey.ShareCode e)))
  gone_other (RowKey.OAuthClient gone) (RowKey.OAuthClient key) apart = ap (option_map Row.OAuthClient) (remove_other nat_list_cmp_total names_exact s.clients gone key (λ e. apart (ap RowKey.OAuthClient e)))
  gone_other (RowKey.OAuthCode gone) (RowKey.OAuthCode key) apart = ap (option_map Row.OAuthCode) (remove_other nat_list_cmp_total names_exact s.grant_codes gone key (λ e. apart (ap RowKey.OAuthCode e)))
  gone_other (RowKey.Next gone) (RowKey.Next key) apart = ap (option_map Row.Next) (remove_other nat_list_cmp_total names_exact s.nexts gone key (λ e. apart (ap RowKey.Next e)))
  gone_other _ _ apart = refl

-- no change touches the limits and the custom scopes
abbrev pub IsFixedIn : State → State → Type 0
IsFixedIn s t = (t.limits ≡ s.limits) × (t.scopes ≡ s.scopes)

pub put_fixed : (row : Row) (s : State) → IsFixedIn s (with_row row s)
put_fixed (Row.User row) s = (refl, refl)
put_fixed (Row.Group row) s = (refl, refl)
put_fixed (Row.Service row) s = (refl, refl)
put_fixed (Row.Role row) s = (refl, refl)
put_fixed (Row.Token row) s = (refl, refl)
put_fixed (Row.ServerRow row) s = (refl, refl)
put_fixed (Row.Lease row) s = (refl, refl)
put_fixed (Row.Share row) s = (refl, refl)
put_fixed (Row.ShareCode row) s = (refl, refl)
put_fixed (Row.OAuthClient row) s = (refl, refl)
put_fixed (Row.OAuthCode row) s = (refl, refl)
put_fixed (Row.Next row) s = (refl, refl)

pub gone_fixed : (key : RowKey) (s : State) → IsFixedIn s (without_row key s)
gone_fixed (RowKey.User key) s = (refl, refl)
gone_fixed (RowKey.Group key) s = (refl, refl)
gone_fixed (RowKey.Service key) s = (refl, refl)
gone_fixed (RowKey.Role key) s = (refl, refl)
gone_fixed (RowKey.Token key) s = (refl, refl)
gone_fixed (RowKey.ServerRow key) s = (refl, refl)
gone_fixed (RowKey.Lease key) s = (refl, refl)
gone_fixed (RowKey.Share key) s = (refl, refl)
gone_fixed (RowKey.ShareCode key) s = (refl, refl)
gone_fixed (RowKey.OAuthClient key) s = (refl, refl)
gone_fixed (RowKey.OAuthCode key) s = (refl, refl)
gone_fixed (RowKey.Next key) s = (refl, refl)

-- ---- tables with the same rows are one

module _ (s t : State) (same : (key : RowKey) → row_at s key ≡ row_at t key) where
  users : s.users ≡ t.users
  users = same_map nat_list_cmp_total names_exact s.users t.users (λ q. unmapped Row.User (λ x y e. cc) (get s.users q) (get t.users q) (same (RowKey.User q)))

  groups : s.groups ≡ t.groups
  groups = same_map nat_list_cmp_total names_exact s.groups t.groups (λ q. unmapped Row.Group (λ x y e. cc) (get s.groups q) (get t.groups q) (same (RowKey.Group q)))

  services : s.services ≡ t.services
  services = same_map nat_list_cmp_total names_exact s.services t.services (λ q. unmapped Row.Service (λ x y e. cc) (get s.services q) (get t.services q) (same (RowKey.Service q)))

  roles : s.roles ≡ t.roles
  roles = same_map nat_list_cmp_total names_exact s.roles t.roles (λ q. unmapped Row.Role (λ x y e. cc) (get s.roles q) (get t.roles q) (same (RowKey.Role q)))

  tokens : s.tokens ≡ t.tokens
  tokens = same_map nat_cmp_total nat_cmp-IsAntisymmetric s.tokens t.tokens (λ q. unmapped Row.Token (λ x y e. cc) (get s.tokens q) (get t.tokens q) (same (RowKey.Token q)))

  servers : s.servers ≡ t.servers
  servers = same_map server_key.total-law key_exact s.servers t.servers (λ q. unmapped Row.ServerRow (λ x y e. cc) (get s.servers q) (get t.servers q) (same (RowKey.ServerRow q)))

  leases : s.leases ≡ t.leases
  leases = same_map nat_list_cmp_total names_exact s.leases t.leases (λ q. unmapped Row.Lease (λ x y e. cc) (get s.leases q) (get t.leases q) (same (RowKey.Lease q)))

  shares : s.shares ≡ t.shares
  shares = same_map share_key.total-law share_exact s.shares t.shares (λ q. unmapped Row.Share (λ x y e. cc) (get s.shares q) (get t.shares q) (same (RowKey.Share q)))

  codes : s.codes ≡ t.codes
  codes = same_map nat_cmp_total nat_cmp-IsAntisymmetric s.codes t.codes (λ q. unmapped Row.ShareCode (λ x y e. cc) (get s.codes q) (get t.codes q) (same (RowKey.ShareCode q)))

  clients : s.clients ≡ t.clients
  clients = same_map nat_list_cmp_total names_exact s.clients t.clients (λ q. unmapped Row.OAuthClient (λ x y e. cc) (get s.clients q) (get t.clients q) (same (RowKey.OAuthClient q)))

  grant_codes : s.grant_codes ≡ t.grant_codes
  grant_codes = same_map nat_list_cmp_total names_exact s.grant_codes t.grant_codes (λ q. unmapped Row.OAuthCode (λ x y e. cc) (get s.grant_codes q) (get t.grant_codes q) (same (RowKey.OAuthCode q)))

  nexts : s.nexts ≡ t.nexts
  nexts = same_map nat_list_cmp_total names_exact s.nexts t.nexts (λ q. unmapped Row.Next (λ x y e. cc) (get s.nexts q) (get t.nexts q) (same (RowKey.Next q)))

  pub same_tables : s.limits ≡ t.limits → s.scopes ≡ t.scopes → s ≡ t
  same_tables limits scopes = λ i. record {
    users = users i;
    groups = groups i;
    services = services i;
    roles = roles i;
    tokens = tokens i;
    servers = servers i;
    leases = leases i;
    shares = shares i;
    codes = codes i;
    clients = clients i;
    grant_codes = grant_codes i;
    nexts = nexts i;
    limits = limits i;
    scopes = scopes i;
  }

-- ---- rows under their own keys

-- the rows of a kind stand under their own keys where all rows of the tables do, and the other way round
module _ {K X : Type 0} {R : K → K → Ordering} (m : FinMap R X) (s : State) (of_key : K → RowKey) (of_row : X → Row) (key : X → K) (at : (q : K) → row_at s (of_key q) ≡ option_map of_row (get m q)) (own : (x : X) → key_of (of_row x) ≡ of_key (key x)) where
  pub own_kind : ((a b : K) → of_key a ≡ of_key b → a ≡ b) → AreOwn s → OwnKeys key m
  own_kind one h q x there = one (key x) q (sym (own x) ∙ h (of_key q) (of_row x) (at q ∙ ap (option_map of_row) there))

  kept_own : OwnKeys key m → (q : K) (x : Option X) → get m q ≡ x → (row : Row) → option_map of_row x ≡ Some row → key_of row ≡ of_key q
  kept_own h q None there row is = absurd (none_some row is)
  kept_own h q (Some x) there row is = sym (ap key_of (some_one (of_row x) row is)) ∙ own x ∙ ap of_key (h q x there)

  pub all_own : OwnKeys key m → (q : K) (row : Row) → row_at s (of_key q) ≡ Some row → key_of row ≡ of_key q
  all_own h q row is = kept_own h q (get m q) refl row (sym (at q) ∙ is)

-- ---- changes

pub done_other : (c : RowChange) (s : State) (key : RowKey) → (key ≡ key_in c → ⊥) → row_at (row_done c s) key ≡ row_at s key
done_other (Put row) s key apart = put_other s row key apart
done_other (Remove gone) s key apart = gone_other s gone key apart

pub done_fixed : (c : RowChange) (s : State) → IsFixedIn s (row_done c s)
done_fixed (Put row) s = put_fixed row s
done_fixed (Remove key) s = gone_fixed key s

pub rows_fixed : (rows : List RowChange) (s : State) → IsFixedIn s (rows_done rows s)
rows_fixed [] s = (refl, refl)
rows_fixed (c ∷ rest) s = let after = rows_fixed rest (row_done c s) in let here = done_fixed c s in (after.0 ∙ here.0, after.1 ∙ here.1)

-- a change that sets the row of a key: it is of that key, and then this row stands under it
module _ (key : RowKey) where
  pub set_key : (at : Option Row) → ((row : Row) → at ≡ Some row → key_of row ≡ key) → key_in (put_or_remove key at) ≡ key
  set_key None own = refl
  set_key (Some row) own = own row refl

  pub set_same : (at : Option Row) (s : State) → ((row : Row) → at ≡ Some row → key_of row ≡ key) → row_at (row_done (put_or_remove key at) s) key ≡ at
  set_same None s own = gone_same s key
  set_same (Some row) s own = ap (row_at (with_row row s)) (sym (own row refl)) ∙ put_same s row

-- ---- rows stay under their own keys

own_after : (c : RowChange) (s : State) → AreOwn s → AreOwn (row_done c s)
own_after (Put row) s own key x there = elim (same_or_not key (key_of row)) as (λ _. key_of x ≡ key) [
  | inl here ↦ ap key_of (sym (some_one row x (sym (put_same s row) ∙ ap (row_at (with_row row s)) (sym here) ∙ there))) ∙ sym here
  | inr apart ↦ own key x (sym (put_other s row key apart) ∙ there)
]
own_after (Remove gone) s own key x there = elim (same_or_not key gone) as (λ _. key_of x ≡ key) [
  | inl here ↦ absurd (none_some x (sym (gone_same s gone) ∙ ap (row_at (without_row gone s)) (sym here) ∙ there))
  | inr apart ↦ own key x (sym (gone_other s gone key apart) ∙ there)
]

pub rows_own : (rows : List RowChange) (s : State) → AreOwn s → AreOwn (rows_done rows s)
rows_own [] s own = own
rows_own (c ∷ rest) s own = rows_own rest (row_done c s) (own_after c s own)

-- ---- the rows of one kind

module _ (s : State) (own : AreOwn s) where
  pub own_users : OwnKeys (λ (row : User). row.name) s.users
  own_users = own_kind s.users s RowKey.User Row.User (λ row. row.name) (λ q. refl) (λ row. refl) (λ a b e. cc) own

  pub own_groups : OwnKeys (λ (row : Group). row.name) s.groups
  own_groups = own_kind s.groups s RowKey.Group Row.Group (λ row. row.name) (λ q. refl) (λ row. refl) (λ a b e. cc) own

  pub own_services : OwnKeys (λ (row : Service). row.name) s.services
  own_services = own_kind s.services s RowKey.Service Row.Service (λ row. row.name) (λ q. refl) (λ row. refl) (λ a b e. cc) own

  pub own_roles : OwnKeys (λ (row : Role). row.name) s.roles
  own_roles = own_kind s.roles s RowKey.Role Row.Role (λ row. row.name) (λ q. refl) (λ row. refl) (λ a b e. cc) own

  pub own_tokens : OwnKeys (λ (row : Token). row.id) s.tokens
  own_tokens = own_kind s.tokens s RowKey.Token Row.Token (λ row. row.id) (λ q. refl) (λ row. refl) (λ a b e. cc) own

  pub own_servers : OwnKeys (λ (row : ServerRow). row.key) s.servers
  own_servers = own_kind s.servers s RowKey.ServerRow Row.ServerRow (λ row. row.key) (λ q. refl) (λ row. refl) (λ a b e. cc) own

  pub own_shares : OwnKeys (λ (row : Share). row.key) s.shares
  own_shares = own_kind s.shares s RowKey.Share Row.Share (λ row. row.key) (λ q. refl) (λ row. refl) (λ a b e. cc) own

  pub own_clients : OwnKeys (λ (row : OAuthClient). row.id) s.clients
  own_clients = own_kind s.clients s RowKey.OAuthClient Row.OAuthClient (λ row. row.id) (λ q. refl) (λ row. refl) (λ a b e. cc) own

  pub own_nexts : OwnKeys (λ (row : Next). row.name) s.nexts
  own_nexts = own_kind s.nexts s RowKey.Next Row.Next (λ row. row.name) (λ q. refl) (λ row. refl) (λ a b e. cc) own
