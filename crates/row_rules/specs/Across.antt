-- The rules across rows. Rows come in the order of kind and key. Each has to stand on the tables of all rows, and must not have what an
-- earlier row has, where no two rows may have it in common.
use Rattle.std.specs.Prelude.{◌≡◌, ℕ, ◌+◌, ◌^◌, Bool, true, false, not, ◌&&◌, ◌||◌, nat_lt, nat_le, List, [], ◌∷◌, ◌++◌, length, fold}
use Rattle.std.specs.Prelude.{codes, bytes_eq, slice_get, Option, Some, None, Result, Ok, Err, if◌then◌else◌}
use Rattle.std.specs.declared.cmp.Ordering.{Ordering}
use Rattle.std.specs.List.{list_any}
use Rattle.std.specs.Ordering.{nat_cmp, eq_by_cmp}
use Rattle.std.specs.FinMap.{empty, contains_key, values}
use Rattle.hub_kit.specs.KeyOrder.{name_cmp, key_cmp}
use Rattle.hub_kit.specs.declared.names.ServerKey.{ServerKey}
use Rattle.scope_names.specs.declared.custom.CustomRow.{CustomRow}
use Rattle.scope_filters.specs.declared.holder.Owner.{Owner}
use Rattle.scope_filters.specs.declared.holder.Owner.TheVariants.{User as OfUser, Service as OfService}
use Rattle.hub_rows.specs.declared.keys.Recipient.{Recipient}
use Rattle.hub_rows.specs.declared.keys.Recipient.TheVariants.{User as ToUser, Group as ToGroup}
use Rattle.hub_rows.specs.declared.limits.Limits.{Limits}
use Rattle.hub_rows.specs.declared.rows.Row.{Row}
use Rattle.hub_rows.specs.declared.records.Lease.{Lease}
use Rattle.hub_rows.specs.declared.records.Role.{Role}
use Rattle.hub_rows.specs.declared.records.Share.{Share}
use Rattle.hub_rows.specs.declared.records.ShareCode.{ShareCode}
use Rattle.hub_rows.specs.declared.records.Token.{Token}
use Rattle.hub_tables.specs.Changes.{with_row}
use Rattle.hub_tables.specs.Lookups.{next_of, has_server}
use Rattle.hub_tables.specs.State.{State}
use Rattle.row_rules.specs.declared.kept.RowsError.{RowsError}
use Rattle.row_rules.specs.declared.kept.RowsError.TheVariants.{Broken, Memory}

-- ---- the tables of rows

abbrev pub no_tables : Limits → List CustomRow → State
no_tables limits scopes = record {
  users = empty;
  groups = empty;
  services = empty;
  roles = empty;
  tokens = empty;
  servers = empty;
  leases = empty;
  shares = empty;
  codes = empty;
  clients = empty;
  grant_codes = empty;
  nexts = empty;
  limits = limits;
  scopes = scopes;
}

-- each row is put under its key
abbrev pub rows_put : List Row → State → State
rows_put rows t = fold (λ s row. with_row row s) t rows

-- these rows and no others
abbrev pub kept_tables : Limits → List CustomRow → List Row → State
kept_tables limits scopes rows = rows_put rows (no_tables limits scopes)

-- ---- what a row stands on, by the tables of all rows

abbrev pub has_owner : State → Owner → Bool
has_owner t (OfUser user) = contains_key t.users user
has_owner t (OfService service) = contains_key t.services service

abbrev pub has_recipient : State → Recipient → Bool
has_recipient t (ToUser user) = contains_key t.users user
has_recipient t (ToGroup group) = contains_key t.groups group

-- a number that was given out: from 1, and below the next of its kind
abbrev pub is_given_out : ℕ → ℕ → Bool
is_given_out n next = nat_lt 0 n && nat_lt n next

-- one of the leases is the server's
abbrev pub is_leased_by : List Lease → ServerKey → Bool
is_leased_by leases server = list_any (λ (l : Lease). eq_by_cmp key_cmp server l.server) leases

abbrev pub is_leased : State → ServerKey → Bool
is_leased t server = is_leased_by (values t.leases) server

-- the server that a token was made for at its start: such a token has no client
abbrev pub started_by : (client : Option (List ℕ)) → (issued_for : Option ServerKey) → Option ServerKey
started_by None issued_for = issued_for
started_by (Some client) issued_for = None

abbrev pub is_leased_or_none : State → Option ServerKey → Bool
is_leased_or_none t None = true
is_leased_or_none t (Some server) = is_leased t server

-- leases of the first schema have no generation
abbrev pub is_given_or_none : Option ℕ → ℕ → Bool
is_given_or_none None next = true
is_given_or_none (Some generation) next = is_given_out generation next

-- these two roles every hub has, and they are no rows
abbrev pub role_stands : Role → Bool
role_stands r = not (bytes_eq r.name (codes "user") || bytes_eq r.name (codes "admin"))

abbrev pub token_stands : State → Token → Bool
token_stands t k =
    is_given_out k.id (next_of t (codes "token")) && has_owner t k.owner && is_leased_or_none t (started_by k.client k.issued_for)

-- the server's own row is kept, also that of a default server
abbrev pub lease_stands : State → Lease → Bool
lease_stands t l = contains_key t.servers l.server && is_given_or_none l.generation (next_of t (codes "generation"))

abbrev pub share_stands : State → Share → Bool
share_stands t s = has_server t s.key.server && has_recipient t s.key.to

abbrev pub code_stands : State → ShareCode → Bool
code_stands t c = is_given_out c.id (next_of t (codes "code")) && has_server t c.server

abbrev pub stands : State → Row → Bool
stands t (Row.Role r) = role_stands r
stands t (Row.Token k) = token_stands t k
stands t (Row.ServerRow r) = contains_key t.users r.key.user
stands t (Row.Lease l) = lease_stands t l
stands t (Row.Share s) = share_stands t s
stands t (Row.ShareCode c) = code_stands t c
stands t (Row.OAuthCode c) = contains_key t.users c.owner
stands t (Row.Next n) = nat_lt 0 n.next && nat_le n.next (2 ^ 61)
stands t _ = true

-- ---- what no two rows have in common

abbrev pub token_id : Row → Option ℕ
token_id (Row.Token k) = Some k.id
token_id _ = None

abbrev pub token_hash : Row → Option (List ℕ)
token_hash (Row.Token k) = Some k.hash
token_hash _ = None

abbrev pub code_id : Row → Option ℕ
code_id (Row.ShareCode c) = Some c.id
code_id _ = None

abbrev pub code_hash : Row → Option (List ℕ)
code_hash (Row.ShareCode c) = Some c.hash
code_hash _ = None

abbrev pub leased_server : Row → Option ServerKey
leased_server (Row.Lease l) = Some l.server
leased_server _ = None

abbrev pub leased_generation : Row → Option ℕ
leased_generation (Row.Lease l) = l.generation
leased_generation _ = None

-- a server has one token of its start
abbrev pub started_server : Row → Option ServerKey
started_server (Row.Token k) = started_by k.client k.issued_for
started_server _ = None

abbrev pub is_this : {K : Type 0} → (K → K → Ordering) → K → Option K → Bool
is_this R key None = false
is_this R key (Some other) = eq_by_cmp R key other

-- some row has this
abbrev pub has : {K : Type 0} → (K → K → Ordering) → (Row → Option K) → List Row → K → Bool
has R mark rows key = list_any (λ row. is_this R key (mark row)) rows

abbrev pub has_any : {K : Type 0} → (K → K → Ordering) → (Row → Option K) → List Row → Option K → Bool
has_any R mark rows None = false
has_any R mark rows (Some key) = has R mark rows key

-- a row has what an earlier one has
abbrev pub repeats : {K : Type 0} → (K → K → Ordering) → (Row → Option K) → (before : List Row) → Row → Bool
repeats R mark before row = has_any R mark before (mark row)

-- an earlier token has its id or its hash, or an earlier share code has. A keeper has each key once, so that the hash alone can be taken
abbrev pub is_taken : (before : List Row) → Row → Bool
is_taken before row =
    repeats nat_cmp token_id before row || repeats name_cmp token_hash before row
    || repeats nat_cmp code_id before row || repeats name_cmp code_hash before row

abbrev pub is_new : (before : List Row) → Row → Bool
is_new before row = not (is_taken before row)

-- an earlier lease is of its server or of its generation, or an earlier token was made for its server at a start
abbrev pub is_doubled : (before : List Row) → Row → Bool
is_doubled before row =
    repeats key_cmp leased_server before row || repeats nat_cmp leased_generation before row || repeats key_cmp started_server before row

abbrev pub is_sole : (before : List Row) → Row → Bool
is_sole before row = not (is_doubled before row)

-- ---- all rules

abbrev pub keeps_rules : (all : State) → (before : List Row) → Row → Bool
keeps_rules all before row = is_new before row && (is_sole before row && stands all row)

-- how many rows come before the first that fails a test of it and of those before it
abbrev pub passing : (List Row → Row → Bool) → (before rows : List Row) → ℕ
passing test before [] = 0
passing test before (row ∷ rows) = if test before row then 1 + passing test (before ++ row ∷ []) rows else 0

-- how many rows come before the first that breaks a rule
abbrev pub sound_rows : (all : State) → List Row → ℕ
sound_rows all rows = passing (keeps_rules all) [] rows

-- the tables of all rows where each keeps the rules, else the place of the first that doesn't
abbrev pub IsAnswerOf : (all : State) → List Row → Result State RowsError → Type 0
IsAnswerOf all rows (Ok tables) = (tables ≡ all) × (sound_rows all rows ≡ length rows)
IsAnswerOf all rows (Err (Broken place row)) = (sound_rows all rows ≡ place) × (slice_get rows place ≡ Some row)
IsAnswerOf all rows (Err Memory) = Unit {0}

abbrev pub IsAnswer : Limits → List CustomRow → List Row → Result State RowsError → Type 0
IsAnswer limits scopes rows answer = IsAnswerOf (kept_tables limits scopes rows) rows answer
