-- How the rows are put and judged.
use Rattle.std.specs.Prelude.{◌≡◌, ℕ, Bool, true, false, not, ◌&&◌, ◌||◌, List, [], ◌∷◌, length, slice_get, codes, Option, Some, None}
use Rattle.std.specs.Prelude.{Result, Ok, Err, if◌then◌else◌}
use Rattle.std.specs.Option.{is_some}
use Rattle.std.specs.Ordering.{nat_cmp}
use Rattle.std.specs.declared.cmp.Ordering.{Ordering}
use Rattle.std.specs.BTreeMap.{BTreeMap}
use Rattle.std.specs.FinMap.{FinMap, contains_key, empty, insert}
use Rattle.hub_kit.specs.KeyOrder.{name_cmp, key_cmp}
use Rattle.hub_kit.specs.declared.names.ServerKey.{ServerKey}
use Rattle.keyed_rows.specs.Rows.{map_of}
use Rattle.hub_rows.specs.declared.rows.Row.{Row}
use Rattle.hub_rows.specs.declared.records.ShareCode.{ShareCode}
use Rattle.hub_rows.specs.declared.records.Token.{Token}
use Rattle.hub_rows.specs.declared.records.User.{User}
use Rattle.hub_tables.specs.Changes.{with_row}
use Rattle.hub_tables.specs.Hashes.{row_with}
use Rattle.hub_tables.specs.Lookups.{next_of}
use Rattle.hub_tables.specs.State.{State}
use Rattle.row_rules.specs.Across.{rows_put, is_leased, stands, has, token_id, token_hash, code_id, code_hash}
use Rattle.row_rules.specs.Across.{leased_server, leased_generation, started_server, sound_rows}
use Rattle.row_rules.specs.declared.kept.RowsError.{RowsError}
use Rattle.row_rules.specs.declared.kept.RowsError.TheVariants.{Broken, Memory}
use Rattle.row_rules.specs.declared.standing.Ledger.{Ledger}
use Rattle.row_rules.specs.declared.seen.Seen.{Seen}

-- ---- putting

-- it is found by a hash
abbrev pub is_hashed : Row → Bool
is_hashed (Row.Token k) = true
is_hashed (Row.ShareCode c) = true
is_hashed _ = false

-- neither an id nor a hash is kept
abbrev pub are_free : {X : Type 0} → (X → List ℕ) → FinMap nat_cmp X → (id : ℕ) (hash : List ℕ) → Bool
are_free hash_of kept id hash = not (contains_key kept id || is_some (row_with hash_of hash kept))

-- neither its id nor its hash is kept, where it is found by one
abbrev pub is_free : State → Row → Bool
is_free t (Row.Token k) = are_free (λ row. row.hash) t.tokens k.id k.hash
is_free t (Row.ShareCode c) = are_free (λ row. row.hash) t.codes c.id c.hash
is_free t _ = true

abbrev pub is_user : Row → Bool
is_user (Row.User u) = true
is_user _ = false

-- a user is put where its name isn't kept
abbrev pub with_user : Row → FinMap name_cmp User → FinMap name_cmp User
with_user (Row.User u) users = if contains_key users u.name then users else insert users u.name u
with_user _ users = users

-- from the last row on
abbrev pub users_back : List Row → FinMap name_cmp User → FinMap name_cmp User
users_back [] users = users
users_back (row ∷ rows) users = with_user row (users_back rows users)

-- a row is put that is no user and isn't found by a hash
abbrev pub with_other : Row → State → State
with_other row t = if is_user row || is_hashed row then t else with_row row t

-- and one that is found by a hash
abbrev pub with_hashed : Row → State → State
with_hashed row t = if is_hashed row then with_row row t else t

-- the ids and the hashes of kept rows are those of these rows
pub record Holds {X : Type 0} (hash_of : X → List ℕ) (id : Row → Option ℕ) (hash : Row → Option (List ℕ)) (kept : FinMap nat_cmp X)
    (rows : List Row) : Type 0 where
  pub ids : (key : ℕ) → contains_key kept key ≡ has nat_cmp id rows key
  pub hashes : (key : List ℕ) → is_some (row_with hash_of key kept) ≡ has name_cmp hash rows key

pub record AreHeld (t : State) (rows : List Row) : Type 0 where
  pub tokens : Holds (λ (row : Token). row.hash) token_id token_hash t.tokens rows
  pub codes : Holds (λ (row : ShareCode). row.hash) code_id code_hash t.codes rows

-- no row is found by a hash yet, and there are no users
pub record IsBare (t : State) : Type 0 where
  pub users : t.users ≡ empty
  pub tokens : t.tokens ≡ empty
  pub codes : t.codes ≡ empty

-- the tables have all rows but for tokens and share codes, of which they have those of the first rows
abbrev pub part_of : (all first : State) → State
part_of all first = record all { tokens = first.tokens; codes = first.codes }

-- all rows are put but for tokens and share codes, of which there are none
abbrev pub AreOthersPut : State → List Row → State → Type 0
AreOthersPut t rows after = after ≡ part_of (rows_put rows t) t

-- ---- judging

-- the server stands in a set
abbrev pub is_in : BTreeMap ServerKey (Unit {0}) → ServerKey → Bool
is_in servers server = contains_key (map_of key_cmp servers) server

-- the ledger has the next numbers, and the servers of the leases
pub record IsLedger (t : State) (ledger : Ledger) : Type 0 where
  pub code : ledger.code ≡ next_of t (codes "code")
  pub generation : ledger.generation ≡ next_of t (codes "generation")
  pub token : ledger.token ≡ next_of t (codes "token")
  pub leased : (server : ServerKey) → is_in ledger.leased server ≡ is_leased t server

abbrev pub is_noted : {K : Type 0} {R : K → K → Ordering} → FinMap R (Unit {0}) → Option K → Bool
is_noted marks None = false
is_noted marks (Some key) = contains_key marks key

abbrev pub noted : {K : Type 0} {R : K → K → Ordering} → FinMap R (Unit {0}) → Option K → FinMap R (Unit {0})
noted marks None = marks
noted marks (Some key) = insert marks key tt

-- what stands in marks is what some row has
abbrev pub Tells : {K : Type 0} {R : K → K → Ordering} → (Row → Option K) → List Row → FinMap R (Unit {0}) → Type 0
Tells {K} {R} mark rows marks = (key : K) → contains_key marks key ≡ has R mark rows key

-- what was seen of rows
pub record HasSeen (seen : Seen) (rows : List Row) : Type 0 where
  pub servers : Tells leased_server rows (map_of key_cmp seen.servers)
  pub generations : Tells leased_generation rows (map_of nat_cmp seen.generations)
  pub started : Tells started_server rows (map_of key_cmp seen.started)

-- something that the row has was seen
abbrev pub was_seen : Seen → Row → Bool
was_seen seen row =
    is_noted (map_of key_cmp seen.servers) (leased_server row) || is_noted (map_of nat_cmp seen.generations) (leased_generation row)
    || is_noted (map_of key_cmp seen.started) (started_server row)

-- a row more was seen, which is the sole one or not
pub record IsAdded (seen : Seen) (row : Row) (sole : Bool) (after : Seen) : Type 0 where
  pub sole_is : sole ≡ not (was_seen seen row)
  pub servers : map_of key_cmp after.servers ≡ noted (map_of key_cmp seen.servers) (leased_server row)
  pub generations : map_of nat_cmp after.generations ≡ noted (map_of nat_cmp seen.generations) (leased_generation row)
  pub started : map_of key_cmp after.started ≡ noted (map_of key_cmp seen.started) (started_server row)

-- what a row has is noted, and nothing of it was before, it stands on the tables, and neither its id nor its hash is kept
pub record IsWeighed (t : State) (seen : Seen) (row : Row) (keeps : Bool) (after : Seen) : Type 0 where
  pub sole : Bool
  pub added : IsAdded seen row sole after
  pub keeps_is : keeps ≡ (sole && (stands t row && is_free t row))

-- ---- both

-- all rows were put, or the first that breaks a rule was found
abbrev pub IsTaken : State → List Row → Result (Unit {0}) RowsError → State → Type 0
IsTaken t rows (Ok _) after = (after ≡ rows_put rows t) × (sound_rows (rows_put rows t) rows ≡ length rows)
IsTaken t rows (Err (Broken place row)) after = (sound_rows (rows_put rows t) rows ≡ place) × (slice_get rows place ≡ Some row)
IsTaken t rows (Err Memory) after = Unit {0}
