-- Marks in a set are those that rows have.
use Rattle.std.proofs.Common.{◌≡◌, Bool, true, false, not, cond, ◌||◌, List, [], ◌∷◌, ◌++◌, Option, Some, None, is_some, refl, ap, sym, ◌∙◌}
use Rattle.std.proofs.lemmas.List.Folds.{list_any-append}
use Rattle.std.specs.declared.cmp.Ordering.{Ordering}
use Rattle.std.specs.Cmp.{IsTotalOrder, nat_cmp_total}
use Rattle.std.specs.Ordering.{nat_cmp, eq_by_cmp}
use Rattle.std.specs.BTreeMap.{BTreeMap}
use Rattle.std.specs.FinMap.{FinMap, get, insert, contains_key, empty, from_entries, get-insert, get-empty}
use Rattle.hub_kit.specs.KeyOrder.{key_cmp}
use Rattle.hub_kit.specs.contracts.names.ServerKeyOrd.TheImpl.Laws as server_key
use Rattle.hub_kit.specs.declared.names.ServerKey.{ServerKey}
use Rattle.keyed_rows.specs.Rows.{map_of}
use Rattle.hub_rows.specs.declared.records.Lease.{Lease}
use Rattle.hub_rows.specs.declared.rows.Row.{Row}
use Rattle.row_rules.specs.Across.{is_this, is_leased_by, has, has_any, is_sole, leased_server, leased_generation, started_server}
use Rattle.row_rules.specs.Judged.{is_noted, noted, Tells, HasSeen, IsAdded}
use Rattle.row_rules.specs.declared.seen.Seen.{Seen}

pub or_none : (b : Bool) → b ≡ (b || false)
or_none true = refl
or_none false = refl

pub or_joined : (a b c : Bool) → (a || (b || c)) ≡ ((a || b) || c)
or_joined true b c = refl
or_joined false b c = refl

-- ---- rows that have a mark

module _ {K : Type 0} (R : K → K → Ordering) (mark : Row → Option K) where
  pub has_more : (rows : List Row) (row : Row) (key : K) → has R mark (rows ++ row ∷ []) key ≡ (has R mark rows key || is_this R key (mark row))
  has_more rows row key = list_any-append (λ r. is_this R key (mark r)) rows (row ∷ []) ∙ ap (λ b. has R mark rows key || b) (sym (or_none (is_this R key (mark row))))

  -- a row without one
  pub has_skipped : (rows : List Row) (row : Row) (key : K) → mark row ≡ None → has R mark (rows ++ row ∷ []) key ≡ has R mark rows key
  has_skipped rows row key none = has_more rows row key ∙ ap (λ x. has R mark rows key || is_this R key x) none ∙ sym (or_none (has R mark rows key))

-- ---- a set of marks

kept_or : {V : Type 0} (b : Bool) (v : V) (x : Option V) → is_some (cond b (Some v) x) ≡ (is_some x || b)
kept_or true v None = refl
kept_or true v (Some w) = refl
kept_or false v x = or_none (is_some x)

module _ {K : Type 0} {R : K → K → Ordering} (o : IsTotalOrder R) where
  pub contains_more : {V : Type 0} (m : FinMap R V) (k : K) (v : V) (key : K) → contains_key (insert m k v) key ≡ (contains_key m key || eq_by_cmp R key k)
  contains_more m k v key = ap is_some (get-insert o m k v key) ∙ kept_or (eq_by_cmp R key k) v (get m key)

  noted_more : (x : Option K) (m : FinMap R (Unit {0})) (key : K) → contains_key (noted m x) key ≡ (contains_key m key || is_this R key x)
  noted_more None m key = or_none (contains_key m key)
  noted_more (Some k) m key = contains_more m k tt key

  pub tells_more : (mark : Row → Option K) (rows : List Row) (row : Row) (m after : FinMap R (Unit {0})) → after ≡ noted m (mark row) → Tells mark rows m → Tells mark (rows ++ row ∷ []) after
  tells_more mark rows row m after e h key =
      ap (λ n. contains_key n key) e ∙ noted_more (mark row) m key ∙ ap (λ b. b || is_this R key (mark row)) (h key) ∙ sym (has_more R mark rows row key)

module _ {K : Type 0} (R : K → K → Ordering) where
  pub none_contained : {V : Type 0} (m : BTreeMap K V) (key : K) → m.entries ≡ [] → contains_key (map_of R m) key ≡ false
  none_contained m key e = ap (λ es. contains_key (from_entries {R = R} es) key) e ∙ ap is_some (get-empty R key)

  repeated : (mark : Row → Option K) (rows : List Row) (m : FinMap R (Unit {0})) → Tells mark rows m → (x : Option K) → is_noted m x ≡ has_any R mark rows x
  repeated mark rows m h None = refl
  repeated mark rows m h (Some key) = h key

-- ---- the servers of leases

pub servers_more : (m after : FinMap key_cmp (Unit {0})) (lease : Lease) (left rest : List Lease) → left ≡ lease ∷ rest → after ≡ insert m lease.server tt → (server : ServerKey)
    → (contains_key after server || is_leased_by rest server) ≡ (contains_key m server || is_leased_by left server)
servers_more m after lease left rest next put server =
    ap (λ n. contains_key n server || is_leased_by rest server) put
    ∙ ap (λ b. b || is_leased_by rest server) (contains_more server_key.total-law m lease.server tt server)
    ∙ sym (or_joined (contains_key m server) (eq_by_cmp key_cmp server lease.server) (is_leased_by rest server))
    ∙ ap (λ leases. contains_key m server || is_leased_by leases server) (sym next)

pub all_servers : (m : BTreeMap ServerKey (Unit {0})) (leases kept : List Lease) → m.entries ≡ [] → leases ≡ kept → (server : ServerKey)
    → (contains_key (map_of key_cmp m) server || is_leased_by leases server) ≡ is_leased_by kept server
all_servers m leases kept empty same server = ap (λ b. b || is_leased_by leases server) (none_contained key_cmp m server empty) ∙ ap (λ list. is_leased_by list server) same

-- ---- what was seen

pub none_seen : (seen : Seen) → seen.servers.entries ≡ [] → seen.generations.entries ≡ [] → seen.started.entries ≡ [] → HasSeen seen []
none_seen seen servers generations started = record {
  servers = λ key. none_contained key_cmp seen.servers key servers;
  generations = λ key. none_contained nat_cmp seen.generations key generations;
  started = λ key. none_contained key_cmp seen.started key started;
}

module _ (seen after : Seen) (rows : List Row) (row : Row) (sole : Bool) (h : HasSeen seen rows) (a : IsAdded seen row sole after) where
  pub seen_more : HasSeen after (rows ++ row ∷ [])
  seen_more = record {
    servers = tells_more server_key.total-law leased_server rows row _ _ a.servers h.servers;
    generations = tells_more nat_cmp_total leased_generation rows row _ _ a.generations h.generations;
    started = tells_more server_key.total-law started_server rows row _ _ a.started h.started;
  }

  pub is_sole_row : sole ≡ is_sole rows row
  is_sole_row = a.sole_is ∙ (λ i. not (repeated key_cmp leased_server rows _ h.servers (leased_server row) i || repeated nat_cmp leased_generation rows _ h.generations (leased_generation row) i || repeated key_cmp started_server rows _ h.started (started_server row) i))
