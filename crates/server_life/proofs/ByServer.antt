-- The places of servers, against the entries whose places they are.
use Rattle.std.proofs.Common.{ℕ, suc, zero, ◌≡◌, ◌<◌, ◌≤◌, Bool, true, false, cond, ◌&&◌, T, List, [], ◌∷◌, length, get_or, map, Option, Some, None, IsSome, nat_lt, refl, ap, sym, ◌∙◌, subst, arith, slice_get, not}
use Rattle.std.proofs.lemmas.Bool.Decides.{nat_tests}
use Rattle.std.proofs.lemmas.List.{get_or-map, length-map}
use Rattle.std.specs.List.{insert, remove, list_any}
use Rattle.std.specs.List.Sorted.{IsPartitionedBy, IsPartitionPoint}
use Rattle.std.specs.declared.cmp.Ordering.{Ordering}
use Rattle.std.specs.declared.cmp.Ordering.TheVariants.{Less, Equal, Greater}
use Rattle.std.specs.Ordering.{is_lt, is_eq, eq_by_cmp, nat_cmp, ordering_reverse}
use Rattle.std.specs.Cmp.{tied_itself}
use Rattle.std.specs.FinMap.Entries.{find, is_sorted, below_all, put, where_key}
use Rattle.hub_kit.specs.KeyOrder.{name_cmp, key_cmp}
use Rattle.hub_kit.specs.declared.names.ServerKey.{ServerKey}
use Rattle.server_life.specs.declared.leases.Held.{Held}
use Rattle.server_life.specs.LeaseIndex.{AreServersAt, HasLookUps, IsIndex, is_below, is_of, user_below, user_of, server_of, place_in, generation_in, server_in}
use Rattle.server_life.specs.LeaseTable.{LeaseTable}
use Rattle.server_life.specs.Ranks.{rank}
use Rattle.server_life.proofs.Ranks.{parted, rank_is, got, got_none, put-rank, where_key-rank, rank_lt}
use Rattle.server_life.proofs.Users as users
use Rattle.server_life.proofs.Index.{key_total, at_some, lease}

abbrev Entry : Type 0
Entry = ServerKey × ℕ

first : (a b : Bool) → T (a && b) → T a
first true b p = tt
first false b p = p

second : (a b : Bool) → T (a && b) → T b
second true b p = p
second false b p = absurd p

less : (o : Ordering) → T (is_lt o) → o ≡ Less
less Less p = refl
less Equal p = absurd p
less Greater p = absurd p

below_at : (x : ServerKey) (es : List Entry) (j : ℕ) (d : Entry) → T (below_all key_cmp x es) → j < length es → key_cmp x (get_or es j d).0 ≡ Less
below_at x [] j d b h = absurd (omega arith)
below_at x (e ∷ es) zero d b h = less _ (first _ _ b)
below_at x (e ∷ es) (suc j) d b h = below_at x es j d (second _ _ b) (omega arith)

-- each entry is found by its key
find_at : (es : List Entry) (j : ℕ) (d : Entry) → T (is_sorted key_cmp es) → j < length es → find key_cmp (get_or es j d).0 es ≡ Some (get_or es j d).1
find_at [] j d s h = absurd (omega arith)
find_at (e ∷ es) zero d s h = ap (λ (r : Ordering). cond (is_eq r) (Some e.1) (find key_cmp e.0 es)) (tied_itself key_total e.0)
find_at (e ∷ es) (suc j) d s h =
    let x : Entry = get_or es j d in
    let up : key_cmp x.0 e.0 ≡ Greater = key_total.antisymm x.0 e.0 ∙ ap ordering_reverse (below_at e.0 es j d (first _ _ s) (omega arith)) in
    ap (λ (r : Ordering). cond (is_eq r) (Some e.1) (find key_cmp x.0 es)) up ∙ find_at es j d (second _ _ s) (omega arith)

-- the lease at a place is of the entry's server
abbrev IsAt : List (Option Held) → ℕ → ServerKey → Type 0
IsAt leased i key = (h : Held) × (slice_get leased i ≡ Some (Some h)) × (h.server ≡ key)

lease_at : (leased : List (Option Held)) (places : List ℕ) (es : List Entry) (j i : ℕ) (d : Entry) → AreServersAt leased places es → j < length es → IsAt leased (get_or places j i) (get_or es j d).0
lease_at leased places es j i d a h =
    let found = at_some key_cmp server_in leased es (get_or es j d).0 (get_or es j d).1 a.index (sym (find_at es j d a.rise h)) in
    let place : get_or places j i ≡ (get_or es j d).1 = ap (λ (ps : List ℕ). get_or ps j i) a.in_order ∙ get_or-map place_in es j d i h in
    (found.0, ap (slice_get leased) place ∙ found.1, found.2)

pub long : (leased : List (Option Held)) (places : List ℕ) (es : List Entry) → AreServersAt leased places es → length places ≡ length es
long leased places es a = ap length a.in_order ∙ length-map es place_in

-- a question to a lease is one to the server
module _ (f : Option (Option Held) → Bool) (g : ServerKey → Bool) (same : (h : Held) → f (Some (Some h)) ≡ g h.server) where
  asked : (leased : List (Option Held)) (places : List ℕ) (es : List Entry) (j i : ℕ) (d : Entry) → AreServersAt leased places es → j < length es → f (slice_get leased (get_or places j i)) ≡ g (get_or es j d).0
  asked leased places es j i d a h = let l = lease_at leased places es j i d a h in ap f l.1 ∙ (same l.0 ∙ ap g l.2)

  pub parts : (leased : List (Option Held)) (places : List ℕ) (es : List Entry) (key : ServerKey) → AreServersAt leased places es → IsPartitionedBy (λ (e : Entry). g e.0) es → IsPartitionedBy (λ i. f (slice_get leased i)) places
  parts leased places es key a p i j d le h t =
      let n = long leased places es a in
      asked leased places es i d (key, d) a (omega arith) ∙ p i j (key, d) le (omega arith) (sym (asked leased places es j d (key, d) a (omega arith)) ∙ t)

  pub point : (leased : List (Option Held)) (places : List ℕ) (es : List Entry) (at : ℕ) → AreServersAt leased places es → IsPartitionPoint (λ i. f (slice_get leased i) ≡ true) (λ i. f (slice_get leased i) ≡ false) places at → at ≤ length places
      → IsPartitionPoint (λ (e : Entry). g e.0 ≡ true) (λ (e : Entry). g e.0 ≡ false) es at
  point leased places es at a p le =
      let n = long leased places es a in
      ((λ k d l m. sym (asked leased places es k d.1 d a (omega arith)) ∙ p.0 k d.1 l m), λ k d l m. sym (asked leased places es k d.1 d a (omega arith)) ∙ p.1 k d.1 l (omega arith))

same_below : (q : ServerKey) (h : Held) → is_below q (Some (Some h)) ≡ is_lt (key_cmp h.server q)
same_below q h = refl

abbrev tests : List (Option Held) → ServerKey → ℕ → Bool
tests leased q i = is_below q (slice_get leased i)

pub parted_places : (leased : List (Option Held)) (places : List ℕ) (es : List Entry) (q : ServerKey) → AreServersAt leased places es → IsPartitionedBy (tests leased q) places
parted_places leased places es q a = parts (is_below q) (λ k. is_lt (key_cmp k q)) (same_below q) leased places es q a (parted key_cmp key_total q es a.rise)

pub ranked : (leased : List (Option Held)) (places : List ℕ) (es : List Entry) (q : ServerKey) (at : ℕ) → AreServersAt leased places es → at ≤ length places
    → IsPartitionPoint (λ i. tests leased q i ≡ true) (λ i. tests leased q i ≡ false) places at → at ≡ rank key_cmp q es
ranked leased places es q at a le p =
    let n = long leased places es a in
    rank_is key_cmp key_total q es at (omega arith) (point (is_below q) (λ k. is_lt (key_cmp k q)) (same_below q) leased places es at a p le)

-- what is at the place where the key belongs
pub found : (leased : List (Option Held)) (places : List ℕ) (es : List Entry) (q : ServerKey) (at i : ℕ) → AreServersAt leased places es → at ≡ rank key_cmp q es → at < length places
    → cond (is_of q (slice_get leased (get_or places at i))) (Some (get_or places at i)) None ≡ find key_cmp q es
found leased places es q at i a r h =
    let n = long leased places es a in
    let d : Entry = (q, i) in
    let within : at < length es = omega arith in
    let of : is_of q (slice_get leased (get_or places at i)) ≡ eq_by_cmp key_cmp q (get_or es at d).0 = asked (is_of q) (λ k. eq_by_cmp key_cmp q k) (λ h. refl) leased places es at i d a within in
    let place : get_or places at i ≡ (get_or es at d).1 = ap (λ (ps : List ℕ). get_or ps at i) a.in_order ∙ get_or-map place_in es at d i within in
    ap (λ b. cond b (Some (get_or places at i)) None) of
    ∙ (ap (λ x. cond (eq_by_cmp key_cmp q (get_or es at d).0) (Some x) None) place
    ∙ got key_cmp key_total q es at d a.rise r within)

pub unfound : (leased : List (Option Held)) (places : List ℕ) (es : List Entry) (q : ServerKey) (at : ℕ) → AreServersAt leased places es → at ≡ rank key_cmp q es → length places ≤ at → None ≡ find key_cmp q es
unfound leased places es q at a r h = let n = long leased places es a in got_none key_cmp key_total q es at a.rise r (omega arith)

-- an edit of the entries is one of their places
map_insert : (es : List Entry) (i : ℕ) (e : Entry) → map place_in (insert es i e) ≡ insert (map place_in es) i e.1
map_insert [] zero e = refl
map_insert [] (suc i) e = refl
map_insert (x ∷ es) zero e = refl
map_insert (x ∷ es) (suc i) e = ap (λ (l : List ℕ). x.1 ∷ l) (map_insert es i e)

map_remove : (es : List Entry) (i : ℕ) → map place_in (remove es i) ≡ remove (map place_in es) i
map_remove [] zero = refl
map_remove [] (suc i) = refl
map_remove (x ∷ es) zero = refl
map_remove (x ∷ es) (suc i) = ap (λ (l : List ℕ). x.1 ∷ l) (map_remove es i)

pub inserted : (leased : List (Option Held)) (places : List ℕ) (es : List Entry) (q : ServerKey) (place at : ℕ) → AreServersAt leased places es → at ≡ rank key_cmp q es → find key_cmp q es ≡ None
    → insert places at place ≡ map place_in (put key_cmp q place es)
inserted leased places es q place at a r n =
    ap (λ (ps : List ℕ). insert ps at place) a.in_order
    ∙ (sym (map_insert es at (q, place))
    ∙ ap (map place_in) (ap (λ i. insert es i (q, place)) r ∙ sym (put-rank key_cmp key_total q place es n)))

pub removed : (leased : List (Option Held)) (places : List ℕ) (es : List Entry) (q : ServerKey) (at : ℕ) → AreServersAt leased places es → at ≡ rank key_cmp q es → IsSome (find key_cmp q es)
    → remove places at ≡ map place_in (where_key key_cmp (λ k. not (eq_by_cmp key_cmp q k)) es)
removed leased places es q at a r h =
    ap (λ (ps : List ℕ). remove ps at) a.in_order
    ∙ (sym (map_remove es at)
    ∙ ap (map place_in) (ap (remove es) r ∙ sym (where_key-rank key_cmp key_total q es a.rise h)))

-- the place of a server that is there is within
pub there : (leased : List (Option Held)) (places : List ℕ) (es : List Entry) (q : ServerKey) (at : ℕ) → AreServersAt leased places es → at ≡ rank key_cmp q es → IsSome (find key_cmp q es) → at < length places
there leased places es q at a r h = let n = long leased places es a in let lt = rank_lt key_cmp key_total q es a.rise h in omega (arith, n, lt, r)

-- the servers of a user
abbrev user_tests : List (Option Held) → List ℕ → ℕ → Bool
user_tests leased u i = user_below u (slice_get leased i)

pub parted_users : (leased : List (Option Held)) (places : List ℕ) (es : List Entry) (u : List ℕ) (q : ServerKey) → AreServersAt leased places es → IsPartitionedBy (user_tests leased u) places
parted_users leased places es u q a = parts (user_below u) (λ k. is_lt (name_cmp k.user u)) (λ h. refl) leased places es q a (users.parted u es a.rise)

pub any_of : (leased : List (Option Held)) (places : List ℕ) (es : List Entry) (u : List ℕ) (at i : ℕ) → AreServersAt leased places es → at ≤ length places
    → IsPartitionPoint (λ i. user_tests leased u i ≡ true) (λ i. user_tests leased u i ≡ false) places at
    → cond (nat_lt at (length places)) (user_of u (slice_get leased (get_or places at i))) false ≡ list_any (users.is_of u) es
any_of leased places es u at i a le p =
    let n = long leased places es a in
    let d : Entry = (record { user = u; server = [] }, i) in
    let split = point (user_below u) (λ k. is_lt (name_cmp k.user u)) (λ h. refl) leased places es at a p le in
    by (nat_lt at (length places)) refl d n (users.any_at u es at d a.rise (omega arith) split)
  where
    by : (b : Bool) → nat_lt at (length places) ≡ b → (d : Entry) → length places ≡ length es → list_any (users.is_of u) es ≡ cond (nat_lt at (length es)) (users.is_of u (get_or es at d)) false
        → cond b (user_of u (slice_get leased (get_or places at i))) false ≡ list_any (users.is_of u) es
    by true t d n any =
        let lt : at < length places = grind (arith, nat_tests) in
        let within : at < length es = omega arith in
        let known : nat_lt at (length es) ≡ true = sym (ap (nat_lt at) n) ∙ t in
        asked (user_of u) (λ k. eq_by_cmp name_cmp k.user u) (λ h. refl) leased places es at i d a within
        ∙ sym (any ∙ ap (λ (b : Bool). cond b (users.is_of u (get_or es at d)) false) known)
    by false t d n any =
        let known : nat_lt at (length es) ≡ false = sym (ap (nat_lt at) n) ∙ t in
        sym (any ∙ ap (λ (b : Bool). cond b (users.is_of u (get_or es at d)) false) known)

-- the look-ups tell where the servers are
pub shown : (t : LeaseTable) (free : List (ℕ × Unit {0})) (generations : List (ℕ × ℕ)) (places : List ℕ) → (h : HasLookUps t free generations places) → (leased : List (Option Held)) (seen : List ℕ)
    → leased ≡ t.leased → seen ≡ places → AreServersAt leased seen h.0
shown t free generations places h leased seen a b = record {
  in_order = b ∙ h.1;
  rise = h.2.servers_rise;
  index = subst (λ (l : List (Option Held)). IsIndex key_cmp server_in l h.0) (sym a) h.2.of_servers;
}

pub many : (es : List (ServerKey × ℕ)) (places : List ℕ) → places ≡ map place_in es → length places ≡ length es
many es places e = ap length e ∙ length-map es place_in

-- the server at a generation's place
some_is : (x y : ServerKey) → Some x ≡ Some y → x ≡ y
some_is x y h = cc

none_some : (x : ServerKey) → None ≡ Some x → ⊥
none_some x h = cc

pub lease_read : (leased seen : List (Option Held)) (generations : List (ℕ × ℕ)) (g at : ℕ) (key : ServerKey) → IsIndex nat_cmp generation_in leased generations → Some at ≡ find nat_cmp g generations
    → seen ≡ leased → Some key ≡ server_of (slice_get seen at) → slice_get leased at ≡ Some (Some (lease g key))
lease_read leased seen generations g at key index f s k =
    let held = at_some nat_cmp generation_in leased generations g at index f in
    let same : key ≡ held.0.server = some_is key held.0.server (k ∙ ap server_of (ap (λ (l : List (Option Held)). slice_get l at) s ∙ held.1)) in
    subst (λ (x : ServerKey). slice_get leased at ≡ Some (Some (lease g x))) (sym same)
    (subst (λ (x : ℕ). slice_get leased at ≡ Some (Some (lease x held.0.server))) held.2 held.1)

pub lease_lost : (leased seen : List (Option Held)) (generations : List (ℕ × ℕ)) (g at : ℕ) → IsIndex nat_cmp generation_in leased generations → Some at ≡ find nat_cmp g generations
    → seen ≡ leased → None ≡ server_of (slice_get seen at) → ⊥
lease_lost leased seen generations g at index f s k =
    let held = at_some nat_cmp generation_in leased generations g at index f in
    none_some held.0.server (k ∙ ap server_of (ap (λ (l : List (Option Held)). slice_get l at) s ∙ held.1))
