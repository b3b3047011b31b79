-- The leases that each have a generation become live servers, one for each.
use Rattle.std.proofs.Common.{◌≡◌, ◌≢◌, ◌<◌, ◌≤◌, ◌+◌, ◌*◌, ◌-◌, ◌^◌, ℕ, suc, Bool, true, false, not, ◌&&◌, ◌||◌, cond, List, [], ◌∷◌, map, length, Option, Some, None, ◌⊎◌, inl, inr, ap, sym, subst, ◌∙◌, refl, arith, T}
use Rattle.std.specs.Prelude.{fold, option_map, is_some, Contains, bytes_eq}
use Rattle.std.specs.Cmp.{tied_itself}
use Rattle.std.specs.Cmp.Lexicographic.{nat_list_cmp_total}
use Rattle.std.specs.List.{list_any, find as first_of}
use Rattle.std.specs.FinMap.{FinMap, empty, get, insert, remove, values, entries, len, contains_key, get-empty, get-entries, get-remove, len-entries, len-remove, len-empty, entries_sorted, empty_of_len}
use Rattle.std.specs.FinMap.Entries.{find, is_sorted, below_all}
use Rattle.std.specs.Ordering.{is_eq, is_lt, eq_by_cmp}
use Rattle.std.specs.declared.cmp.Ordering.{Ordering}
use Rattle.std.specs.declared.cmp.Ordering.TheVariants.{Less, Equal, Greater}
use Rattle.std.specs.FinMap.{same_map}
use Rattle.std.proofs.lemmas.List.{length-map}
use Rattle.std.proofs.lemmas.Slice.Eq.{bytes_eq-Decides}
use Rattle.keyed_rows.proofs.Finite.{tied, remove_cases}
use Rattle.hub_kit.specs.KeyOrder.{name_cmp}
use Rattle.hub_rows.specs.ShareOrder.{names_exact}
use Rattle.hub_rows.specs.declared.records.Lease.{Lease}
use Rattle.hub_tables.specs.State.{State}
use Rattle.hub_lives.specs.Lives.{Lives, is_leased, lease_of, owed, owed_by, adopted_by}
use Rattle.hub_lives.specs.LiveServers.{LiveServers}
use Rattle.hub_lives.specs.declared.lives.Leased.{Leased}
use Rattle.hub_lives.proofs.Found.{get_same, get_other, get_after, any_in, find_none}
use Rattle.hub_lives.proofs.Holders.{same_is, same_server_is}
use Rattle.hub_lives.proofs.Sums.{without, with, none}
use Rattle.hub_machine.specs.State.{KeepsLeases, IsHeldBy, holder, next_generation}
use Rattle.hub_opening.specs.Adopting.{FitsLives, FitInTurn, AreFit, IsOpenable, with_lease}
use Rattle.hub_opening.specs.Kept.{AreLeasable, adopted, adopted_at, lives_in, with_generations, is_in_pool, first_lost, lost_target}
use Rattle.hub_opening.specs.Opening.{opened_tables}
use Rattle.hub_opening.specs.declared.config.HubConfig.{HubConfig}
use Rattle.hub_opening.proofs.Opened.{configured_next, configured_leases}
use Rattle.hub_opening.proofs.Numbering.{Leases, IsIn, AreGiven, AreGivenIn, among, all_given}

none_some : {X : Type 0} (x : X) → None ≡ Some x → ⊥
none_some x h = cc

some_one : {X : Type 0} (x y : X) → Some x ≡ Some y → x ≡ y
some_one x y h = cc

clash : (b : Bool) → b ≡ true → b ≡ false → ⊥
clash b h k = cc

is_false : (b : Bool) → (b ≡ true → ⊥) → b ≡ false
is_false true h = absurd (h refl)
is_false false h = refl

is_none : {X : Type 0} (o : Option X) → ((x : X) → o ≡ Some x → ⊥) → o ≡ None
is_none None h = refl
is_none (Some x) h = absurd (h x refl)

-- ---- the leases of a table, one after the other

record Apart (x y : Lease) : Type 0 where
  target : x.target ≡ y.target → ⊥
  server : x.server ≡ y.server → ⊥
  generation : (g : ℕ) → x.generation ≡ Some g → y.generation ≡ Some g → ⊥

abbrev ApartInTurn : List Lease → Type 0
ApartInTurn [] = Unit {0}
ApartInTurn (x ∷ xs) = ((y : Lease) → IsIn y xs → Apart x y) × ApartInTurn xs

first : (a b : Bool) → T (a && b) → T a
first true b p = tt
first false b p = absurd p

second : (a b : Bool) → T (a && b) → T b
second true b p = p
second false b p = absurd p

less : (r : Ordering) → T (is_lt r) → r ≡ Less
less Less p = refl
less Equal p = absurd p
less Greater p = absurd p

abbrev Entries : Type 0
Entries = List (List ℕ × Lease)

none_below : (x : List ℕ) (es : Entries) → T (below_all name_cmp x es) → find name_cmp x es ≡ None
none_below x [] h = refl
none_below x (e ∷ es) h = ap (λ r. cond (is_eq r) (Some e.1) (find name_cmp x es)) (less (name_cmp x e.0) (first _ _ h)) ∙ none_below x es (second _ _ h)

-- what stands in sorted entries is found under its key
found_under : (y : Lease) (es : Entries) → T (is_sorted name_cmp es) → IsIn y (map (λ e. e.1) es) → (q : List ℕ) × (find name_cmp q es ≡ Some y)
found_under y [] s h = absurd h
found_under y (e ∷ es) s (inl is) = (e.0, ap (λ b. cond b (Some e.1) (find name_cmp e.0 es)) (ap is_eq (tied_itself nat_list_cmp_total e.0)) ∙ ap Some (sym is))
found_under y (e ∷ es) s (inr h) =
    let r = found_under y es (second _ _ s) h in
    (r.0, ap (λ b. cond b (Some e.1) (find name_cmp r.0 es)) (other r.0 r.1) ∙ r.1)
  where
    other : (q : List ℕ) → find name_cmp q es ≡ Some y → is_eq (name_cmp q e.0) ≡ false
    other q is = is_false (is_eq (name_cmp q e.0)) (λ t.
        none_some y (sym (none_below e.0 es (first _ _ s)) ∙ ap (λ k. find name_cmp k es) (sym (names_exact q e.0 (tied (name_cmp q e.0) t))) ∙ is))

module _ (m : Leases) where
  -- facts of the leases of the tables, that tell them apart
  module _ (pair : (a b : List ℕ) (l k : Lease) → get m a ≡ Some l → get m b ≡ Some k → (a ≡ b → ⊥) → Apart l k) where
    in_turn : (es : Entries) → T (is_sorted name_cmp es) → ((q : List ℕ) (w : Lease) → find name_cmp q es ≡ Some w → get m q ≡ Some w) → ApartInTurn (map (λ e. e.1) es)
    in_turn [] s h = tt
    in_turn (e ∷ es) s h = (
      λ y there.
          let r = found_under y es (second _ _ s) there in
          pair e.0 r.0 e.1 y (h e.0 e.1 (ap (λ b. cond b (Some e.1) (find name_cmp e.0 es)) (ap is_eq (tied_itself nat_list_cmp_total e.0)))) (later r.0 y r.1)
          (λ same. none_some y (sym (none_below e.0 es (first _ _ s)) ∙ ap (λ k. find name_cmp k es) same ∙ r.1)),
      in_turn es (second _ _ s) later,
    )
      where
        later : (q : List ℕ) (w : Lease) → find name_cmp q es ≡ Some w → get m q ≡ Some w
        later q w is = h q w (ap (λ b. cond b (Some e.1) (find name_cmp q es)) (other (is_eq (name_cmp q e.0)) refl) ∙ is)
          where
            other : (b : Bool) → is_eq (name_cmp q e.0) ≡ b → is_eq (name_cmp q e.0) ≡ false
            other true t = absurd (none_some w (sym (none_below e.0 es (first _ _ s)) ∙ ap (λ k. find name_cmp k es) (sym (names_exact q e.0 (tied (name_cmp q e.0) t))) ∙ is))
            other false t = t

    values_apart : ApartInTurn (values m)
    values_apart = in_turn (entries m) (entries_sorted m) (λ q w is. get-entries m q ∙ is)

  there : (y : Lease) → IsIn y (values m) → (q : List ℕ) × (get m q ≡ Some y)
  there y h = let r = found_under y (entries m) (entries_sorted m) h in (r.0, get-entries m r.0 ∙ r.1)

contained : (xs : List (List ℕ)) (x : List ℕ) → IsIn x xs → Contains xs x
contained [] x h = absurd h
contained (y ∷ xs) x (inl e) = (0, omega arith, sym e)
contained (y ∷ xs) x (inr h) = let r = contained xs x h in let lt = r.1 in (suc r.0, omega (arith, lt), r.2)

-- ---- one live server for each

abbrev ApartFrom : Lives → Lease → Type 0
ApartFrom lives y = (g : ℕ) (a : Leased) → get lives g ≡ Some a → (a.target ≡ y.target → ⊥) × (a.server ≡ y.server → ⊥) × (y.generation ≡ Some g → ⊥)

apart_more : (lives : Lives) (x y : Lease) (h : ℕ) → x.generation ≡ Some h → Apart x y → ApartFrom lives y → ApartFrom (insert lives h (adopted_by x.server x.target h)) y
apart_more lives x y h e apart from g a is =
    get_after lives h (adopted_by x.server x.target h) g a ((a.target ≡ y.target → ⊥) × (a.server ≡ y.server → ⊥) × (y.generation ≡ Some g → ⊥)) is
    (λ at new. (
      λ t. apart.target (ap (λ (l : Leased). l.target) new ∙ t),
      λ s. apart.server (ap (λ (l : Leased). l.server) new ∙ s),
      λ f. apart.generation h e (f ∙ ap Some at),
    ))
    (λ other there. from g a there)

owed_more : (lives : Lives) (h : ℕ) (x : Lease) → owed (insert lives h (adopted_by x.server x.target h)) ≤ owed lives + 4
owed_more lives h x =
    let new = with lives h (adopted_by x.server x.target h) in
    let all = without lives h in
    omega (arith, new, all)

owed_all : (xs : List Lease) (lives : Lives) → owed (fold adopted lives xs) ≤ owed lives + 4 * length xs
owed_all [] lives = omega arith
owed_all (x ∷ xs) lives =
    let rest = owed_all xs (adopted lives x) in
    let here = one x.generation in
    omega (arith, rest, here)
  where
    one : (o : Option ℕ) → owed (adopted_at x o lives) ≤ owed lives + 4
    one None = omega arith
    one (Some h) = owed_more lives h x

module _ (pool : List (List ℕ)) (next : ℕ) where
  fits_one : (lives : Lives) (y : Lease) → ApartFrom lives y → Contains pool y.target → ((g : ℕ) → y.generation ≡ Some g → g < next) → owed lives < 2 ^ 63
      → FitsLives (record { pool = pool; lives = lives; next = next }) y
  fits_one lives y from pooled below room g e = record {
    pooled = pooled;
    free = is_false (is_leased lives y.target) (λ t. let r = any_in _ lives t in (from r.0 r.1 r.2).0 (same_is r.1.target y.target r.3));
    rests = find_none _ lives (λ h a is t. (from h a is).1 (same_server_is a.server y.server t));
    fresh = is_none (get lives g) (λ a is. (from g a is).2 e);
    below = below g e;
    room = room;
  }

  fit_in_turn : (xs : List Lease) (lives : Lives) → ApartInTurn xs → ((y : Lease) → IsIn y xs → Contains pool y.target × ((g : ℕ) → y.generation ≡ Some g → g < next))
      → ((y : Lease) → IsIn y xs → ApartFrom lives y) → owed lives + 4 * length xs < 2 ^ 63 → FitInTurn (record { pool = pool; lives = lives; next = next }) xs
  fit_in_turn [] lives apart each from room = tt
  fit_in_turn (x ∷ xs) lives apart each from room = (
    fits_one lives x (from x (inl refl)) (each x (inl refl)).0 (each x (inl refl)).1 (omega (arith, room)),
    by x.generation refl (fit_in_turn xs lives apart.1 (λ y h. each y (inr h)) (λ y h. from y (inr h)) (omega (arith, room)))
        (λ h e.
        let more = owed_more lives h x in
        fit_in_turn xs (insert lives h (adopted_by x.server x.target h)) apart.1 (λ y i. each y (inr i))
        (λ y i. apart_more lives x y h e (apart.0 y i) (from y (inr i))) (omega (arith, room, more))),
  )
    where
      by : (o : Option ℕ) → x.generation ≡ o → FitInTurn (record { pool = pool; lives = lives; next = next }) xs
          → ((h : ℕ) → x.generation ≡ Some h → FitInTurn (record { pool = pool; lives = insert lives h (adopted_by x.server x.target h); next = next }) xs)
          → FitInTurn (record { pool = pool; lives = adopted_at x o lives; next = next }) xs
      by None e same more = same
      by (Some h) e same more = more h e

-- ---- the lives that they are

-- a live server stays where no later lease has its generation
stays : (xs : List Lease) (lives : Lives) (g : ℕ) (a : Leased) → get lives g ≡ Some a → ((y : Lease) → IsIn y xs → y.generation ≡ Some g → ⊥) → get (fold adopted lives xs) g ≡ Some a
stays [] lives g a is other = is
stays (x ∷ xs) lives g a is other = stays xs (adopted lives x) g a (one x.generation refl) (λ y h. other y (inr h))
  where
    one : (o : Option ℕ) → x.generation ≡ o → get (adopted_at x o lives) g ≡ Some a
    one None e = is
    one (Some h) e = get_other lives h (adopted_by x.server x.target h) g (λ same. other x (inl refl) (e ∙ ap Some (sym same))) ∙ is

adopted_there : (xs : List Lease) (lives : Lives) (l : Lease) (g : ℕ) → IsIn l xs → l.generation ≡ Some g → ApartInTurn xs → get (fold adopted lives xs) g ≡ Some (adopted_by l.server l.target g)
adopted_there [] lives l g h e apart = absurd h
adopted_there (x ∷ xs) lives l g (inl is) e apart =
    stays xs (adopted lives x) g (adopted_by l.server l.target g) (one x.generation (ap (λ (k : Lease). k.generation) (sym is) ∙ e))
    (λ y h f. (apart.0 y h).generation g (ap (λ (k : Lease). k.generation) (sym is) ∙ e) f)
  where
    one : (o : Option ℕ) → o ≡ Some g → get (adopted_at x o lives) g ≡ Some (adopted_by l.server l.target g)
    one None e = absurd (none_some g e)
    one (Some h) e =
        ap (λ n. get (insert lives n (adopted_by x.server x.target n)) g) (some_one h g e)
        ∙ get_same lives g (adopted_by x.server x.target g) ∙ ap (λ (k : Lease). Some (adopted_by k.server k.target g)) (sym is)
adopted_there (x ∷ xs) lives l g (inr h) e apart = adopted_there xs (adopted lives x) l g h e apart.1

-- each live server comes from a lease
record ComesFrom (xs : List Lease) (g : ℕ) (a : Leased) : Type 0 where
  lease : Lease
  among_them : IsIn lease xs
  made : a ≡ adopted_by lease.server lease.target g

adopted_from : (xs : List Lease) (lives : Lives) (g : ℕ) (a : Leased) → get (fold adopted lives xs) g ≡ Some a → (get lives g ≡ Some a) ⊎ ComesFrom xs g a
adopted_from [] lives g a is = inl is
adopted_from (x ∷ xs) lives g a is = elim (adopted_from xs (adopted lives x) g a is) as (λ _. (get lives g ≡ Some a) ⊎ ComesFrom (x ∷ xs) g a) [
  | inl now ↦ one x.generation now
  | inr later ↦ inr (record { lease = later.lease; among_them = inr later.among_them; made = later.made })
]
  where
    one : (o : Option ℕ) → get (adopted_at x o lives) g ≡ Some a → (get lives g ≡ Some a) ⊎ ComesFrom (x ∷ xs) g a
    one None now = inl now
    one (Some h) now =
        get_after lives h (adopted_by x.server x.target h) g a ((get lives g ≡ Some a) ⊎ ComesFrom (x ∷ xs) g a) now
        (λ at new. inr (record { lease = x; among_them = inl refl; made = sym new ∙ ap (adopted_by x.server x.target) (sym at) }))
        (λ other there. inl there)

-- ---- a pool is no shorter than what stands in it

pool_holds : (pool : List (List ℕ)) (m : Leases) → ((a : List ℕ) (l : Lease) → get m a ≡ Some l → IsIn a pool) → len m ≤ length pool
pool_holds [] m h = let none = ap len (no_rows m (λ a l is. h a l is)) ∙ len-empty name_cmp Lease in omega (arith, none)
  where
    no_rows : (m : Leases) → ((a : List ℕ) (l : Lease) → get m a ≡ Some l → ⊥) → m ≡ empty
    no_rows m h = same_map nat_list_cmp_total names_exact m empty (λ q. is_none (get m q) (λ l is. h q l is) ∙ sym (get-empty name_cmp q))
pool_holds (p ∷ pool) m h =
    let rest = pool_holds pool (remove m p) (λ a l is.
    let c = remove_cases nat_list_cmp_total names_exact m p a l is in
    elim (h a l c.1) as (λ _. IsIn a pool) [
      | inl here ↦ absurd (c.0 here)
      | inr later ↦ later
    ]) in
    let fewer = len-remove nat_list_cmp_total m p in
    by (contains_key m p) fewer rest
  where
    by : (b : Bool) → len (remove m p) ≡ cond b (len m - 1) (len m) → len (remove m p) ≤ length pool → len m ≤ suc (length pool)
    by true e r = omega (arith, e, r)
    by false e r = omega (arith, e, r)

-- ---- all of it

module _ (pool : List (List ℕ)) (t : State) (given : AreGivenIn (λ a. IsIn a pool) t []) where
  pair : (a b : List ℕ) (l k : Lease) → get t.leases a ≡ Some l → get t.leases b ≡ Some k → (a ≡ b → ⊥) → Apart l k
  pair a b l k x y apart = record {
    target = λ e. apart (sym (given.own a l x) ∙ e ∙ given.own b k y);
    server = λ e. apart (given.servers a b l k x y e);
    generation = λ g e f. apart (given.generations a b l k g x y e f);
  }

  turned : ApartInTurn (values t.leases)
  turned = values_apart t.leases pair

  many : length (values t.leases) ≤ length pool
  many = let few = pool_holds pool t.leases given.of_these in let same = len-entries t.leases in let long = length-map (entries t.leases) (λ e. e.1) in omega (arith, few, same, long)

  fit : length pool ≤ 1000 → AreFit pool t
  fit small =
      let few = many in
      let nothing = none in
      fit_in_turn pool (next_generation t) (values t.leases) empty turned
      (λ y h. let at = there t.leases y h in (contained pool y.target (subst (λ q. IsIn q pool) (sym (given.own at.0 y at.1)) (given.of_these at.0 y at.1)), λ g e. given.below at.0 y g at.1 e))
      (λ y h g a is. absurd (none_some a (sym (get-empty _ g) ∙ is)))
      (omega (arith, few, small, nothing))

  kept_there : (target : List ℕ) (server : _) → holder t target ≡ Some server → IsHeldBy (lives_in t) target server
  kept_there target server h = by (get t.leases target) refl h
    where
      by : (o : Option Lease) → get t.leases target ≡ o → option_map (λ (l : Lease). l.server) o ≡ Some server → IsHeldBy (lives_in t) target server
      by None is e = absurd (none_some server e)
      by (Some l) is e = at l.generation refl
        where
          at : (o : Option ℕ) → l.generation ≡ o → IsHeldBy (lives_in t) target server
          at None lacks = absurd (given.left target l is lacks)
          at (Some g) has = (g, adopted_by l.server l.target g, adopted_there (values t.leases) empty l g (among t.leases target l is) has turned, given.own target l is, some_one l.server server e)

  kept_back : (target : List ℕ) (server : _) → IsHeldBy (lives_in t) target server → holder t target ≡ Some server
  kept_back target server (g, a, is, at, of) = elim (adopted_from (values t.leases) empty g a is) as (λ _. holder t target ≡ Some server) [
    | inl none ↦ absurd (none_some a (sym (get-empty _ g) ∙ none))
    | inr from ↦
        let stands = there t.leases from.lease from.among_them in
        let target_is : from.lease.target ≡ target = sym (ap (λ (l : Leased). l.target) from.made) ∙ at in
        let server_is : from.lease.server ≡ server = sym (ap (λ (l : Leased). l.server) from.made) ∙ of in
        let place : stands.0 ≡ target = sym (given.own stands.0 from.lease stands.1) ∙ target_is in
        ap (λ q. option_map (λ (l : Lease). l.server) (get t.leases q)) (sym place) ∙ ap (option_map (λ (l : Lease). l.server)) stands.1 ∙ ap Some server_is
  ]

  openable : length pool ≤ 1000 → next_generation t ≤ 2 ^ 61 + length pool → IsOpenable pool t
  openable small few = record {
    fit = fit small;
    kept = λ target server. (kept_there target server, kept_back target server);
    above = given.above;
    few = few;
    owing = let all = owed_all (values t.leases) empty in let nothing = none in let long = many in omega (arith, all, nothing, long);
  }

-- ---- no lease has lost its target

found_none : (p : Lease → Bool) (ls : List Lease) (l : Lease) → first_of p ls ≡ None → IsIn l ls → p l ≡ false
found_none p [] l h at = absurd at
found_none p (k ∷ ls) l h at = by (p k) refl at (found_none p ls l)
  where
    by : (b : Bool) → p k ≡ b → IsIn l (k ∷ ls) → (first_of p ls ≡ None → IsIn l ls → p l ≡ false) → p l ≡ false
    by true e at rest = absurd (none_some k (sym h ∙ ap (λ b. cond b (Some k) (first_of p ls)) e))
    by false e (inl is) rest = ap p is ∙ e
    by false e (inr later) rest = rest (sym (ap (λ b. cond b (Some k) (first_of p ls)) e) ∙ h) later

none_mapped : {X Y : Type 0} (f : X → Y) (o : Option X) → option_map f o ≡ None → o ≡ None
none_mapped f None h = refl
none_mapped f (Some x) h = absurd (none_some (f x) (sym h))

not_false : (b : Bool) → not b ≡ false → b ≡ true
not_false true h = refl
not_false false h = absurd (clash true refl h)

same_bytes : (a b : List ℕ) → bytes_eq a b ≡ true → a ≡ b
same_bytes a b e = (bytes_eq-Decides a b).0 e

in_pool : (pool : List (List ℕ)) (target : List ℕ) → is_in_pool pool target ≡ true → IsIn target pool
in_pool [] target h = absurd (clash false h refl)
in_pool (p ∷ pool) target h = by (bytes_eq p target) refl (in_pool pool target)
  where
    by : (b : Bool) → bytes_eq p target ≡ b → (is_in_pool pool target ≡ true → IsIn target pool) → IsIn target (p ∷ pool)
    by true e rest = inl (sym (same_bytes p target e))
    by false e rest = inr (rest (sym (ap (λ b. b || is_in_pool pool target) e) ∙ h))

none_lost : (pool : List (List ℕ)) (t : State) → ((a : List ℕ) (l : Lease) → get t.leases a ≡ Some l → l.target ≡ a) → lost_target pool t ≡ None
    → (a : List ℕ) (l : Lease) → get t.leases a ≡ Some l → IsIn a pool
none_lost pool t own none a l is =
    subst (λ q. IsIn q pool) (own a l is) (in_pool pool l.target (not_false _
    (found_none _ (values t.leases) l (none_mapped (λ (k : Lease). k.target) (first_lost pool t) none) (among t.leases a l is))))

-- ---- the tables of an opening

pub opened_openable : (c : HubConfig) (now : ℕ) (kept : State) → AreLeasable kept → lost_target c.pool kept ≡ None → length c.pool ≤ 1000 → IsOpenable c.pool (opened_tables c now kept)
opened_openable c now kept leasable none_is small =
    let Q : List ℕ → Type 0 = λ a. IsIn a c.pool in
    let these = none_lost c.pool kept leasable.own none_is in
    let all = all_given Q kept leasable these in
    let few = all.1 in
    let first = leasable.few in
    let same = len-entries kept.leases in
    let holds = pool_holds c.pool kept.leases these in
    let mapped = length-map (entries kept.leases) (λ e. e.1) in
    let long = length-map (values kept.leases) (λ (l : Lease). l.target) in
    let next = configured_next c now (with_generations kept) in
    let leases = configured_leases c now (with_generations kept) in
    let t = opened_tables c now kept in
    openable c.pool t
    (subst (λ (n : ℕ). AreGiven Q t.leases n []) (sym next) (subst (λ (m : Leases). AreGiven Q m (next_generation (with_generations kept)) []) (sym leases) all.0))
    small (omega (arith, few, first, same, holds, mapped, long, next))

-- ---- the live servers, as they are made

pub leases_adopted : (xs : List Lease) (live : LiveServers) → fold with_lease live xs ≡ record live { lives = fold adopted live.lives xs }
leases_adopted [] live = refl
leases_adopted (x ∷ xs) live = leases_adopted xs (with_lease live x)

-- none of them is live at first
pub begins : (pool copy : List (List ℕ)) (next : ℕ) (t : State) (live : LiveServers) → live ≡ record { pool = copy; lives = empty; next = next } → copy ≡ pool → next ≡ next_generation t
    → live ≡ record { pool = pool; lives = empty; next = next_generation t }
begins pool copy next t live is same e = is ∙ (λ i. record { pool = same i; lives = empty; next = e i })
