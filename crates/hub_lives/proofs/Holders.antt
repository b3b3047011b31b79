-- What holds of the live servers because they are those that hold a lease, and what a change of one lease keeps of it.
use Rattle.std.proofs.Common.{ℕ, zero, suc, ◌≡◌, ◌≢◌, ◌+◌, ◌<◌, ◌⊎◌, inl, inr, Bool, true, false, cond, not, List, [], ◌∷◌, length, set, get_or, Option, Some, None, refl, sym, ap, subst, ◌∙◌, arith, slice_get, replicate, is_some}
use Rattle.std.specs.Prelude.{AllPairs, All, MatchBool, Contains, ◌≤◌, ◌&&◌}
use Rattle.std.proofs.lemmas.Bool.{cases_lt}
use Rattle.std.specs.List.{find}
use Rattle.std.specs.Ordering.{nat_cmp, eq_by_cmp}
use Rattle.std.specs.Cmp.Lexicographic.{same_text, other_text}
use Rattle.std.specs.FinMap.{get, insert, remove, empty, get-empty, contains_key}
use Rattle.hub_kit.specs.declared.names.ServerKey.{ServerKey}
use Rattle.hub_kit.specs.declared.target.Target.{Target}
use Rattle.scope_filters.specs.Contexts.{same}
use Rattle.scope_filters.specs.Admits.{same_server}
use Rattle.server_life.specs.declared.leases.Held.{Held}
use Rattle.server_life.specs.declared.life.Life.{Life}
use Rattle.server_life.specs.declared.life.Phase.TheVariants.{Spawning}
use Rattle.std.specs.Option.{unwrap_or}
use Rattle.server_life.specs.Leased.{HoldsLease, IsFree, IsFirstFree, IsUnleased, IsNotLive}
use Rattle.server_life.specs.LeaseTable.{LeaseTable, IsOneToOne}
use Rattle.server_life.specs.LifeTable.{generation_of}
use Rattle.hub_lives.specs.declared.lives.Leased.{Leased}
use Rattle.hub_lives.specs.Lives.{Lives, AreApart, lease_of, has_live_server, is_leased, free_target, leased_to}
use Rattle.hub_lives.specs.LiveServers.{IsAt, AreHolders, begins}
use Rattle.hub_lives.proofs.Found.{some_is, none_some, clash, find_none, find_one, any_in, in_any, get_same, get_other, get_left, get_after, get_before, gone_same, same_key, itself}

-- ---- places of a list

pub put_here : {A : Type 0} (xs : List A) (i : ℕ) (v x : A) → slice_get xs i ≡ Some x → slice_get (set xs i v) i ≡ Some v
put_here [] i v x h = absurd (none_some x h)
put_here (y ∷ ys) zero v x h = refl
put_here (y ∷ ys) (suc i) v x h = put_here ys i v x h

pub put_there : {A : Type 0} (xs : List A) (i : ℕ) (v : A) (j : ℕ) → i ≢ j → slice_get (set xs i v) j ≡ slice_get xs j
put_there [] i v j n = refl
put_there (y ∷ ys) zero v zero n = absurd (n refl)
put_there (y ∷ ys) zero v (suc j) n = refl
put_there (y ∷ ys) (suc i) v zero n = refl
put_there (y ∷ ys) (suc i) v (suc j) n = put_there ys i v j (λ e. n (ap suc e))

pub get_put : {A : Type 0} (xs : List A) (i : ℕ) (v : A) (j : ℕ) (x : A) → slice_get (set xs i v) j ≡ Some x → ((i ≡ j) × (v ≡ x)) ⊎ ((i ≢ j) × (slice_get xs j ≡ Some x))
get_put [] i v j x h = absurd (none_some x h)
get_put (y ∷ ys) zero v zero x h = inl (refl, some_is v x h)
get_put (y ∷ ys) zero v (suc j) x h = inr ((λ e. omega (arith, e)), h)
get_put (y ∷ ys) (suc i) v zero x h = inr ((λ e. omega (arith, e)), h)
get_put (y ∷ ys) (suc i) v (suc j) x h = elim (get_put ys i v j x h) [
  | inl e ↦ inl (ap suc e.0, e.1)
  | inr e ↦ inr ((λ q. e.0 (omega (arith, q))), e.1)
]

get_replicate : {A : Type 0} (n : ℕ) (x : A) (i : ℕ) (y : A) → slice_get (replicate n x) i ≡ Some y → x ≡ y
get_replicate zero x i y h = absurd (none_some y h)
get_replicate (suc n) x zero y h = some_is x y h
get_replicate (suc n) x (suc i) y h = get_replicate n x i y h

read_at : {A : Type 0} (xs : List A) (i : ℕ) (d x : A) → slice_get xs i ≡ Some x → (i < length xs) × (get_or xs i d ≡ x)
read_at [] i d x h = absurd (none_some x h)
read_at (y ∷ ys) zero d x h = (omega arith, some_is y x h)
read_at (y ∷ ys) (suc i) d x h = let r = read_at ys i d x h in let lt : i < length ys = r.0 in (omega arith, r.1)

within : {A : Type 0} (xs : List A) (i : ℕ) → i < length xs → (x : A) × (slice_get xs i ≡ Some x)
within [] i h = absurd (omega (arith, h))
within (y ∷ ys) zero h = (y, refl)
within (y ∷ ys) (suc i) h = within ys i (omega (arith, h))

find_at : {A : Type 0} (p : A → Bool) (xs : List A) (i : ℕ) (x : A) → slice_get xs i ≡ Some x → p x ≡ true
    → ((k : ℕ) (y : A) → k < i → slice_get xs k ≡ Some y → p y ≡ false) → find p xs ≡ Some x
find_at p [] i x h t b = absurd (none_some x h)
find_at p (y ∷ ys) zero x h t b = ap (λ c. cond c (Some y) (find p ys)) (ap p (some_is y x h) ∙ t) ∙ h
find_at p (y ∷ ys) (suc i) x h t b = ap (λ c. cond c (Some y) (find p ys)) (b zero y (omega arith) refl) ∙ find_at p ys i x h t (λ k z lt g. b (suc k) z (omega (arith, lt)) g)

find_nowhere : {A : Type 0} (p : A → Bool) (xs : List A) → ((k : ℕ) (y : A) → slice_get xs k ≡ Some y → p y ≡ false) → find p xs ≡ None
find_nowhere p [] b = refl
find_nowhere p (y ∷ ys) b = ap (λ c. cond c (Some y) (find p ys)) (b zero y refl) ∙ find_nowhere p ys (λ k z g. b (suc k) z g)

-- ---- texts

pub is_same : (a b : List ℕ) → a ≡ b → same a b ≡ true
is_same a b e = by (same a b) refl
  where
    by : (r : Bool) → same a b ≡ r → r ≡ true
    by true h = refl
    by false h = absurd (other_text a b (sym h) e)

pub same_is : (a b : List ℕ) → same a b ≡ true → a ≡ b
same_is a b h = same_text a b (sym h)

both : (a b : Bool) → (a && b) ≡ true → (a ≡ true) × (b ≡ true)
both true b h = (refl, h)
both false b h = absurd (clash false h refl)

and_both : (a b : Bool) → a ≡ true → b ≡ true → (a && b) ≡ true
and_both true b h k = k
and_both false b h k = h

pub is_same_server : (k l : ServerKey) → k ≡ l → same_server k l ≡ true
is_same_server k l e = and_both _ _ (is_same k.user l.user (ap (λ (x : ServerKey). x.user) e)) (is_same k.server l.server (ap (λ (x : ServerKey). x.server) e))

pub same_server_is : (k l : ServerKey) → same_server k l ≡ true → k ≡ l
same_server_is k l h =
    let parts = both (same k.user l.user) (same k.server l.server) h in
    let u : k.user ≡ l.user = same_is k.user l.user parts.0 in
    let s : k.server ≡ l.server = same_is k.server l.server parts.1 in
    λ i. record { user = u i; server = s i }

-- ---- one lease at a place

abbrev pub a_lease : ℕ → ServerKey → Held
a_lease g k = record { generation = g; server = k }

pub same_lease : (a b : Held) → Some a ≡ Some b → (a.generation ≡ b.generation) × (a.server ≡ b.server)
same_lease a b h = let e : a ≡ b = some_is a b h in (ap (λ (x : Held). x.generation) e, ap (λ (x : Held). x.server) e)

pub one_lease : (leased : List (Option Held)) (i g h : ℕ) (k l : ServerKey) → HoldsLease leased i g k → HoldsLease leased i h l → (g ≡ h) × (k ≡ l)
one_lease leased i g h k l a b = same_lease (a_lease g k) (a_lease h l) (some_is (Some (a_lease g k)) (Some (a_lease h l)) (sym a ∙ b))

free_or_held : (h : Held) → None ≡ Some h → ⊥
free_or_held h e = cc

pub not_free : (leased : List (Option Held)) (i g : ℕ) (k : ServerKey) → IsFree leased i → HoldsLease leased i g k → ⊥
not_free leased i g k f h = free_or_held (a_lease g k) (some_is None (Some (a_lease g k)) (sym f ∙ h))

held_at : (leased : List (Option Held)) (i : ℕ) → i < length leased → slice_get leased i ≢ Some None → (h : Held) × (slice_get leased i ≡ Some (Some h))
held_at leased i lt n = let w = within leased i lt in by w.0 w.1
  where
    by : (o : Option Held) → slice_get leased i ≡ Some o → (h : Held) × (slice_get leased i ≡ Some (Some h))
    by None e = absurd (n e)
    by (Some h) e = (h, e)

-- ---- targets of a pool

pub same_place : (ts : List Target) → AllPairs (λ (a b : Target). a ≢ b) ts → (i j : ℕ) (t : Target) → slice_get ts i ≡ Some t → slice_get ts j ≡ Some t → i ≡ j
same_place [] d i j t a b = absurd (none_some t a)
same_place (x ∷ ts) d zero zero t a b = refl
same_place (x ∷ ts) d zero (suc j) t a b = let r = read_at ts j t t b in let lt : j < length ts = r.0 in absurd (d zero (suc j) t (omega arith) (omega arith) (some_is x t a ∙ sym r.1))
same_place (x ∷ ts) d (suc i) zero t a b = let r = read_at ts i t t a in let lt : i < length ts = r.0 in absurd (d zero (suc i) t (omega arith) (omega arith) (some_is x t b ∙ sym r.1))
same_place (x ∷ ts) d (suc i) (suc j) t a b = ap suc (same_place ts (λ i j e lt within. d (suc i) (suc j) e (omega (arith, lt)) (omega (arith, within))) i j t a b)

-- ---- what the live servers are

pub apart : (lives : Lives) (t : LeaseTable) → AreHolders lives t → IsOneToOne t → AreApart t.pool lives t.next
apart lives t h one = record {
  targets = λ g k a b x y e.
      let p = h.live g a x in
      let q = h.live k b y in
      let i : p.0 ≡ q.0 = same_place t.pool one.distinct p.0 q.0 a.target p.1.1 (q.1.1 ∙ ap Some (sym e)) in
      (one_lease t.leased q.0 g k a.server b.server (subst (λ (j : ℕ). HoldsLease t.leased j g a.server) i p.1.0) q.1.0).0;
  servers = λ g k a b x y e.
      let p = h.live g a x in
      let q = h.live k b y in
      let i : p.0 ≡ q.0 = one.servers p.0 q.0 g k a.server p.1.0 (subst (λ (s : ServerKey). HoldsLease t.leased q.0 k s) (sym e) q.1.0) in
      (one_lease t.leased q.0 g k a.server b.server (subst (λ (j : ℕ). HoldsLease t.leased j g a.server) i p.1.0) q.1.0).0;
  pooled = λ g a x. let p = h.live g a x in let r = read_at t.pool p.0 a.target a.target p.1.1 in (p.0, r.0, r.1);
  below = λ g a x. let p = h.live g a x in one.below p.0 g a.server p.1.0;
  phases = h.phases;
}

pub no_lease : (lives : Lives) (t : LeaseTable) (key : ServerKey) → AreHolders lives t → IsUnleased t.leased key → lease_of lives key ≡ None
no_lease lives t key h n = find_none (λ (e : ℕ × Leased). same_server e.1.server key) lives (λ g v is e.
    let p = h.live g v is in n p.0 g (subst (λ (s : ServerKey). HoldsLease t.leased p.0 g s) (same_server_is v.server key e) p.1.0))

pub the_lease : (lives : Lives) (t : LeaseTable) (key : ServerKey) (i g : ℕ) (l : Leased) → AreHolders lives t → IsOneToOne t → HoldsLease t.leased i g key → get lives g ≡ Some l → lease_of lives key ≡ Some (g, l)
the_lease lives t key i g l h one holds is =
    let p = h.live g l is in
    let place : i ≡ p.0 = one.generations i p.0 g key l.server holds p.1.0 in
    let server : l.server ≡ key = (one_lease t.leased p.0 g g l.server key p.1.0 (subst (λ (j : ℕ). HoldsLease t.leased j g key) place holds)).1 in
    find_one (λ (e : ℕ × Leased). same_server e.1.server key) lives g l is (is_same_server l.server key server) (λ k w has e.
    (apart lives t h one).servers k g w l has is (same_server_is w.server key e ∙ sym server))

pub live_user : (lives : Lives) (t : LeaseTable) (user : List ℕ) (i g : ℕ) (key : ServerKey) → AreHolders lives t → HoldsLease t.leased i g key → key.user ≡ user → has_live_server lives user ≡ true
live_user lives t user i g key h holds e =
    let p = h.held i g key holds in
    in_any (λ (l : Leased). same l.server.user user) lives g p.0 p.1
    (is_same p.0.server.user user (ap (λ (k : ServerKey). k.user) (one_lease t.leased i g g p.0.server key p.2.0 holds).1 ∙ e))

pub no_user : (lives : Lives) (t : LeaseTable) (user : List ℕ) → AreHolders lives t → ((i g : ℕ) (key : ServerKey) → HoldsLease t.leased i g key → key.user ≢ user) → has_live_server lives user ≡ false
no_user lives t user h n = by (has_live_server lives user) refl
  where
    by : (b : Bool) → has_live_server lives user ≡ b → b ≡ false
    by false e = refl
    by true e =
        let f = any_in (λ (l : Leased). same l.server.user user) lives e in
        let p = h.live f.0 f.1 f.2 in
        absurd (n p.0 f.0 f.1.server p.1.0 (same_is f.1.server.user user f.3))

leased_here : (lives : Lives) (t : LeaseTable) (i g : ℕ) (key : ServerKey) (target : Target) → AreHolders lives t → HoldsLease t.leased i g key → slice_get t.pool i ≡ Some target → is_leased lives target ≡ true
leased_here lives t i g key target h holds at =
    let p = h.held i g key holds in
    in_any (λ (l : Leased). same l.target target) lives g p.0 p.1 (is_same p.0.target target (some_is p.0.target target (sym p.2.1 ∙ at)))

free_here : (lives : Lives) (t : LeaseTable) (i : ℕ) (target : Target) → AreHolders lives t → IsOneToOne t → IsFree t.leased i → slice_get t.pool i ≡ Some target → is_leased lives target ≡ false
free_here lives t i target h one free at = by (is_leased lives target) refl
  where
    by : (b : Bool) → is_leased lives target ≡ b → b ≡ false
    by false e = refl
    by true e =
        let f = any_in (λ (l : Leased). same l.target target) lives e in
        let p = h.live f.0 f.1 f.2 in
        let place : i ≡ p.0 = same_place t.pool one.distinct i p.0 target at (p.1.1 ∙ ap Some (same_is f.1.target target f.3)) in
        absurd (not_free t.leased p.0 f.0 f.1.server (subst (IsFree t.leased) place free) p.1.0)

leased_below : (lives : Lives) (t : LeaseTable) (k : ℕ) (y : Target) → AreHolders lives t → IsOneToOne t → slice_get t.leased k ≢ Some None → slice_get t.pool k ≡ Some y → not (is_leased lives y) ≡ false
leased_below lives t k y h one n at =
    let lt : k < length t.pool = (read_at t.pool k y y at).0 in
    let places = one.places in
    let held = held_at t.leased k (omega (arith, lt, places)) n in
    ap not (leased_here lives t k held.0.generation held.0.server y h held.1 at)

pub first_free : (lives : Lives) (t : LeaseTable) (i : ℕ) (target : Target) → AreHolders lives t → IsOneToOne t → IsFirstFree t.leased i → slice_get t.pool i ≡ Some target → free_target t.pool lives ≡ Some target
first_free lives t i target h one first at = find_at (λ (target : Target). not (is_leased lives target)) t.pool i target at (ap not (free_here lives t i target h one first.0 at))
    (λ k y lt g. leased_below lives t k y h one (first.1 k lt) g)

pub none_free : (lives : Lives) (t : LeaseTable) → AreHolders lives t → IsOneToOne t → All (λ (o : Option Held). o ≢ None) t.leased → free_target t.pool lives ≡ None
none_free lives t h one all = find_nowhere (λ (target : Target). not (is_leased lives target)) t.pool
    (λ k y g. leased_below lives t k y h one (λ e. let r = read_at t.leased k None None e in all k None r.0 r.1) g)

-- ---- what changes keep

pub none_held : (pool : List Target) (n next : ℕ) → AreHolders empty (record { pool = pool; leased = replicate n None; next = next })
none_held pool n next = record {
  held = λ i g key h. absurd (free_or_held (a_lease g key) (get_replicate n None i (Some (a_lease g key)) h));
  live = λ g l h. absurd (none_some l (sym (get-empty nat_cmp g) ∙ h));
  phases = λ g l h. absurd (none_some l (sym (get-empty nat_cmp g) ∙ h));
}

pub begun : (lives : Lives) (t : LeaseTable) (i : ℕ) (l : Leased) → AreHolders lives t → IsOneToOne t → IsFree t.leased i → slice_get t.pool i ≡ Some l.target → generation_of l.life.phase ≡ Some t.next
    → AreHolders (insert lives t.next l) (record { pool = t.pool; leased = set t.leased i (Some (a_lease t.next l.server)); next = t.next + 1 })
begun lives t i l h one free at phase = record {
  held = λ j g key p. elim (get_put t.leased i (Some (a_lease t.next l.server)) j (Some (a_lease g key)) p) [
    | inl x ↦
        let same = same_lease (a_lease t.next l.server) (a_lease g key) x.1 in (
          l,
          subst (λ (k : ℕ). get (insert lives t.next l) k ≡ Some l) same.0 (get_same lives t.next l),
          (
            subst (λ (s : ServerKey). HoldsLease (set t.leased i (Some (a_lease t.next l.server))) j g s) (sym same.1) p,
            subst (λ (k : ℕ). slice_get t.pool k ≡ Some l.target) x.0 at,
          ),
        )
    | inr x ↦
        let old = h.held j g key x.1 in
        let lt : g < t.next = one.below j g key x.1 in (
          old.0,
          get_other lives t.next l g (λ e. omega (arith, lt, e)) ∙ old.1,
          (put_there t.leased i (Some (a_lease t.next l.server)) j x.0 ∙ old.2.0, old.2.1),
        )
  ];
  live = λ g w is. get_after lives t.next l g w _ is
      (λ e same. (
        i,
        subst (λ (k : ℕ). IsAt u i k w) (sym e) (subst (λ (x : Leased). IsAt u i t.next x) same (put_here t.leased i (Some (a_lease t.next l.server)) None free, at)),
      ))
      (λ e old.
      let p = h.live g w old in (
        p.0,
        (
          put_there t.leased i (Some (a_lease t.next l.server)) p.0 (λ q. not_free t.leased p.0 g w.server (subst (IsFree t.leased) q free) p.1.0) ∙ p.1.0,
          p.1.1,
        ),
      ));
  phases = λ g w is. get_after lives t.next l g w _ is
      (λ e same. subst (λ (k : ℕ). generation_of w.life.phase ≡ Some k) (sym e) (subst (λ (x : Leased). generation_of x.life.phase ≡ Some t.next) same phase))
      (λ e old. h.phases g w old);
}
  where
    u : LeaseTable
    u = record { pool = t.pool; leased = set t.leased i (Some (a_lease t.next l.server)); next = t.next + 1 }

pub over : (lives : Lives) (t : LeaseTable) (i g : ℕ) (key : ServerKey) (next : ℕ) → AreHolders lives t → IsOneToOne t → HoldsLease t.leased i g key
    → AreHolders (remove lives g) (record { pool = t.pool; leased = set t.leased i None; next = next })
over lives t i g key next h one holds = record {
  held = λ j k s p. elim (get_put t.leased i None j (Some (a_lease k s)) p) [
    | inl x ↦ absurd (free_or_held (a_lease k s) x.1)
    | inr x ↦
        let old = h.held j k s x.1 in (
          old.0,
          get_left lives g k (λ e. x.0 (one.generations i j g key s holds (subst (λ (q : ℕ). HoldsLease t.leased j q s) e x.1))) ∙ old.1,
          (put_there t.leased i None j x.0 ∙ old.2.0, old.2.1),
        )
  ];
  live = λ k w is.
      let was = get_before lives g k w is in
      let p = h.live k w was.1 in (
        p.0,
        (
          put_there t.leased i None p.0 (λ q. was.0 (one_lease t.leased p.0 k g w.server key p.1.0 (subst (λ (j : ℕ). HoldsLease t.leased j g key) q holds)).0) ∙ p.1.0,
          p.1.1,
        ),
      );
  phases = λ k w is. h.phases k w (get_before lives g k w is).1;
}

pub lived : (lives : Lives) (t : LeaseTable) (g : ℕ) (l : Leased) (life : Life) → AreHolders lives t → get lives g ≡ Some l → generation_of life.phase ≡ Some g
    → AreHolders (insert lives g (record l { life = life })) t
lived lives t g l life h is phase = record {
  held = λ j k s p. let old = h.held j k s p in by k (eq_by_cmp nat_cmp k g) refl j old.0 old.1 old.2;
  live = λ k w has. get_after lives g (record l { life = life }) k w _ has
      (λ e same. let p = h.live g l is in (p.0, subst (λ (x : ℕ). IsAt t p.0 x w) (sym e) (subst (λ (x : Leased). IsAt t p.0 g x) same p.1)))
      (λ e old. h.live k w old);
  phases = λ k w has. get_after lives g (record l { life = life }) k w _ has
      (λ e same. subst (λ (x : ℕ). generation_of w.life.phase ≡ Some x) (sym e) (subst (λ (x : Leased). generation_of x.life.phase ≡ Some g) same phase))
      (λ e old. h.phases k w old);
}
  where
    by : (k : ℕ) (b : Bool) → eq_by_cmp nat_cmp k g ≡ b → (j : ℕ) (w : Leased) → get lives k ≡ Some w → IsAt t j k w
        → (x : Leased) × (get (insert lives g (record l { life = life })) k ≡ Some x) × IsAt t j k x
    by k true e j w has at =
        let key : k ≡ g = same_key k g e in
        let row : w ≡ l = some_is w l (sym has ∙ ap (get lives) key ∙ is) in (
          record l { life = life },
          subst (λ (q : ℕ). get (insert lives g (record l { life = life })) q ≡ Some (record l { life = life })) (sym key) (get_same lives g (record l { life = life })),
          subst (λ (x : Leased). IsAt t j k (record x { life = life })) row at,
        )
    by k false e j w has at = (w, get_other lives g (record l { life = life }) k (λ s. clash (eq_by_cmp nat_cmp k g) (subst (λ (q : ℕ). eq_by_cmp nat_cmp k q ≡ true) s (itself k)) e) ∙ has, at)

-- ---- what the calls on the leases tell

pub row_of : (lives : Lives) (g : ℕ) → contains_key lives g ≡ true → (l : Leased) × (get lives g ≡ Some l)
row_of lives g h = by (get lives g) refl h
  where
    by : (o : Option Leased) → get lives g ≡ o → is_some o ≡ true → (l : Leased) × (get lives g ≡ Some l)
    by None e h = absurd (clash false h refl)
    by (Some l) e h = (l, e)

pub told_user : (lives : Lives) (t : LeaseTable) (user : List ℕ) (b : Bool) → AreHolders lives t
    → MatchBool b ((i g : ℕ) × (key : ServerKey) × HoldsLease t.leased i g key × (key.user ≡ user)) ((i g : ℕ) (key : ServerKey) → HoldsLease t.leased i g key → key.user ≢ user)
    → b ≡ has_live_server lives user
told_user lives t user true h (i, g, key, holds, e) = sym (live_user lives t user i g key h holds e)
told_user lives t user false h n = sym (no_user lives t user h n)

pub below_pool : (t : LeaseTable) (i : ℕ) (xs : List Target) → IsOneToOne t → IsFree t.leased i → xs ≡ t.pool → i < length xs
below_pool t i xs one free e =
    let lt : i < length t.leased = (read_at t.leased i None None free).0 in
    let places = one.places in
    let same : length xs ≡ length t.pool = ap length e in
    omega (arith, lt, places, same)

at_place : {A : Type 0} (xs : List A) (i : ℕ) (x : A) → i < length xs → x ≡ get_or xs i x → slice_get xs i ≡ Some x
at_place xs i x lt e = let w = within xs i lt in w.1 ∙ ap Some (sym (read_at xs i x w.0 w.1).1 ∙ sym e)

pub the_target : (t : LeaseTable) (i : ℕ) (xs : List Target) (x : Target) → IsOneToOne t → IsFree t.leased i → xs ≡ t.pool → x ≡ get_or xs i x → slice_get t.pool i ≡ Some x
the_target t i xs x one free e is = subst (λ (ts : List Target). slice_get ts i ≡ Some x) e (at_place xs i x (below_pool t i xs one free e) is)

pub unleased : (lives : Lives) (t : LeaseTable) (key : ServerKey) → AreHolders lives t → IsOneToOne t → lease_of lives key ≡ None → IsUnleased t.leased key
unleased lives t key h one none = λ i g holds.
    let p = h.held i g key holds in
    none_some (g, p.0) (sym none ∙ the_lease lives t key i g p.0 h one holds p.1)

one_first : (leased : List (Option Held)) (i j : ℕ) → IsFirstFree leased i → IsFirstFree leased j → i ≡ j
one_first leased i j a b =
    let no : i < j → ⊥ = (λ lt. b.1 i lt a.0) in
    let on : j < i → ⊥ = (λ lt. a.1 j lt b.0) in
    equal i j no on
  where
    equal : (i j : ℕ) → (i < j → ⊥) → (j < i → ⊥) → i ≡ j
    equal zero zero a b = refl
    equal zero (suc j) a b = absurd (a (omega arith))
    equal (suc i) zero a b = absurd (b (omega arith))
    equal (suc i) (suc j) a b = ap suc (equal i j (λ lt. a (omega (arith, lt))) (λ lt. b (omega (arith, lt))))

pub no_row : (lives : Lives) (t : LeaseTable) → AreHolders lives t → IsOneToOne t → get lives t.next ≡ None
no_row lives t h one = by (get lives t.next) refl
  where
    by : (o : Option Leased) → get lives t.next ≡ o → o ≡ None
    by None e = refl
    by (Some l) e = let p = h.live t.next l e in let lt : t.next < t.next = one.below p.0 t.next l.server p.1.0 in absurd (omega (arith, lt))

abbrev pub after_take : LeaseTable → ℕ → ServerKey → LeaseTable
after_take t i key = record { pool = t.pool; leased = set t.leased i (Some (a_lease t.next key)); next = t.next + 1 }

pub began : (lives later : Lives) (t u : LeaseTable) (i g : ℕ) (l : Leased) → AreHolders lives t → IsOneToOne t → later ≡ insert lives g l → g ≡ t.next
    → IsFirstFree t.leased i → (j : ℕ) × IsFirstFree t.leased j × (u ≡ after_take t j l.server) → slice_get t.pool i ≡ Some l.target → generation_of l.life.phase ≡ Some g → AreHolders later u
began lives later t u i g l h one put key first taken at phase =
    let place : taken.0 ≡ i = one_first t.leased taken.0 i taken.1 first in
    let table : u ≡ after_take t i l.server = taken.2 ∙ ap (λ (j : ℕ). after_take t j l.server) place in
    let row : later ≡ insert lives t.next l = put ∙ ap (λ (k : ℕ). insert lives k l) key in
    subst (λ (m : Lives). AreHolders m u) (sym row) (subst (λ (v : LeaseTable). AreHolders (insert lives t.next l) v) (sym table) (begun lives t i l h one first.0 at (phase ∙ ap Some key)))

pub ended : (lives later : Lives) (t u : LeaseTable) (g : ℕ) (b : Bool) → AreHolders lives t → IsOneToOne t → later ≡ remove lives g
    → MatchBool b ((i : ℕ) × (key : ServerKey) × HoldsLease t.leased i g key × (u ≡ record { pool = t.pool; leased = set t.leased i None; next = t.next })) (IsNotLive t.leased g × (u ≡ t))
    → AreHolders later u
ended lives later t u g true h one gone (i, key, holds, e) =
    subst (λ (m : Lives). AreHolders m u) (sym gone) (subst (λ (v : LeaseTable). AreHolders (remove lives g) v) (sym e) (over lives t i g key t.next h one holds))
ended lives later t u g false h one gone (n, e) =
    subst (λ (m : Lives). AreHolders m u) (gone_same lives g (by (get lives g) refl) ∙ sym gone) (subst (λ (v : LeaseTable). AreHolders lives v) (sym e) h)
  where
    by : (o : Option Leased) → get lives g ≡ o → o ≡ None
    by None e = refl
    by (Some l) e = let p = h.live g l e in absurd (n p.0 l.server p.1.0)

pub taken_back : (lives later : Lives) (t u : LeaseTable) (i g : ℕ) (key : ServerKey) → AreHolders lives t → IsOneToOne t → HoldsLease t.leased i g key → later ≡ remove lives g
    → u ≡ record { pool = t.pool; leased = set t.leased i None; next = g } → AreHolders later u
taken_back lives later t u i g key h one holds gone e =
    subst (λ (m : Lives). AreHolders m u) (sym gone) (subst (λ (v : LeaseTable). AreHolders (remove lives g) v) (sym e) (over lives t i g key g h one holds))

pub went_on : (lives later : Lives) (t : LeaseTable) (g : ℕ) (life : Life) → AreHolders lives t → contains_key lives g ≡ true → generation_of life.phase ≡ Some g
    → ((l : Leased) → get lives g ≡ Some l → later ≡ insert lives g (record l { life = life })) → AreHolders later t
went_on lives later t g life h there phase put = let row = row_of lives g there in
    subst (λ (m : Lives). AreHolders m t) (sym (put row.0 row.1)) (lived lives t g row.0 life h row.1 phase)

pub holds_last : (lives : Lives) (t : LeaseTable) (g : ℕ) → AreHolders lives t → contains_key lives g ≡ true → IsNotLive t.leased g → ⊥
holds_last lives t g h there none =
    let row = row_of lives g there in
    let p = h.live g row.0 row.1 in
    none p.0 row.0.server p.1.0

-- what a start leaves
pub begins_is : (lives later : Lives) (t u : LeaseTable) (i g : ℕ) (l : Leased) → AreHolders lives t → IsOneToOne t → later ≡ insert lives g l → g ≡ t.next
    → IsFirstFree t.leased i → (j : ℕ) × IsFirstFree t.leased j × (u ≡ after_take t j l.server) → slice_get t.pool i ≡ Some l.target → l.life ≡ record { phase = Spawning g; stop_asked = false }
    → (record { pool = u.pool; lives = later; next = u.next }) ≡ begins l.server (record { pool = t.pool; lives = lives; next = t.next })
begins_is lives later t u i g l h one put key first taken at life =
    let free : free_target t.pool lives ≡ Some l.target = first_free lives t i l.target h one first at in
    let target : l.target ≡ unwrap_or (free_target t.pool lives) [] = ap (λ o. unwrap_or o []) (sym free) in
    let spawning : l.life ≡ record { phase = Spawning t.next; stop_asked = false } = life ∙ ap (λ (k : ℕ). record { phase = Spawning k; stop_asked = false }) key in
    let lease : l ≡ leased_to t.pool lives t.next l.server = (λ i. record { server = l.server; target = target i; life = spawning i }) in
    let rows : later ≡ insert lives t.next (leased_to t.pool lives t.next l.server) = put ∙ ap (λ (k : ℕ). insert lives k l) key ∙ ap (insert lives t.next) lease in
    let pool : u.pool ≡ t.pool = ap (λ (x : LeaseTable). x.pool) taken.2 in
    let next : u.next ≡ t.next + 1 = ap (λ (x : LeaseTable). x.next) taken.2 in
    λ i. record { pool = pool i; lives = rows i; next = next i }

-- ---- a lease that was kept

-- the place of a target that no live server holds is free
pub free_place : (lives : Lives) (t : LeaseTable) (i : ℕ) (target : Target) → AreHolders lives t → IsOneToOne t → slice_get t.pool i ≡ Some target → is_leased lives target ≡ false
    → IsFree t.leased i
free_place lives t i target h one at none =
    let lt : i < length t.pool = (read_at t.pool i target target at).0 in
    let places = one.places in
    let w = within t.leased i (omega (arith, lt, places)) in
    by w.0 w.1
  where
    by : (o : Option Held) → slice_get t.leased i ≡ Some o → IsFree t.leased i
    by None e = e
    by (Some held) e =
        let p = h.held i held.generation held.server e in
        absurd (clash (is_leased lives target)
        (in_any (λ (l : Leased). same l.target target) lives held.generation p.0 p.1 (is_same p.0.target target (some_is p.0.target target (sym p.2.1 ∙ at)))) none)

pub not_live : (lives : Lives) (t : LeaseTable) (g : ℕ) → AreHolders lives t → get lives g ≡ None → IsNotLive t.leased g
not_live lives t g h none = λ i key holds. let p = h.held i g key holds in none_some p.0 (sym none ∙ p.1)

-- a generation that wasn't live holds the target at a free place
pub held_more : (lives : Lives) (t : LeaseTable) (i g : ℕ) (l : Leased) → AreHolders lives t → IsFree t.leased i → slice_get t.pool i ≡ Some l.target → generation_of l.life.phase ≡ Some g
    → get lives g ≡ None → AreHolders (insert lives g l) (record { pool = t.pool; leased = set t.leased i (Some (a_lease g l.server)); next = t.next })
held_more lives t i g l h free at phase none = record {
  held = λ j k key p. elim (get_put t.leased i (Some (a_lease g l.server)) j (Some (a_lease k key)) p) [
    | inl x ↦
        let same = same_lease (a_lease g l.server) (a_lease k key) x.1 in (
          l,
          subst (λ (n : ℕ). get (insert lives g l) n ≡ Some l) same.0 (get_same lives g l),
          (
            subst (λ (s : ServerKey). HoldsLease (set t.leased i (Some (a_lease g l.server))) j k s) (sym same.1) p,
            subst (λ (n : ℕ). slice_get t.pool n ≡ Some l.target) x.0 at,
          ),
        )
    | inr x ↦
        let old = h.held j k key x.1 in (
          old.0,
          get_other lives g l k (λ e. none_some old.0 (sym none ∙ ap (get lives) (sym e) ∙ old.1)) ∙ old.1,
          (put_there t.leased i (Some (a_lease g l.server)) j x.0 ∙ old.2.0, old.2.1),
        )
  ];
  live = λ k w is. get_after lives g l k w _ is
      (λ e same. (
        i,
        subst (λ (n : ℕ). IsAt u i n w) (sym e) (subst (λ (x : Leased). IsAt u i g x) same (put_here t.leased i (Some (a_lease g l.server)) None free, at)),
      ))
      (λ e old.
      let p = h.live k w old in (
        p.0,
        (
          put_there t.leased i (Some (a_lease g l.server)) p.0 (λ q. not_free t.leased p.0 k w.server (subst (IsFree t.leased) q free) p.1.0) ∙ p.1.0,
          p.1.1,
        ),
      ));
  phases = λ k w is. get_after lives g l k w _ is
      (λ e same. subst (λ (n : ℕ). generation_of w.life.phase ≡ Some n) (sym e) (subst (λ (x : Leased). generation_of x.life.phase ≡ Some g) same phase))
      (λ e old. h.phases k w old);
}
  where
    u : LeaseTable
    u = record { pool = t.pool; leased = set t.leased i (Some (a_lease g l.server)); next = t.next }

-- and so it is among those that were changed
pub adopted_too : (lives later : Lives) (t u : LeaseTable) (i g : ℕ) (l : Leased) → AreHolders lives t → later ≡ insert lives g l
    → u ≡ record { pool = t.pool; leased = set t.leased i (Some (a_lease g l.server)); next = t.next } → IsFree t.leased i → slice_get t.pool i ≡ Some l.target
    → generation_of l.life.phase ≡ Some g → get lives g ≡ None → AreHolders later u
adopted_too lives later t u i g l h put held free at phase none =
    subst (λ (m : Lives). AreHolders m u) (sym put)
    (subst (λ (v : LeaseTable). AreHolders (insert lives g l) v) (sym held) (held_more lives t i g l h free at phase none))

-- ---- the place of a target

-- what was found at a place
pub place_found : (pool : List Target) (i : ℕ) (x target : Target) → i < length pool → x ≡ get_or pool i x → same x target ≡ true → slice_get pool i ≡ Some target
place_found pool i x target lt here e = at_place pool i x lt here ∙ ap Some (same_is x target e)

-- no place up to this one
pub not_yet : (pool : List Target) (i : ℕ) (x target : Target) → i < length pool → x ≡ get_or pool i x → same x target ≡ false
    → ((k : ℕ) → k < i → slice_get pool k ≡ Some target → ⊥) → (k : ℕ) → k < i + 1 → slice_get pool k ≡ Some target → ⊥
not_yet pool i x target lt here e before k less at = by (cases_lt k i)
  where
    by : (k < i) ⊎ (i ≤ k) → ⊥
    by (inl earlier) = before k earlier at
    by (inr later) =
        let now : k ≡ i = omega (arith, later, less) in
        let one : x ≡ target = some_is x target (sym (at_place pool i x lt here) ∙ ap (slice_get pool) (sym now) ∙ at) in
        clash (same x target) (is_same x target one) e

pub nowhere : (pool : List Target) (i : ℕ) (target : Target) → length pool ≤ i → ((k : ℕ) → k < i → slice_get pool k ≡ Some target → ⊥) → Contains pool target → ⊥
nowhere pool i target past before there =
    let lt = there.1 in
    before there.0 (omega (arith, lt, past)) (at_place pool there.0 target lt (sym there.2))
