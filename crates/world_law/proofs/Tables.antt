-- What the changes of a proxy's table keep.
use Rattle.std.proofs.Common.{ℕ, ◌≡◌, ◌≢◌, ◌+◌, ◌≤◌, ◌⊎◌, inl, inr, Bool, true, false, List, Option, Some, None, Result, Ok, Err, refl, ap, sym, ◌∙◌, subst, cond, nat_lt, nat_le, arith}
use Rattle.std.proofs.lemmas.Bool.Decides.{nat_tests}
use Rattle.std.specs.FinMap.{FinMap, get, insert, remove}
use Rattle.keyed_rows.proofs.Finite.{insert_same, insert_other, remove_other, same_or_apart, remove_cases}
use Rattle.route_table.specs.declared.route.Route.{Route}
use Rattle.route_table.specs.declared.route.RouteEntry.{RouteEntry}
use Rattle.route_table.specs.declared.route.RouteRefusal.{RouteRefusal}
use Rattle.route_table.specs.declared.route.RouteRefusal.TheVariants.{NotFound, Stale, BadPath, BadTarget, Full, Memory}
use Rattle.route_table.specs.Path.{segments, segments_cmp, bad_place}
use Rattle.route_table.specs.Table as spec
use Rattle.route_table.specs.Table.{PathRow, Table, listed, seen_of, route_of, stale, full, first_of, bad_path, seen_after, added, with_route, deleted, without, without_route, drop_refusal, delete_refusal, add_refusal, put_refusal, IsAnswer, IsDeletion, IsAfterDeletion, IsLook, Looked, Best, touched}
use Rattle.route_table.proofs.SearchLemmas.{segments_total, segments_exact}
use Rattle.world_law.specs.Answers.{Reply, Adds as IsAddition, Deletes as IsDeletionOf}

abbrev pub Path : Type 0
Path = List (List ℕ)

pub record Entry : Type 0 where
  pub target : List ℕ
  pub serial : Option ℕ

-- the listed routes, and the greatest serial seen for each path
pub record Routes : Type 0 where
  pub route : Path → Option Entry
  pub seen : Path → Option ℕ

abbrev pub entry_in : Option Route → Option Entry
entry_in None = None
entry_in (Some r) = Some (record { target = r.entry.target; serial = r.entry.serial })

abbrev pub routes_in : FinMap segments_cmp PathRow → Routes
routes_in rows = record { route = λ p. entry_in (listed rows p); seen = λ p. seen_of (get rows p) }

-- a serial is listed only where it is the greatest seen
abbrev pub IsExact : Routes → Type 0
IsExact t = (p : Path) (e : Entry) (s : ℕ) → t.route p ≡ Some e → e.serial ≡ Some s → t.seen p ≡ Some s

abbrev pub SeenPast : (Path → Option ℕ) → Path → ℕ → Type 0
SeenPast seen p n = (m : ℕ) × (seen p ≡ Some m) × (n ≤ m)

-- a change that lists no new serial
pub record Harmless (old new : Routes) : Type 0 where
  pub exact : IsExact old → IsExact new
  pub more : (p : Path) (n : ℕ) → SeenPast old.seen p n → SeenPast new.seen p n
  pub fewer : (p : Path) (e : Entry) (s : ℕ) → new.route p ≡ Some e → e.serial ≡ Some s → old.route p ≡ Some e

-- a change that lists one
pub record Adds (old new : Routes) (p : Path) (t : List ℕ) (s : ℕ) : Type 0 where
  pub exact : IsExact old → IsExact new
  pub more : (q : Path) (n : ℕ) → SeenPast old.seen q n → SeenPast new.seen q n
  pub one : (q : Path) (e : Entry) (n : ℕ) → new.route q ≡ Some e → e.serial ≡ Some n → (old.route q ≡ Some e) ⊎ ((p ≡ q) × (t ≡ e.target) × (s ≡ n))
  pub unseen : SeenPast old.seen p (s + 1) → ⊥

pub unchanged : (t : Routes) → Harmless t t
unchanged t = record { exact = λ h. h; more = λ p n h. h; fewer = λ p e s h k. h }

pub some_same : {A : Type 0} (x y : A) → Some x ≡ Some y → x ≡ y
some_same x y h = cc

pub none_some : {A B : Type 0} (x : A) → None ≡ Some x → B
none_some x h = cc

-- p has this route and this serial afterwards, and each other path what it had
abbrev Puts : Routes → Routes → Path → Option Entry → Option ℕ → Type 0
Puts old new p x n = (q : Path) → ((p ≡ q) × (new.route q ≡ x) × (new.seen q ≡ n)) ⊎ ((p ≢ q) × (new.route q ≡ old.route q) × (new.seen q ≡ old.seen q))

-- ---- what a put keeps

put_more : (old new : Routes) (p : Path) (x : Option Entry) (serial : Option ℕ) → Puts old new p x (seen_after serial (old.seen p))
    → ((s : ℕ) → serial ≡ Some s → (m : ℕ) → old.seen p ≡ Some m → m ≤ s)
    → (q : Path) (n : ℕ) → SeenPast old.seen q n → SeenPast new.seen q n
put_more old new p x None put h q n k = elim (put q) [
  | inl e ↦ (k.0, e.2 ∙ (ap old.seen e.0 ∙ k.1), k.2)
  | inr e ↦ (k.0, e.2 ∙ k.1, k.2)
]
put_more old new p x (Some s) put h q n k = elim (put q) [
  | inl e ↦ let l : k.0 ≤ s = h s refl k.0 (ap old.seen e.0 ∙ k.1) in let m : n ≤ k.0 = k.2 in (s, e.2, omega arith)
  | inr e ↦ (k.0, e.2 ∙ k.1, k.2)
]

deletion_harmless : (old new : Routes) (p : Path) (serial : Option ℕ) → Puts old new p None (seen_after serial (old.seen p))
    → ((s : ℕ) → serial ≡ Some s → (m : ℕ) → old.seen p ≡ Some m → m ≤ s) → Harmless old new
deletion_harmless old new p serial put h = record {
  exact = λ x q e s r k. elim (put q) [
    | inl c ↦ none_some e (sym c.1 ∙ r)
    | inr c ↦ c.2 ∙ x q e s (sym c.1 ∙ r) k
  ];
  more = put_more old new p None serial put h;
  fewer = λ q e s r k. elim (put q) [
    | inl c ↦ none_some e (sym c.1 ∙ r)
    | inr c ↦ sym c.1 ∙ r
  ];
}

plain_harmless : (old new : Routes) (p : Path) (a : List ℕ) → Puts old new p (Some (record { target = a; serial = None })) (old.seen p) → Harmless old new
plain_harmless old new p a put = record {
  exact = λ x q e s r k. elim (put q) [
    | inl c ↦ none_some s (ap (λ v. v.serial) (some_same (record { target = a; serial = None }) e (sym c.1 ∙ r)) ∙ k)
    | inr c ↦ c.2 ∙ x q e s (sym c.1 ∙ r) k
  ];
  more = put_more old new p (Some (record { target = a; serial = None })) None put (λ s e. none_some s e);
  fewer = λ q e s r k. elim (put q) [
    | inl c ↦ none_some s (ap (λ v. v.serial) (some_same (record { target = a; serial = None }) e (sym c.1 ∙ r)) ∙ k)
    | inr c ↦ sym c.1 ∙ r
  ];
}

addition_adds : (old new : Routes) (p : Path) (a : List ℕ) (s : ℕ) → Puts old new p (Some (record { target = a; serial = Some s })) (Some s)
    → ((m : ℕ) → old.seen p ≡ Some m → m ≤ s) → Adds old new p a s
addition_adds old new p a s put h = record {
  exact = λ x q e n r k. elim (put q) [
    | inl c ↦ c.2 ∙ (ap (λ v. v.serial) (some_same (record { target = a; serial = Some s }) e (sym c.1 ∙ r)) ∙ k)
    | inr c ↦ c.2 ∙ x q e n (sym c.1 ∙ r) k
  ];
  more = put_more old new p (Some (record { target = a; serial = Some s })) (Some s) put (λ n e m k. subst (λ v. m ≤ v) (some_same s n e) (h m k));
  one = λ q e n r k. elim (put q) [
    | inl c ↦ let same : record { target = a; serial = Some s } ≡ e = some_same (record { target = a; serial = Some s }) e (sym c.1 ∙ r) in
        inr (c.0, ap (λ v. v.target) same, some_same s n (ap (λ v. v.serial) same ∙ k))
    | inr c ↦ inl (sym c.1 ∙ r)
  ];
  unseen = λ k. let l : k.0 ≤ s = h k.0 k.1 in let m : s + 1 ≤ k.0 = k.2 in absurd (omega arith);
}

-- ---- the changes of the table are such puts

put_is : (rows : FinMap segments_cmp PathRow) (p : Path) (x : PathRow) → Puts (routes_in rows) (routes_in (insert rows p x)) p (entry_in x.route) x.seen
put_is rows p x q = elim (same_or_apart segments_total segments_exact q p) [
  | inl e ↦ inl (
    sym e,
    ap (λ (o : Option PathRow). entry_in (route_of o)) (ap (get (insert rows p x)) e ∙ insert_same segments_total segments_exact rows p x),
    ap (λ (o : Option PathRow). seen_of o) (ap (get (insert rows p x)) e ∙ insert_same segments_total segments_exact rows p x),
  )
  | inr n ↦ inr (
    (λ e. n (sym e)),
    ap (λ (o : Option PathRow). entry_in (route_of o)) (insert_other segments_total segments_exact rows p x q n),
    ap (λ (o : Option PathRow). seen_of o) (insert_other segments_total segments_exact rows p x q n),
  )
]

gone : (rows : FinMap segments_cmp PathRow) (p : Path) → get (remove rows p) p ≡ None
gone rows p = by (get (remove rows p) p) refl
  where
    by : (o : Option PathRow) → get (remove rows p) p ≡ o → o ≡ None
    by None e = refl
    by (Some x) e = absurd ((remove_cases segments_total segments_exact rows p p x e).0 refl)

removal_is : (rows : FinMap segments_cmp PathRow) (p : Path) → Puts (routes_in rows) (routes_in (remove rows p)) p None None
removal_is rows p q = elim (same_or_apart segments_total segments_exact q p) [
  | inl e ↦ inl (
    sym e,
    ap (λ (o : Option PathRow). entry_in (route_of o)) (ap (get (remove rows p)) e ∙ gone rows p),
    ap (λ (o : Option PathRow). seen_of o) (ap (get (remove rows p)) e ∙ gone rows p),
  )
  | inr n ↦ inr (
    (λ e. n (sym e)),
    ap (λ (o : Option PathRow). entry_in (route_of o)) (remove_other segments_total segments_exact rows p q n),
    ap (λ (o : Option PathRow). seen_of o) (remove_other segments_total segments_exact rows p q n),
  )
]

without_is : (rows : FinMap segments_cmp PathRow) (p : Path) (n : Option ℕ) → Puts (routes_in rows) (routes_in (without_route rows p n)) p None n
without_is rows p None = removal_is rows p
without_is rows p (Some n) = put_is rows p (record { route = None; seen = Some n })

-- ---- serials

neither : (a b : Option RouteRefusal) → first_of a b ≡ None → (a ≡ None) × (b ≡ None)
neither None b h = (refl, h)
neither (Some r) b h = absurd (none_some {B = ⊥} r (sym h))

fresh_by : (old : ℕ → ℕ → Bool) (given seen : ℕ) (b : Bool) → old given seen ≡ b → cond b (Some (Stale given seen)) None ≡ None → old given seen ≡ false
fresh_by old given seen true e h = absurd (none_some {B = ⊥} (Stale given seen) (sym h))
fresh_by old given seen false e h = e

-- what isn't stale is no less than what was seen
fresh_addition : (seen : Option ℕ) (s : ℕ) → stale nat_lt (Some s) seen ≡ None → (m : ℕ) → seen ≡ Some m → m ≤ s
fresh_addition None s h m e = none_some m e
fresh_addition (Some n) s h m e = let k : n ≡ m = some_same n m e in let t : nat_lt s n ≡ false = fresh_by nat_lt s n (nat_lt s n) refl h in let l : n ≤ s = grind (arith, nat_tests) in subst (λ x. x ≤ s) k l

fresh_deletion : (seen : Option ℕ) (s : ℕ) → stale nat_le (Some s) seen ≡ None → (m : ℕ) → seen ≡ Some m → m ≤ s
fresh_deletion None s h m e = none_some m e
fresh_deletion (Some n) s h m e = let k : n ≡ m = some_same n m e in let t : nat_le s n ≡ false = fresh_by nat_le s n (nat_le s n) refl h in let l : n ≤ s = grind (arith, nat_tests) in subst (λ x. x ≤ s) k l

-- ---- a deletion

fresh_drop : (limit : ℕ) (rows : FinMap segments_cmp PathRow) (p : Path) (serial : Option ℕ) → drop_refusal limit rows p serial ≡ None
    → (s : ℕ) → serial ≡ Some s → (m : ℕ) → seen_of (get rows p) ≡ Some m → m ≤ s
fresh_drop limit rows p None h s e m k = none_some s e
fresh_drop limit rows p (Some n) h s e m k =
    subst (λ x. m ≤ x) (some_same n s e) (fresh_deletion (seen_of (get rows p)) n (neither (stale nat_le (Some n) (seen_of (get rows p))) (full limit rows (get rows p)) h).0 m k)

deleted_harmless : (t : Table) (path : List ℕ) (serial : Option ℕ) → delete_refusal t path serial ≡ None → Harmless (routes_in t.rows) (routes_in (without t.rows (segments path) serial))
deleted_harmless t path serial h =
    deletion_harmless (routes_in t.rows) (routes_in (without t.rows (segments path) serial)) (segments path) serial
    (without_is t.rows (segments path) (seen_after serial (seen_of (get t.rows (segments path)))))
    (fresh_drop t.limit t.rows (segments path) serial (neither (bad_path path) (drop_refusal t.limit t.rows (segments path) serial) h).1)

same_rows : (t t' : Table) → t' ≡ t → Harmless (routes_in t.rows) (routes_in t'.rows)
same_rows t t' e = subst (λ (x : Table). Harmless (routes_in t.rows) (routes_in x.rows)) (sym e) (unchanged (routes_in t.rows))

pub deletion_keeps : (t : Table) (path : List ℕ) (serial : Option ℕ) (reply : Reply) (t' : Table) → IsDeletionOf t path serial reply t' → Harmless (routes_in t.rows) (routes_in t'.rows)
deletion_keeps t path serial (Ok u) t' d =
    subst (λ (x : Table). Harmless (routes_in t.rows) (routes_in x.rows)) (sym d.after) (deleted_harmless t path serial d.answer.0)
deletion_keeps t path serial (Err NotFound) t' d =
    subst (λ (x : Table). Harmless (routes_in t.rows) (routes_in x.rows)) (sym d.after) (deleted_harmless t path serial d.answer.0)
deletion_keeps t path serial (Err (Stale given seen)) t' d = same_rows t t' d.after
deletion_keeps t path serial (Err (BadPath at)) t' d = same_rows t t' d.after
deletion_keeps t path serial (Err BadTarget) t' d = same_rows t t' d.after
deletion_keeps t path serial (Err (Full limit)) t' d = same_rows t t' d.after
deletion_keeps t path serial (Err Memory) t' d = same_rows t t' d.after

-- what the reply to a deletion tells: where it counts as done, its serial or a greater one was seen
abbrev pub DeletionTells : (Path → Option ℕ) → Path → ℕ → Reply → Type 0
DeletionTells seen p s (Ok u) = SeenPast seen p s
DeletionTells seen p s (Err NotFound) = SeenPast seen p s
DeletionTells seen p s (Err (Stale given n)) = SeenPast seen p s
DeletionTells seen p s (Err e) = Unit {0}

self_seen : (old new : Routes) (p : Path) (x : Option Entry) (s : ℕ) → Puts old new p x (Some s) → SeenPast new.seen p s
self_seen old new p x s put = elim (put p) [ inl e ↦ (s, e.2, omega arith) | inr e ↦ absurd (e.0 refl) ]

deleted_seen : (t : Table) (path : List ℕ) (s : ℕ) (t' : Table) → t' ≡ deleted t (segments path) (Some s) → SeenPast (routes_in t'.rows).seen (segments path) s
deleted_seen t path s t' e = subst (λ (x : Table). SeenPast (routes_in x.rows).seen (segments path) s) (sym e)
    (self_seen (routes_in t.rows) (routes_in (without_route t.rows (segments path) (Some s))) (segments path) None s (without_is t.rows (segments path) (Some s)))

stale_by : (s n given seen : ℕ) (b : Bool) → nat_le s n ≡ b → cond b (Some (Stale s n)) None ≡ Some (Stale given seen) → nat_le s n ≡ true
stale_by s n given seen true e h = e
stale_by s n given seen false e h = none_some (Stale given seen) h

refusal_same : (x y : RouteRefusal) → Some x ≡ Some y → x ≡ y
refusal_same x y h = cc

full_not_stale : (given seen limit : ℕ) → Full limit ≡ Stale given seen → ⊥
full_not_stale given seen limit h = cc

bad_not_stale : (given seen at : ℕ) → BadPath at ≡ Stale given seen → ⊥
bad_not_stale given seen at h = cc

full_never : (limit : ℕ) (rows : FinMap segments_cmp PathRow) (o : Option PathRow) (given seen : ℕ) → full limit rows o ≡ Some (Stale given seen) → ⊥
full_never limit rows (Some r) given seen h = none_some (Stale given seen) h
full_never limit rows None given seen h = by (nat_le limit (Rattle.std.specs.FinMap.len rows)) h
  where
    by : (b : Bool) → cond b (Some (Full limit)) None ≡ Some (Stale given seen) → ⊥
    by true e = full_not_stale given seen limit (refusal_same (Full limit) (Stale given seen) e)
    by false e = none_some (Stale given seen) e

stale_seen : (seen : Option ℕ) (s given n : ℕ) (o : Option RouteRefusal) → (o ≡ Some (Stale given n) → ⊥) → first_of (stale nat_le (Some s) seen) o ≡ Some (Stale given n) → (m : ℕ) × (seen ≡ Some m) × (s ≤ m)
stale_seen None s given n o f h = absurd (f h)
stale_seen (Some m) s given n o f h = by (nat_le s m) refl h
  where
    by : (b : Bool) → nat_le s m ≡ b → first_of (cond b (Some (Stale s m)) None) o ≡ Some (Stale given n) → (k : ℕ) × (Some m ≡ Some k) × (s ≤ k)
    by true e g = let l : s ≤ m = grind (arith, nat_tests) in (m, refl, l)
    by false e g = absurd (f g)

bad_first : (o : Option ℕ) (b : Option RouteRefusal) (given n : ℕ) → first_of (Rattle.std.specs.Option.option_map BadPath o) b ≡ Some (Stale given n) → b ≡ Some (Stale given n)
bad_first None b given n h = h
bad_first (Some at) b given n h = absurd (bad_not_stale given n at (refusal_same (BadPath at) (Stale given n) h))

pub deletion_tells : (t : Table) (path : List ℕ) (s : ℕ) (reply : Reply) (t' : Table) → IsDeletionOf t path (Some s) reply t' → DeletionTells (routes_in t'.rows).seen (segments path) s reply
deletion_tells t path s (Ok u) t' d = deleted_seen t path s t' d.after
deletion_tells t path s (Err NotFound) t' d = deleted_seen t path s t' d.after
deletion_tells t path s (Err (Stale given n)) t' d =
    subst (λ (x : Table). SeenPast (routes_in x.rows).seen (segments path) s) (sym d.after)
    (stale_seen (seen_of (get t.rows (segments path))) s given n (full t.limit t.rows (get t.rows (segments path))) (full_never t.limit t.rows (get t.rows (segments path)) given n)
    (bad_first (bad_place path) (drop_refusal t.limit t.rows (segments path) (Some s)) given n d.answer))
deletion_tells t path s (Err (BadPath at)) t' d = tt
deletion_tells t path s (Err BadTarget) t' d = tt
deletion_tells t path s (Err (Full limit)) t' d = tt
deletion_tells t path s (Err Memory) t' d = tt

-- ---- an addition

fresh_put : (t : Table) (path : List ℕ) (s : ℕ) → add_refusal t path (Some s) ≡ None → (m : ℕ) → seen_of (get t.rows (segments path)) ≡ Some m → m ≤ s
fresh_put t path s h m k =
    fresh_addition (seen_of (get t.rows (segments path))) s
    (neither (stale nat_lt (Some s) (seen_of (get t.rows (segments path)))) (full t.limit t.rows (get t.rows (segments path)))
    (neither (bad_path path) (put_refusal nat_lt t.limit t.rows (segments path) (Some s)) h).1).0 m k

added_is : (t : Table) (path : List ℕ) (entry : RouteEntry) (now : ℕ) → Puts (routes_in t.rows) (routes_in (with_route t.rows (segments path) entry now)) (segments path)
    (Some (record { target = entry.target; serial = entry.serial })) (seen_after entry.serial (seen_of (get t.rows (segments path))))
added_is t path entry now =
    put_is t.rows (segments path) (record { route = Some (spec.new_route (segments path) entry now); seen = seen_after entry.serial (seen_of (get t.rows (segments path))) })

pub addition_keeps : (t : Table) (path : List ℕ) (entry : RouteEntry) (now : ℕ) (reply : Reply) (t' : Table) (s : ℕ) → entry.serial ≡ Some s → IsAddition t path entry now reply t'
    → Harmless (routes_in t.rows) (routes_in t'.rows) ⊎ Adds (routes_in t.rows) (routes_in t'.rows) (segments path) entry.target s
addition_keeps t path entry now (Err e) t' s q a = inl (same_rows t t' a.err)
addition_keeps t path entry now (Ok u) t' s q a = inr (subst (λ (x : Table). Adds (routes_in t.rows) (routes_in x.rows) (segments path) entry.target s) (sym a.ok)
    (addition_adds (routes_in t.rows) (routes_in (with_route t.rows (segments path) entry now)) (segments path) entry.target s
    (subst (λ (o : Option ℕ). Puts (routes_in t.rows) (routes_in (with_route t.rows (segments path) entry now)) (segments path) (Some (record { target = entry.target; serial = o })) (seen_after o (seen_of (get t.rows (segments path))))) q (added_is t path entry now))
    (fresh_put t path s (subst (λ (o : Option ℕ). add_refusal t path o ≡ None) q a.answer))))

pub plain_addition_keeps : (t : Table) (path : List ℕ) (entry : RouteEntry) (now : ℕ) (reply : Reply) (t' : Table) → entry.serial ≡ None → IsAddition t path entry now reply t'
    → Harmless (routes_in t.rows) (routes_in t'.rows)
plain_addition_keeps t path entry now (Err e) t' q a = same_rows t t' a.err
plain_addition_keeps t path entry now (Ok u) t' q a = subst (λ (x : Table). Harmless (routes_in t.rows) (routes_in x.rows)) (sym a.ok)
    (plain_harmless (routes_in t.rows) (routes_in (with_route t.rows (segments path) entry now)) (segments path) entry.target
    (subst (λ (o : Option ℕ). Puts (routes_in t.rows) (routes_in (with_route t.rows (segments path) entry now)) (segments path) (Some (record { target = entry.target; serial = o })) (seen_after o (seen_of (get t.rows (segments path))))) q (added_is t path entry now)))

-- ---- a look-up

same_puts : (old new : Routes) (k : Path) → Puts old new k (old.route k) (old.seen k) → Harmless old new
same_puts old new k put = record {
  exact = λ x q e s r h. (seen_is q) ∙ x q e s (sym (route_is q) ∙ r) h;
  more = λ q n h. (h.0, seen_is q ∙ h.1, h.2);
  fewer = λ q e s r h. sym (route_is q) ∙ r;
}
  where
    route_is : (q : Path) → new.route q ≡ old.route q
    route_is q = elim (put q) [ inl c ↦ c.1 ∙ ap old.route c.0 | inr c ↦ c.1 ]

    seen_is : (q : Path) → new.seen q ≡ old.seen q
    seen_is q = elim (put q) [ inl c ↦ c.2 ∙ ap old.seen c.0 | inr c ↦ c.2 ]

touched_keeps : (t : Table) (path : List ℕ) (now : ℕ) (target : List ℕ) (t' : Table) → Looked t.rows (segments path) now target t'.rows → Harmless (routes_in t.rows) (routes_in t'.rows)
touched_keeps t path now target t' l = subst (λ (x : FinMap segments_cmp PathRow). Harmless (routes_in t.rows) (routes_in x)) (sym l.after)
    (same_puts (routes_in t.rows) (routes_in (touched t.rows l.at l.route now)) l.at
    (subst (λ (o : Option Entry). Puts (routes_in t.rows) (routes_in (touched t.rows l.at l.route now)) l.at o (seen_of (get t.rows l.at))) (sym (ap entry_in l.is_best.is_listed))
    (put_is t.rows l.at (record { route = Some (spec.touched_route now l.route); seen = seen_of (get t.rows l.at) }))))

pub look_keeps : (t : Table) (path : List ℕ) (now : ℕ) (found : Result (List ℕ) RouteRefusal) (t' : Table) → IsLook t path now found t' → Harmless (routes_in t.rows) (routes_in t'.rows)
look_keeps t path now (Ok target) t' l = touched_keeps t path now target t' l.1
look_keeps t path now (Err NotFound) t' l = same_rows t t' l.2
look_keeps t path now (Err (BadPath at)) t' l = same_rows t t' l.1
look_keeps t path now (Err Memory) t' l = same_rows t t' l.1
look_keeps t path now (Err (Stale given seen)) t' l = absurd l
look_keeps t path now (Err BadTarget) t' l = absurd l
look_keeps t path now (Err (Full limit)) t' l = absurd l
