-- Searches through all rows of a finite map under numbers, by its look-ups; and a sum over its rows.
use Rattle.std.proofs.Common.{ℕ, ◌≡◌, ◌≢◌, ◌+◌, Bool, true, false, cond, ◌||◌, ◌&&◌, T, List, [], ◌∷◌, map, length, Option, Some, None, refl, sym, ap, subst, ◌∙◌, arith}
use Rattle.std.specs.Prelude.{sum_by}
use Rattle.std.specs.declared.cmp.Ordering.{Ordering}
use Rattle.std.specs.declared.cmp.Ordering.TheVariants.{Less, Equal, Greater}
use Rattle.std.specs.Ordering.{nat_cmp, is_eq, is_lt, eq_by_cmp}
use Rattle.std.specs.Cmp.{nat_cmp_total, tied_itself}
use Rattle.std.specs.List as scan
use Rattle.std.specs.List.{list_any}
use Rattle.std.proofs.lemmas.List.Sums.{sum_by-cons}
use Rattle.std.specs.FinMap.{FinMap, get, insert, remove, values, entries, entries_sorted, entries-insert, get-entries, get-insert, get-remove, same_map, nat_cmp-IsAntisymmetric, empty, len-empty, len-entries}
use Rattle.std.specs.FinMap.Entries.{find, put, is_sorted, below_all, by_order}

pub some_is : {A : Type 0} (x y : A) → Some x ≡ Some y → x ≡ y
some_is x y h = cc

pub none_some : {A : Type 0} (x : A) → None ≡ Some x → ⊥
none_some x h = cc

pub clash : (b : Bool) → b ≡ true → b ≡ false → ⊥
clash b h k = cc

first : (a b : Bool) → T (a && b) → T a
first true b p = tt
first false b p = p

second : (a b : Bool) → T (a && b) → T b
second true b p = p
second false b p = absurd p

less : (o : Ordering) → T (is_lt o) → o ≡ Less
less Less p = refl
less Equal p = absurd p
less Greater p = absurd p

tied : (o : Ordering) → is_eq o ≡ true → o ≡ Equal
tied Less h = cc
tied Equal h = refl
tied Greater h = cc

less_apart : (o : Ordering) → o ≡ Less → is_eq o ≡ false
less_apart o h = ap is_eq h

pub itself : (g : ℕ) → eq_by_cmp nat_cmp g g ≡ true
itself g = ap is_eq (tied_itself nat_cmp_total g)

pub same_key : (g h : ℕ) → eq_by_cmp nat_cmp g h ≡ true → g ≡ h
same_key g h e = nat_cmp-IsAntisymmetric g h (tied (nat_cmp g h) e)

pub other_key : (g h : ℕ) → g ≢ h → eq_by_cmp nat_cmp g h ≡ false
other_key g h n = by (eq_by_cmp nat_cmp g h) refl
  where
    by : (b : Bool) → eq_by_cmp nat_cmp g h ≡ b → b ≡ false
    by true e = absurd (n (same_key g h e))
    by false e = refl

apart : (x q : ℕ) → nat_cmp x q ≡ Less → eq_by_cmp nat_cmp q x ≡ false
apart x q h = other_key q x (λ e. clash (eq_by_cmp nat_cmp x q) (subst (λ (k : ℕ). eq_by_cmp nat_cmp k q ≡ true) e (itself q)) (less_apart (nat_cmp x q) h))

or_second : (a b : Bool) → b ≡ true → (a || b) ≡ true
or_second true b h = refl
or_second false b h = h

or_first : (a b : Bool) → a ≡ true → (a || b) ≡ true
or_first a b h = ap (λ x. x || b) h

module _ {X : Type 0} where
  -- ---- in a list of entries whose keys rise

  above : (x q : ℕ) (v : X) (es : List (ℕ × X)) → T (below_all nat_cmp x es) → find nat_cmp q es ≡ Some v → nat_cmp x q ≡ Less
  above x q v [] b h = absurd (none_some v h)
  above x q v (e ∷ es) b h = elim (eq_by_cmp nat_cmp q e.0) as (λ t. eq_by_cmp nat_cmp q e.0 ≡ t → cond t (Some e.1) (find nat_cmp q es) ≡ Some v → nat_cmp x q ≡ Less) [
    | true ↦ λ t f. subst (λ (k : ℕ). nat_cmp x k ≡ Less) (sym (same_key q e.0 t)) (less _ (first _ _ b))
    | false ↦ λ t f. above x q v es (second _ _ b) f
  ] refl h

  -- what a search finds stands under its key and passes
  found : (p : ℕ × X → Bool) (es : List (ℕ × X)) (e : ℕ × X) → T (is_sorted nat_cmp es) → scan.find p es ≡ Some e → (find nat_cmp e.0 es ≡ Some e.1) × (p e ≡ true)
  found p [] e s h = absurd (none_some e h)
  found p (x ∷ es) e s h = elim (p x) as (λ t. p x ≡ t → cond t (Some x) (scan.find p es) ≡ Some e → (cond (eq_by_cmp nat_cmp e.0 x.0) (Some x.1) (find nat_cmp e.0 es) ≡ Some e.1) × (p e ≡ true)) [
    | true ↦ λ t f. let same : x ≡ e = some_is x e f in
        subst (λ (y : ℕ × X). (cond (eq_by_cmp nat_cmp y.0 x.0) (Some x.1) (find nat_cmp y.0 es) ≡ Some y.1) × (p y ≡ true)) same (ap (λ b. cond b (Some x.1) (find nat_cmp x.0 es)) (itself x.0), t)
    | false ↦ λ t f. let rest = found p es e (second _ _ s) f in
        (ap (λ b. cond b (Some x.1) (find nat_cmp e.0 es)) (apart x.0 e.0 (above x.0 e.0 e.1 es (first _ _ s) rest.0)) ∙ rest.0, rest.1)
  ] refl h

  -- a row that passes isn't missed
  missed : (p : ℕ × X → Bool) (es : List (ℕ × X)) (q : ℕ) (v : X) → find nat_cmp q es ≡ Some v → p (q, v) ≡ true → scan.find p es ≡ None → ⊥
  missed p [] q v f t h = none_some v f
  missed p (x ∷ es) q v f t h = elim (eq_by_cmp nat_cmp q x.0) as (λ b. eq_by_cmp nat_cmp q x.0 ≡ b → cond b (Some x.1) (find nat_cmp q es) ≡ Some v → ⊥) [
    | true ↦ λ b g.
        let key : q ≡ x.0 = same_key q x.0 b in
        let row : x.1 ≡ v = some_is x.1 v g in
        let passes : p x ≡ true = subst (λ (y : X). p (x.0, y) ≡ true) (sym row) (subst (λ (k : ℕ). p (k, v) ≡ true) key t) in
        none_some x (sym h ∙ ap (λ b. cond b (Some x) (scan.find p es)) passes)
    | false ↦ λ b g. elim (p x) as (λ c. cond c (Some x) (scan.find p es) ≡ None → ⊥) [
      | true ↦ λ m. none_some x (sym m)
      | false ↦ λ m. missed p es q v g t m
    ] h
  ] refl f

  any_found : (p : X → Bool) (es : List (ℕ × X)) → T (is_sorted nat_cmp es) → list_any p (map (λ e. e.1) es) ≡ true → (q : ℕ) × (v : X) × (find nat_cmp q es ≡ Some v) × (p v ≡ true)
  any_found p [] s h = cc
  any_found p (x ∷ es) s h = elim (p x.1) as (λ t. p x.1 ≡ t → (t || list_any p (map (λ e. e.1) es)) ≡ true → (q : ℕ) × (v : X) × (find nat_cmp q (x ∷ es) ≡ Some v) × (p v ≡ true)) [
    | true ↦ λ t f. (x.0, x.1, ap (λ b. cond b (Some x.1) (find nat_cmp x.0 es)) (itself x.0), t)
    | false ↦ λ t f. let rest = any_found p es (second _ _ s) f in
        (rest.0, rest.1, ap (λ b. cond b (Some x.1) (find nat_cmp rest.0 es)) (apart x.0 rest.0 (above x.0 rest.0 rest.1 es (first _ _ s) rest.2)) ∙ rest.2, rest.3)
  ] refl h

  any_row : (p : X → Bool) (es : List (ℕ × X)) (q : ℕ) (v : X) → find nat_cmp q es ≡ Some v → p v ≡ true → list_any p (map (λ e. e.1) es) ≡ true
  any_row p [] q v f t = absurd (none_some v f)
  any_row p (x ∷ es) q v f t = elim (eq_by_cmp nat_cmp q x.0) as (λ b. cond b (Some x.1) (find nat_cmp q es) ≡ Some v → (p x.1 || list_any p (map (λ e. e.1) es)) ≡ true) [
    | true ↦ λ g. or_first (p x.1) _ (ap p (some_is x.1 v g) ∙ t)
    | false ↦ λ g. or_second (p x.1) _ (any_row p es q v g t)
  ] f

  put_turn : (f : X → ℕ) (k : ℕ) (v : X) (e : ℕ × X) (es : List (ℕ × X)) → cond (eq_by_cmp nat_cmp k e.0) (Some e.1) (find nat_cmp k es) ≡ None
      → (find nat_cmp k es ≡ None → sum_by f (map (λ e. e.1) (put nat_cmp k v es)) ≡ f v + sum_by f (map (λ e. e.1) es))
      → (r : Ordering) → nat_cmp k e.0 ≡ r
      → sum_by f (map (λ e. e.1) (by_order r ((k, v) ∷ e ∷ es) ((e.0, v) ∷ es) (e ∷ put nat_cmp k v es))) ≡ f v + sum_by f (e.1 ∷ map (λ e. e.1) es)
  put_turn f k v e es h later Less r = sum_by-cons f v (e.1 ∷ map (λ e. e.1) es)
  put_turn f k v e es h later Equal r = absurd (none_some e.1 (sym h ∙ ap (λ o. cond (is_eq o) (Some e.1) (find nat_cmp k es)) r))
  put_turn f k v e es h later Greater r =
      let rest = later (sym (ap (λ o. cond (is_eq o) (Some e.1) (find nat_cmp k es)) r) ∙ h) in
      let here = sum_by-cons f e.1 (map (λ e. e.1) (put nat_cmp k v es)) in
      let there = sum_by-cons f e.1 (map (λ e. e.1) es) in
      omega (arith, rest, here, there)

  sum_put : (f : X → ℕ) (k : ℕ) (v : X) (es : List (ℕ × X)) → find nat_cmp k es ≡ None → sum_by f (map (λ e. e.1) (put nat_cmp k v es)) ≡ f v + sum_by f (map (λ e. e.1) es)
  sum_put f k v [] h = sum_by-cons f v []
  sum_put f k v (e ∷ es) h = put_turn f k v e es h (λ n. sum_put f k v es n) (nat_cmp k e.0) refl

  -- ---- in a finite map

  pub find_none : (p : ℕ × X → Bool) (m : FinMap nat_cmp X) → ((g : ℕ) (v : X) → get m g ≡ Some v → p (g, v) ≡ true → ⊥) → scan.find p (entries m) ≡ None
  find_none p m h = by (scan.find p (entries m)) refl
    where
      by : (o : Option (ℕ × X)) → scan.find p (entries m) ≡ o → o ≡ None
      by None e = refl
      by (Some x) e = let f = found p (entries m) x (entries_sorted m) e in absurd (h x.0 x.1 (get-entries m x.0 ∙ f.0) f.1)

  pub find_one : (p : ℕ × X → Bool) (m : FinMap nat_cmp X) (g : ℕ) (v : X) → get m g ≡ Some v → p (g, v) ≡ true
      → ((h : ℕ) (w : X) → get m h ≡ Some w → p (h, w) ≡ true → h ≡ g) → scan.find p (entries m) ≡ Some (g, v)
  find_one p m g v is t only = by (scan.find p (entries m)) refl
    where
      by : (o : Option (ℕ × X)) → scan.find p (entries m) ≡ o → o ≡ Some (g, v)
      by None e = absurd (missed p (entries m) g v (sym (get-entries m g) ∙ is) t e)
      by (Some x) e =
          let f = found p (entries m) x (entries_sorted m) e in
          let key : x.0 ≡ g = only x.0 x.1 (get-entries m x.0 ∙ f.0) f.1 in
          let row : x.1 ≡ v = some_is x.1 v (sym (get-entries m x.0 ∙ f.0) ∙ ap (get m) key ∙ is) in
          λ i. Some (key i, row i)

  -- what a search finds is a row, and passes
  pub found_in : (p : ℕ × X → Bool) (m : FinMap nat_cmp X) (x : ℕ × X) → scan.find p (entries m) ≡ Some x → (get m x.0 ≡ Some x.1) × (p x ≡ true)
  found_in p m x e = let f = found p (entries m) x (entries_sorted m) e in (get-entries m x.0 ∙ f.0, f.1)

  pub any_in : (p : X → Bool) (m : FinMap nat_cmp X) → list_any p (values m) ≡ true → (g : ℕ) × (v : X) × (get m g ≡ Some v) × (p v ≡ true)
  any_in p m h = let f = any_found p (entries m) (entries_sorted m) h in (f.0, f.1, get-entries m f.0 ∙ f.2, f.3)

  pub in_any : (p : X → Bool) (m : FinMap nat_cmp X) (g : ℕ) (v : X) → get m g ≡ Some v → p v ≡ true → list_any p (values m) ≡ true
  in_any p m g v h t = any_row p (entries m) g v (sym (get-entries m g) ∙ h) t

  pub get_same : (m : FinMap nat_cmp X) (g : ℕ) (v : X) → get (insert m g v) g ≡ Some v
  get_same m g v = get-insert nat_cmp_total m g v g ∙ ap (λ b. cond b (Some v) (get m g)) (itself g)

  pub get_other : (m : FinMap nat_cmp X) (g : ℕ) (v : X) (h : ℕ) → h ≢ g → get (insert m g v) h ≡ get m h
  get_other m g v h n = get-insert nat_cmp_total m g v h ∙ ap (λ b. cond b (Some v) (get m h)) (other_key h g n)

  pub get_gone : (m : FinMap nat_cmp X) (g : ℕ) → get (remove m g) g ≡ None
  get_gone m g = get-remove nat_cmp_total m g g ∙ ap (λ b. cond b None (get m g)) (itself g)

  pub get_left : (m : FinMap nat_cmp X) (g h : ℕ) → h ≢ g → get (remove m g) h ≡ get m h
  get_left m g h n = get-remove nat_cmp_total m g h ∙ ap (λ b. cond b None (get m h)) (other_key h g n)

  -- a row of the map after an insertion is the new one, or was there
  pub get_after : (m : FinMap nat_cmp X) (g : ℕ) (v : X) (h : ℕ) (w : X) (A : Type 0) → get (insert m g v) h ≡ Some w → (h ≡ g → v ≡ w → A) → (h ≢ g → get m h ≡ Some w → A) → A
  get_after m g v h w A is new old = by (eq_by_cmp nat_cmp h g) refl
    where
      by : (b : Bool) → eq_by_cmp nat_cmp h g ≡ b → A
      by true e = new (same_key h g e) (some_is v w (sym (ap (λ b. cond b (Some v) (get m h)) e) ∙ sym (get-insert nat_cmp_total m g v h) ∙ is))
      by false e = old (λ s. clash (eq_by_cmp nat_cmp h g) (subst (λ (k : ℕ). eq_by_cmp nat_cmp h k ≡ true) s (itself h)) e) (sym (ap (λ b. cond b (Some v) (get m h)) e) ∙ sym (get-insert nat_cmp_total m g v h) ∙ is)

  pub get_before : (m : FinMap nat_cmp X) (g h : ℕ) (w : X) → get (remove m g) h ≡ Some w → (h ≢ g) × (get m h ≡ Some w)
  get_before m g h w is = by (eq_by_cmp nat_cmp h g) refl
    where
      by : (b : Bool) → eq_by_cmp nat_cmp h g ≡ b → (h ≢ g) × (get m h ≡ Some w)
      by true e = absurd (none_some w (sym (ap (λ b. cond b None (get m h)) e) ∙ sym (get-remove nat_cmp_total m g h) ∙ is))
      by false e = ((λ s. clash (eq_by_cmp nat_cmp h g) (subst (λ (k : ℕ). eq_by_cmp nat_cmp h k ≡ true) s (itself h)) e), sym (ap (λ b. cond b None (get m h)) e) ∙ sym (get-remove nat_cmp_total m g h) ∙ is)

  -- ---- sums

  pub sum_new : (f : X → ℕ) (m : FinMap nat_cmp X) (g : ℕ) (v : X) → get m g ≡ None → sum_by f (values (insert m g v)) ≡ f v + sum_by f (values m)
  sum_new f m g v h = ap (λ es. sum_by f (map (λ e. e.1) es)) (entries-insert nat_cmp_total m g v) ∙ sum_put f g v (entries m) (sym (get-entries m g) ∙ h)

  cond_same : (b : Bool) (x y z : Option X) → cond b x y ≡ cond b x (cond b z y)
  cond_same true x y z = refl
  cond_same false x y z = refl

  again : (m : FinMap nat_cmp X) (g : ℕ) (v : X) → insert m g v ≡ insert (remove m g) g v
  again m g v = same_map nat_cmp_total nat_cmp-IsAntisymmetric _ _ (λ q. get-insert nat_cmp_total m g v q ∙ cond_same (eq_by_cmp nat_cmp q g) (Some v) (get m q) None
      ∙ sym (get-insert nat_cmp_total (remove m g) g v q ∙ ap (cond (eq_by_cmp nat_cmp q g) (Some v)) (get-remove nat_cmp_total m g q)))

  back : (m : FinMap nat_cmp X) (g : ℕ) (v : X) → get m g ≡ Some v → m ≡ insert m g v
  back m g v h = same_map nat_cmp_total nat_cmp-IsAntisymmetric _ _ (λ q. by q (eq_by_cmp nat_cmp q g) refl ∙ sym (get-insert nat_cmp_total m g v q))
    where
      by : (q : ℕ) (b : Bool) → eq_by_cmp nat_cmp q g ≡ b → get m q ≡ cond (eq_by_cmp nat_cmp q g) (Some v) (get m q)
      by q true e = ap (get m) (same_key q g e) ∙ h ∙ sym (ap (λ b. cond b (Some v) (get m q)) e)
      by q false e = sym (ap (λ b. cond b (Some v) (get m q)) e)

  abbrev pub part : (X → ℕ) → Option X → ℕ
  part f None = 0
  part f (Some v) = f v

  pub gone_same : (m : FinMap nat_cmp X) (g : ℕ) → get m g ≡ None → m ≡ remove m g
  gone_same m g e = same_map nat_cmp_total nat_cmp-IsAntisymmetric m (remove m g) (λ q. gone q (eq_by_cmp nat_cmp q g) refl ∙ sym (get-remove nat_cmp_total m g q))
    where
      gone : (q : ℕ) (b : Bool) → eq_by_cmp nat_cmp q g ≡ b → get m q ≡ cond (eq_by_cmp nat_cmp q g) None (get m q)
      gone q true t = ap (get m) (same_key q g t) ∙ e ∙ sym (ap (λ b. cond b None (get m q)) t)
      gone q false t = sym (ap (λ b. cond b None (get m q)) t)

  -- what the row of a number adds to the sum
  pub sum_without : (f : X → ℕ) (m : FinMap nat_cmp X) (g : ℕ) → sum_by f (values m) ≡ part f (get m g) + sum_by f (values (remove m g))
  sum_without f m g = by (get m g) refl
    where
      by : (o : Option X) → get m g ≡ o → sum_by f (values m) ≡ part f o + sum_by f (values (remove m g))
      by None e = let h : sum_by f (values m) ≡ sum_by f (values (remove m g)) = ap (λ (n : FinMap nat_cmp X). sum_by f (values n)) (gone_same m g e) in omega (arith, h)
      by (Some v) e = ap (λ (n : FinMap nat_cmp X). sum_by f (values n)) (back m g v e ∙ again m g v) ∙ sum_new f (remove m g) g v (get_gone m g)

  pub sum_with : (f : X → ℕ) (m : FinMap nat_cmp X) (g : ℕ) (v : X) → sum_by f (values (insert m g v)) ≡ f v + sum_by f (values (remove m g))
  sum_with f m g v = ap (λ (n : FinMap nat_cmp X). sum_by f (values n)) (again m g v) ∙ sum_new f (remove m g) g v (get_gone m g)

  none_left : (es : List (ℕ × X)) → length es ≡ 0 → es ≡ []
  none_left [] h = refl
  none_left (e ∷ es) h = absurd (omega (arith, h))

  pub sum_empty : (f : X → ℕ) → sum_by f (values (empty {X = X} {R = nat_cmp})) ≡ 0
  sum_empty f = ap (λ es. sum_by f (map (λ e. e.1) es)) (none_left (entries empty) (sym (len-entries empty) ∙ len-empty nat_cmp X))
