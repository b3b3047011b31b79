-- Rows in the order of their keys, each under its own: the keys of those that pass a test are in order, and what look-ups find of them is
-- what a scan over all rows finds.
use Rattle.std.proofs.Common.{◌≡◌, Bool, true, false, ◌&&◌, ◌||◌, T, cond, List, [], ◌∷◌, ◌++◌, Option, Some, None, map, refl, sym, ap, ◌∙◌, subst}
use Rattle.std.specs.declared.cmp.Ordering.{Ordering}
use Rattle.std.specs.declared.cmp.Ordering.TheVariants.{Less, Equal, Greater}
use Rattle.std.specs.Ordering.{is_eq, is_lt, eq_by_cmp}
use Rattle.std.specs.Cmp.{IsTotalOrder, tied_itself}
use Rattle.std.specs.FinMap.{FinMap, IsAntisymmetric, entries, entries_sorted, keys, values, get, find, is_sorted, get-entries}
use Rattle.std.specs.FinMap.Entries.{below_all}
use Rattle.std.specs.List.{AllByRecursion, filter, flat_map}
use Rattle.std.specs.List.Sorted.{IsStrictlySortedBy}
use Rattle.keyed_rows.specs.Rows.{OwnKeys, is_kept_and}
use Rattle.keyed_rows.specs.Sorted.{is_among, in_order}
use Rattle.keyed_rows.proofs.Finite.{tied}
use Rattle.keyed_rows.proofs.KeyLists.{same_keys, sorted_in_order, among_in_order}

both_true : (a b : Bool) → T (a && b) → T a × T b
both_true true b h = (tt, h)
both_true false b h = absurd h

is_less : (r : Ordering) → T (is_lt r) → r ≡ Less
is_less Less h = refl
is_less Equal h = absurd h
is_less Greater h = absurd h

some_none : {A : Type 0} {v : A} → None ≡ Some v → ⊥
some_none h = cc

abbrev pub keys_in : {K X : Type 0} → List (K × X) → List K
keys_in es = map (λ e. e.0) es

module _ {K X : Type 0} (R : K → K → Ordering) where
  below : (k : K) (es : List (K × X)) → T (below_all R k es) → AllByRecursion (λ y. R k y ≡ Less) (keys_in es)
  below k [] h = tt
  below k (e ∷ es) h = let b = both_true (is_lt (R k e.0)) (below_all R k es) h in (is_less (R k e.0) b.0, below k es b.1)

  pub rise : (es : List (K × X)) → T (is_sorted R es) → IsStrictlySortedBy R (keys_in es)
  unfolding IsStrictlySortedBy
  rise [] h = tt
  rise (e ∷ es) h = let b = both_true (below_all R e.0 es) (is_sorted R es) h in (below e.0 es b.0, rise es b.1)

module _ {K X : Type 0} {R : K → K → Ordering} (total : IsTotalOrder R) (exact : IsAntisymmetric R) where
  none_below : (k : K) (es : List (K × X)) → AllByRecursion (λ y. R k y ≡ Less) (keys_in es) → find R k es ≡ None
  none_below k [] h = refl
  none_below k (e ∷ es) h = ap (λ r. cond (is_eq r) (Some e.1) (find R k es)) h.0 ∙ none_below k es h.1

  not_here : (q : K) (row : X) (e : K × X) (es : List (K × X)) → AllByRecursion (λ y. R e.0 y ≡ Less) (keys_in es) → find R q es ≡ Some row → eq_by_cmp R q e.0 ≡ false
  not_here q row e es h at = elim (R q e.0) as (λ r. R q e.0 ≡ r → is_eq r ≡ false) [
    | Less ↦ λ t. refl
    | Equal ↦ λ t. absurd (some_none (sym (none_below e.0 es h) ∙ ap (λ z. find R z es) (sym (exact q e.0 t)) ∙ at))
    | Greater ↦ λ t. refl
  ] refl

  -- what is true of each row that is found is true of each entry
  each : (P : K → X → Type 0) (es : List (K × X)) → IsStrictlySortedBy R (keys_in es) → ((q : K) (row : X) → find R q es ≡ Some row → P q row) → AllByRecursion (λ e. P e.0 e.1) es
  unfolding IsStrictlySortedBy
  each P [] s h = tt
  each P (e ∷ es) s h = (
    h e.0 e.1 (ap (λ r. cond (is_eq r) (Some e.1) (find R e.0 es)) (tied_itself total e.0)),
    each P es s.1 (λ q row at. h q row (ap (λ b. cond b (Some e.1) (find R q es)) (not_here q row e es s.0 at) ∙ at)),
  )

  module _ (key : X → K) where
    own_keys_are : (p : K → Bool) (es : List (K × X)) → AllByRecursion (λ e. key e.1 ≡ e.0) es → filter p (keys_in es) ≡ map key (filter (λ x. p (key x)) (map (λ e. e.1) es))
    own_keys_are p [] own = refl
    own_keys_are p (e ∷ es) own =
        ap (λ k. cond (p k) (k ∷ filter p (keys_in es)) (filter p (keys_in es))) (sym own.0)
        ∙ (elim (p (key e.1)) as (λ b. cond b (key e.1 ∷ filter p (keys_in es)) (filter p (keys_in es)) ≡ map key (cond b (e.1 ∷ filter (λ x. p (key x)) (map (λ e. e.1) es)) (filter (λ x. p (key x)) (map (λ e. e.1) es)))) [
          | true ↦ ap (λ ks. key e.1 ∷ ks) (own_keys_are p es own.1)
          | false ↦ own_keys_are p es own.1
        ])

    own_each : (m : FinMap R X) → OwnKeys key m → AllByRecursion (λ e. key e.1 ≡ e.0) (entries m)
    own_each m own = each (λ k row. key row ≡ k) (entries m) (rise R (entries m) (entries_sorted m)) (λ q row at. own q row (get-entries m q ∙ at))

    -- the keys that pass a test are those of the rows whose own keys pass it
    pub own_keys : (p : K → Bool) (m : FinMap R X) → OwnKeys key m → filter p (keys m) ≡ map key (filter (λ x. p (key x)) (values m))
    own_keys p m own = own_keys_are p (entries m) (own_each m own)

  module _ (key : X → K) (p : X → Bool) where
    abbrev kept_keys : List (K × X) → List K
    kept_keys es = map key (filter p (map (λ e. e.1) es))

    above : (k : K) (es : List (K × X)) → AllByRecursion (λ y. R k y ≡ Less) (keys_in es) → AllByRecursion (λ e. key e.1 ≡ e.0) es → AllByRecursion (λ y. R k y ≡ Less) (kept_keys es)
    above k [] h own = tt
    above k (e ∷ es) h own = elim (p e.1) as (λ b. AllByRecursion (λ y. R k y ≡ Less) (map key (cond b (e.1 ∷ filter p (map (λ e. e.1) es)) (filter p (map (λ e. e.1) es))))) [
      | true ↦ (ap (R k) own.0 ∙ h.0, above k es h.1 own.1)
      | false ↦ above k es h.1 own.1
    ]

    rows_rise : (es : List (K × X)) → IsStrictlySortedBy R (keys_in es) → AllByRecursion (λ e. key e.1 ≡ e.0) es → IsStrictlySortedBy R (kept_keys es)
    unfolding IsStrictlySortedBy
    rows_rise [] s own = tt
    rows_rise (e ∷ es) s own = elim (p e.1) as (λ b. IsStrictlySortedBy R (map key (cond b (e.1 ∷ filter p (map (λ e. e.1) es)) (filter p (map (λ e. e.1) es))))) [
      | true ↦ (subst (λ k. AllByRecursion (λ y. R k y ≡ Less) (kept_keys es)) (sym own.0) (above e.0 es s.0 own.1), rows_rise es s.1 own.1)
      | false ↦ rows_rise es s.1 own.1
    ]

    among_rows : (q : K) (es : List (K × X)) → IsStrictlySortedBy R (keys_in es) → AllByRecursion (λ e. key e.1 ≡ e.0) es → is_among R q (kept_keys es) ≡ is_kept_and p (find R q es)
    unfolding IsStrictlySortedBy
    among_rows q [] s own = refl
    among_rows q (e ∷ es) s own =
        elim (p e.1) as (λ b. p e.1 ≡ b → is_among R q (map key (cond b (e.1 ∷ filter p (map (λ e. e.1) es)) (filter p (map (λ e. e.1) es)))) ≡ is_kept_and p (cond (eq_by_cmp R q e.0) (Some e.1) (find R q es))) [
          | true ↦ λ h. ap (λ k. eq_by_cmp R q k || is_among R q (kept_keys es)) own.0 ∙ ap (λ b. eq_by_cmp R q e.0 || b) (among_rows q es s.1 own.1) ∙ either (eq_by_cmp R q e.0) h
          | false ↦ λ h. among_rows q es s.1 own.1 ∙ neither (eq_by_cmp R q e.0) refl h
        ] refl
      where
        either : (b : Bool) → p e.1 ≡ true → (b || is_kept_and p (find R q es)) ≡ is_kept_and p (cond b (Some e.1) (find R q es))
        either true h = sym h
        either false h = refl

        neither : (b : Bool) → eq_by_cmp R q e.0 ≡ b → p e.1 ≡ false → is_kept_and p (find R q es) ≡ is_kept_and p (cond b (Some e.1) (find R q es))
        neither true t h = ap (λ k. is_kept_and p (find R k es)) (exact q e.0 (tied (R q e.0) t)) ∙ ap (is_kept_and p) (none_below e.0 es s.0) ∙ sym h
        neither false t h = refl

    -- the keys of the rows that pass are in order, and a key is among them where its row is kept and passes
    pub found_rise : (m : FinMap R X) → OwnKeys key m → IsStrictlySortedBy R (map key (filter p (values m)))
    found_rise m own = rows_rise (entries m) (rise R (entries m) (entries_sorted m)) (own_each key m own)

    pub found_among : (m : FinMap R X) → OwnKeys key m → (q : K) → is_among R q (map key (filter p (values m))) ≡ is_kept_and p (get m q)
    found_among m own q =
        among_rows q (entries m) (rise R (entries m) (entries_sorted m)) (own_each key m own) ∙ ap (is_kept_and p) (sym (get-entries m q))

    of_each : {Y : Type 0} (m : FinMap R X) (at : Option X → List Y) (es : List (K × X)) → AllByRecursion (λ e. get m (key e.1) ≡ Some e.1) es
        → flat_map (λ k. at (get m k)) (kept_keys es) ≡ flat_map (λ x. at (Some x)) (filter p (map (λ e. e.1) es))
    of_each m at [] h = refl
    of_each m at (e ∷ es) h = elim (p e.1) as (λ b. flat_map (λ k. at (get m k)) (map key (cond b (e.1 ∷ filter p (map (λ e. e.1) es)) (filter p (map (λ e. e.1) es)))) ≡ flat_map (λ x. at (Some x)) (cond b (e.1 ∷ filter p (map (λ e. e.1) es)) (filter p (map (λ e. e.1) es)))) [
      | true ↦ ap (λ o. at o ++ flat_map (λ k. at (get m k)) (kept_keys es)) h.0 ∙ ap (λ ys. at (Some e.1) ++ ys) (of_each m at es h.1)
      | false ↦ of_each m at es h.1
    ]

    -- what the rows of these keys give is what the rows give
    pub found_give : {Y : Type 0} (m : FinMap R X) → OwnKeys key m → (at : Option X → List Y) → flat_map (λ k. at (get m k)) (map key (filter p (values m))) ≡ flat_map (λ x. at (Some x)) (filter p (values m))
    found_give m own at =
        of_each m at (entries m) (each (λ k row. get m (key row) ≡ Some row) (entries m) (rise R (entries m) (entries_sorted m))
        (λ q row at. let found = get-entries m q ∙ at in ap (get m) (own q row found) ∙ found))

    -- keys that are those of the rows that pass, put in order
    pub found_in_order : (m : FinMap R X) → OwnKeys key m → (ks : List K) → ((q : K) → is_among R q ks ≡ is_kept_and p (get m q)) → in_order R ks ≡ map key (filter p (values m))
    found_in_order m own ks among =
        same_keys total exact (in_order R ks) (map key (filter p (values m))) (sorted_in_order total exact ks) (found_rise m own)
        (λ q. among_in_order total exact q ks ∙ among q ∙ sym (found_among m own q))
