-- Two finite maps of which the same is shown have it in the same order.
use Rattle.std.proofs.Common.{◌≡◌, Bool, true, false, cond, ◌&&◌, T, List, [], ◌∷◌, map, Option, Some, None, refl, sym, ap, ◌∙◌, subst}
use Rattle.std.specs.declared.cmp.Ordering.{Ordering}
use Rattle.std.specs.declared.cmp.Ordering.TheVariants.{Less, Equal, Greater}
use Rattle.std.specs.Ordering.{is_eq, is_lt, eq_by_cmp}
use Rattle.std.specs.Cmp.{IsTotalOrder}
use Rattle.std.specs.List.{filter, filter_map, cons_option}
use Rattle.std.specs.FinMap.{FinMap, entries, entries_sorted, get, get-entries, values, IsAntisymmetric}
use Rattle.std.specs.FinMap.Entries.{find, below_all, is_sorted, same_entries}

both : (a b : Bool) → T a → T b → T (a && b)
both true b p q = q
both false b p q = p

first : (a b : Bool) → T (a && b) → T a
first true b p = tt
first false b p = p

second : (a b : Bool) → T (a && b) → T b
second true b p = p
second false b p = absurd p

less : (o : Ordering) → T (is_lt o) → o ≡ Less
less Less p = refl
less Equal p = absurd p
less Greater p = absurd p

tied : (r : Ordering) → is_eq r ≡ true → r ≡ Equal
tied Less h = cc
tied Equal h = refl
tied Greater h = cc

-- what is shown of a row, where there is one
abbrev pub shown : {X Y : Type 0} → (X → Option Y) → Option X → Option Y
shown F None = None
shown F (Some x) = F x

module _ {K X Y : Type 0} (R : K → K → Ordering) (F : X → Option Y) where
  abbrev pick : K → Option Y → List (K × Y) → List (K × Y)
  pick k None es = es
  pick k (Some y) es = (k, y) ∷ es

  abbrev picked : List (K × X) → List (K × Y)
  picked [] = []
  picked (e ∷ es) = pick e.0 (F e.1) (picked es)

  below_picked : (x : K) (es : List (K × X)) → T (below_all R x es) → T (below_all R x (picked es))
  below_picked x [] h = tt
  below_picked x (e ∷ es) h =
      let rest = below_picked x es (second _ _ h) in
      elim (F e.1) as (λ o. T (below_all R x (pick e.0 o (picked es)))) [ None ↦ rest | Some y ↦ both _ _ (first _ _ h) rest ]

  sorted_picked : (es : List (K × X)) → T (is_sorted R es) → T (is_sorted R (picked es))
  sorted_picked [] h = tt
  sorted_picked (e ∷ es) h =
      let rest = sorted_picked es (second _ _ h) in
      elim (F e.1) as (λ o. T (is_sorted R (pick e.0 o (picked es)))) [ None ↦ rest | Some y ↦ both _ _ (below_picked e.0 es (first _ _ h)) rest ]

  values_picked : (es : List (K × X)) → map (λ e. e.1) (picked es) ≡ filter_map F (map (λ e. e.1) es)
  values_picked [] = refl
  values_picked (e ∷ es) =
      elim (F e.1) as (λ o. map (λ (e : K × Y). e.1) (pick e.0 o (picked es)) ≡ cons_option o (filter_map F (map (λ e. e.1) es))) [
        | None ↦ values_picked es
        | Some y ↦ ap (λ (ys : List Y). y ∷ ys) (values_picked es)
      ]

  module _ (o : IsTotalOrder R) where
    below_tied : (x y : K) (es : List (K × Y)) → R x y ≡ Equal → T (below_all R y es) → T (below_all R x es)
    below_tied x y [] p h = tt
    below_tied x y (e ∷ es) p h = both _ _ (subst (λ r. T (is_lt r)) (sym (o.congr x y e.0 p)) (first _ _ h)) (below_tied x y es p (second _ _ h))

    find_below : (q : K) (es : List (K × Y)) → T (below_all R q es) → find R q es ≡ None
    find_below q [] h = refl
    find_below q (e ∷ es) h = ap (λ r. cond (is_eq r) (Some e.1) (find R q es)) (less _ (first _ _ h)) ∙ find_below q es (second _ _ h)

    find_picked : (q : K) (es : List (K × X)) → T (is_sorted R es) → find R q (picked es) ≡ shown F (find R q es)
    find_picked q [] h = refl
    find_picked q (e ∷ es) h =
        elim (eq_by_cmp R q e.0) as (λ b. eq_by_cmp R q e.0 ≡ b → find R q (pick e.0 (F e.1) (picked es)) ≡ shown F (cond b (Some e.1) (find R q es))) [
          | true ↦ λ t. elim (F e.1) as (λ v. find R q (pick e.0 v (picked es)) ≡ v) [
            | None ↦ find_below q (picked es) (below_tied q e.0 (picked es) (tied _ t) (below_picked e.0 es (first _ _ h)))
            | Some y ↦ ap (λ b. cond b (Some y) (find R q (picked es))) t
          ]
          | false ↦ λ t. elim (F e.1) as (λ v. find R q (pick e.0 v (picked es)) ≡ find R q (picked es)) [
            | None ↦ refl
            | Some y ↦ ap (λ b. cond b (Some y) (find R q (picked es))) t
          ] ∙ find_picked q es (second _ _ h)
        ] refl

pub same_shown : {K X Y : Type 0} {R : K → K → Ordering} → IsTotalOrder R → IsAntisymmetric R → (F G : X → Option Y) (m n : FinMap R X)
    → ((q : K) → shown F (get m q) ≡ shown G (get n q)) → filter_map F (values m) ≡ filter_map G (values n)
same_shown {K = K} {X = X} {Y = Y} {R = R} o exact F G m n is =
    let g = entries_sorted m in
    let h = entries_sorted n in
    let same : picked R F (entries m) ≡ picked R G (entries n) = same_entries R o exact (picked R F (entries m)) (picked R G (entries n))
    (sorted_picked R F (entries m) g) (sorted_picked R G (entries n) h)
    (λ q. find_picked R F o q (entries m) g ∙ ap (shown F) (sym (get-entries m q)) ∙ is q ∙ ap (shown G) (get-entries n q) ∙ sym (find_picked R G o q (entries n) h)) in
    sym (values_picked R F (entries m)) ∙ ap (map (λ (e : K × Y). e.1)) same ∙ values_picked R G (entries n)

-- what is shown where a test passes
abbrev pub where_so : {X Y : Type 0} → (X → Bool) → (X → Y) → X → Option Y
where_so p f x = cond (p x) (Some (f x)) None

pub map_filter : {X Y : Type 0} (p : X → Bool) (f : X → Y) (xs : List X) → map f (filter p xs) ≡ filter_map (where_so p f) xs
map_filter p f [] = refl
map_filter {Y = Y} p f (x ∷ xs) =
    elim (p x) as (λ b. map f (cond b (x ∷ filter p xs) (filter p xs)) ≡ cons_option (cond b (Some (f x)) None) (filter_map (where_so p f) xs)) [
      | true ↦ ap (λ (ys : List Y). f x ∷ ys) (map_filter p f xs)
      | false ↦ map_filter p f xs
    ]

pub map_twice : {X Y Z : Type 0} (f : Y → Z) (g : X → Y) (xs : List X) → map f (map g xs) ≡ map (λ x. f (g x)) xs
map_twice f g [] = refl
map_twice {Z = Z} f g (x ∷ xs) = ap (λ (zs : List Z). f (g x) ∷ zs) (map_twice f g xs)
