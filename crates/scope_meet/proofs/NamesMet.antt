-- What two lists of groups have in common.
use Rattle.std.proofs.Common.{◌≡◌, ℕ, Bool, true, false, ◌&&◌, ◌||◌, not, cond, List, [], ◌∷◌, ◌++◌, map, refl, sym, ap, ◌∙◌, ◌⊎◌, inl, inr, Result, Ok, Err, is_ok, length, get_or, arith}
use Rattle.std.specs.List.{list_any, filter, flat_map}
use Rattle.std.specs.List.Sorted.{IsSorted, IsBinarySearchResult, IsSearchInRange}
use Rattle.std.specs.Ordering.{is_eq}
use Rattle.std.specs.Cmp.{IsTotalOrder}
use Rattle.std.specs.declared.cmp.Ordering.{Ordering}
use Rattle.std.specs.declared.cmp.Ordering.TheVariants.{Less, Greater}
use Rattle.std.specs.Cmp.Lexicographic.{nat_list_eq_equiv, texts_ties}
use Rattle.std.proofs.lemmas.List.Folds.{list_any-append, list_any_at, Any-from_list_any}
use Rattle.std.proofs.lemmas.Bool.{cases_lt}
use Rattle.std.proofs.lemmas.List.Sorted.{searchable_from_sorted}
use Rattle.hub_kit.specs.KeyOrder.{name_cmp}
use Rattle.scope_names.specs.declared.action.Action.{Action}
use Rattle.scope_filters.specs.declared.object.Object.{Object}
use Rattle.scope_filters.specs.declared.object.Object.TheVariants as Ob
use Rattle.scope_filters.specs.declared.filter.Filter.{Filter}
use Rattle.scope_filters.specs.declared.filter.Filter.TheVariants as Fi
use Rattle.scope_filters.specs.Admits.{admits, any_admits}
use Rattle.scope_filters.specs.Contexts.{Context, same, is_member}
use Rattle.scope_meet.specs.Meets.{group_names, is_among, AreGroupMeets}
use Rattle.scope_meet.proofs.GroupLists.{shared, apart, users_among}
use Rattle.scope_meet.proofs.Exact.{tied, same_is, is_same, left, right, both_true, or_left, or_right, or_cases}

-- ---- a search among sorted items

nowhere : {X : Type 0} (p : X → Bool) (xs : List X) → (list_any p xs ≡ true → ⊥) → list_any p xs ≡ false
nowhere p xs none = by (list_any p xs) none
  where
    by : (b : Bool) → (b ≡ true → ⊥) → b ≡ false
    by true none = absurd (none refl)
    by false none = refl

unequal : (o : Ordering) → is_eq o ≡ true → (o ≡ Less) ⊎ (o ≡ Greater) → ⊥
unequal o h (inl e) = let k : false ≡ true = sym (ap is_eq e) ∙ h in cc
unequal o h (inr e) = let k : false ≡ true = sym (ap is_eq e) ∙ h in cc

pub searched : {K : Type 0} {R : K → K → Ordering} (o : IsTotalOrder R) (xs : List K) (x : K) (r : Result ℕ ℕ)
    → IsSearchInRange r (length xs) → IsBinarySearchResult (λ y. R y x) xs r → IsSorted R xs → is_ok r ≡ list_any (λ y. is_eq (R y x)) xs
searched {K = K} {R = R} o xs x (Ok i) bound found sorted = sym (list_any_at (λ y. is_eq (R y x)) xs i x bound (ap is_eq (found x)))
searched {K = K} {R = R} o xs x (Err i) bound found sorted =
    let parts = found (searchable_from_sorted o (λ y. y) xs x sorted) in
    sym (nowhere (λ y. is_eq (R y x)) xs (λ h.
    let at = Any-from_list_any (λ y. is_eq (R y x)) xs h in
    elim (cases_lt at.0 i) as (λ _. ⊥) [
      | inl below ↦ unequal (R (get_or xs at.0 at.1) x) (ap (λ (y : K). is_eq (R y x)) at.3 ∙ at.4) (inl (parts.0 at.0 at.1 (omega arith) below))
      | inr above ↦ unequal (R (get_or xs at.0 at.1) x) (ap (λ (y : K). is_eq (R y x)) at.3 ∙ at.4) (inr (parts.1 at.0 at.1 above at.2))
    ]))

-- ---- tests of names

module _ {X : Type 0} where
  -- those who pass a test and those who don't
  pub split_any : (p q : X → Bool) (xs : List X) → list_any p xs ≡ (list_any p (filter q xs) || list_any p (filter (λ x. not (q x)) xs))
  split_any p q [] = refl
  split_any p q (x ∷ xs) = elim (q x) as (λ b. (p x || list_any p xs) ≡ (list_any p (cond b (x ∷ filter q xs) (filter q xs)) || list_any p (cond (not b) (x ∷ filter (λ x. not (q x)) xs) (filter (λ x. not (q x)) xs)))) [
    | true ↦ ap (λ b. p x || b) (split_any p q xs) ∙ first (p x) _ _
    | false ↦ ap (λ b. p x || b) (split_any p q xs) ∙ second (p x) _ _
  ]
    where
      first : (a b c : Bool) → (a || (b || c)) ≡ ((a || b) || c)
      first true b c = refl
      first false b c = refl

      second : (a b c : Bool) → (a || (b || c)) ≡ (b || (a || c))
      second true true c = refl
      second true false c = refl
      second false b c = refl

  pub kept_any : (p q : X → Bool) (xs : List X) → list_any p (filter q xs) ≡ list_any (λ x. q x && p x) xs
  kept_any p q [] = refl
  kept_any p q (x ∷ xs) = elim (q x) as (λ b. list_any p (cond b (x ∷ filter q xs) (filter q xs)) ≡ ((b && p x) || list_any (λ x. q x && p x) xs)) [
    | true ↦ ap (λ b. p x || b) (kept_any p q xs)
    | false ↦ kept_any p q xs
  ]

  pub any_map : {Y : Type 0} (p : Y → Bool) (f : X → Y) (xs : List X) → list_any p (map f xs) ≡ list_any (λ x. p (f x)) xs
  any_map p f [] = refl
  any_map p f (x ∷ xs) = ap (λ b. p (f x) || b) (any_map p f xs)

  pub any_flat : {Y : Type 0} (p : Y → Bool) (f : X → List Y) (xs : List X) → list_any p (flat_map f xs) ≡ list_any (λ x. list_any p (f x)) xs
  any_flat p f [] = refl
  any_flat p f (x ∷ xs) = list_any-append p (f x) (flat_map f xs) ∙ ap (λ b. list_any p (f x) || b) (any_flat p f xs)

  pub any_alike : (p q : X → Bool) → ((x : X) → p x ≡ q x) → (xs : List X) → list_any p xs ≡ list_any q xs
  any_alike p q is [] = refl
  any_alike p q is (x ∷ xs) = ap (λ b. b || list_any p xs) (is x) ∙ ap (λ b. q x || b) (any_alike p q is xs)

  pub any_and : (p : X → Bool) (c : Bool) (xs : List X) → list_any (λ x. p x && c) xs ≡ (list_any p xs && c)
  any_and p true [] = refl
  any_and p false [] = refl
  any_and p c (x ∷ xs) = ap (λ b. (p x && c) || b) (any_and p c xs) ∙ both (p x) (list_any p xs) c
    where
      both : (a b c : Bool) → ((a && c) || (b && c)) ≡ ((a || b) && c)
      both true true true = refl
      both true true false = refl
      both true false true = refl
      both true false false = refl
      both false b c = refl

  pub any_none : (p : X → Bool) → ((x : X) → p x ≡ false) → (xs : List X) → list_any p xs ≡ false
  any_none p none [] = refl
  any_none p none (x ∷ xs) = ap (λ b. b || list_any p xs) (none x) ∙ any_none p none xs

-- ---- names that are among others

-- the same test, by the order
alike : (k n : List ℕ) → is_eq (name_cmp k n) ≡ same n k
alike k n = sym (texts_ties k n) ∙ nat_list_eq_equiv.symm k n

found : (p : List ℕ → Bool) (xs : List (List ℕ)) → list_any p xs ≡ true → (x : List ℕ) × (is_among xs x ≡ true) × (p x ≡ true)
found p [] h = cc
found p (x ∷ xs) h = elim (or_cases (p x) (list_any p xs) h) as (λ _. (y : List ℕ) × (is_among (x ∷ xs) y ≡ true) × (p y ≡ true)) [
  | inl k ↦ (x, or_left _ _ (alike x x ∙ is_same x x refl), k)
  | inr k ↦ let r = found p xs k in (r.0, or_right _ _ r.1, r.2)
]

placed : (p : List ℕ → Bool) (x : List ℕ) (xs : List (List ℕ)) → is_among xs x ≡ true → p x ≡ true → list_any p xs ≡ true
placed p x [] h k = cc
placed p x (y ∷ ys) h k = elim (or_cases (is_eq (name_cmp y x)) (is_among ys x) h) as (λ _. list_any p (y ∷ ys) ≡ true) [
  | inl e ↦ or_left _ _ (ap p (tied y x e) ∙ k)
  | inr e ↦ or_right _ _ (placed p x ys e k)
]

alike_truths : (a b : Bool) → (a ≡ true → b ≡ true) → (b ≡ true → a ≡ true) → a ≡ b
alike_truths true b to from = sym (to refl)
alike_truths false true to from = from refl
alike_truths false false to from = refl

module _ (p : List ℕ → Bool) where
  shared_swaps : (gs hs : List (List ℕ)) → list_any p (shared gs hs) ≡ true → list_any p (shared hs gs) ≡ true
  shared_swaps gs hs h =
      let r = found (λ g. is_among hs g && p g) gs (sym (kept_any p (is_among hs) gs) ∙ h) in
      kept_any p (is_among gs) hs ∙ placed (λ h. is_among gs h && p h) r.0 hs (left (is_among hs r.0) (p r.0) r.2) (both_true _ _ r.1 (right (is_among hs r.0) (p r.0) r.2))

  both_sides : (s o t u : Bool) → u ≡ (o && t) → (s || u) ≡ ((s || o) && (s || t))
  both_sides true o t u h = refl
  both_sides false o t u h = h

  -- groups of both lists pass, or one that the first alone has and one that the second alone has
  pub together : (gs hs : List (List ℕ)) (u : Bool) → u ≡ (list_any p (apart gs hs) && list_any p (apart hs gs))
      → (list_any p (shared gs hs) || u) ≡ (list_any p gs && list_any p hs)
  together gs hs u h =
      both_sides (list_any p (shared gs hs)) (list_any p (apart gs hs)) (list_any p (apart hs gs)) u h
      ∙ ap (λ b. b && (list_any p (shared gs hs) || list_any p (apart hs gs))) (sym (split_any p (is_among hs) gs))
      ∙ ap (λ b. list_any p gs && (b || list_any p (apart hs gs))) (alike_truths _ _ (shared_swaps gs hs) (shared_swaps hs gs))
      ∙ ap (λ b. list_any p gs && b) (sym (split_any p (is_among gs) hs))

not_both : (b : Bool) → b ≡ true → not b ≡ true → ⊥
not_both true h k = cc
not_both false h k = cc

-- no group that the first list alone has is one that the second alone has
none_apart : (gs hs : List (List ℕ)) (o : List ℕ) → list_any (λ g. same g o) (apart gs hs) ≡ true → list_any (λ g. same g o) (apart hs gs) ≡ true → ⊥
none_apart gs hs o h k =
    let r = found (λ g. not (is_among hs g) && same g o) gs (sym (kept_any (λ g. same g o) (λ g. not (is_among hs g)) gs) ∙ h) in
    let s = found (λ g. not (is_among gs g) && same g o) hs (sym (kept_any (λ g. same g o) (λ g. not (is_among gs g)) hs) ∙ k) in
    let e : r.0 ≡ s.0 = same_is r.0 o (right (not (is_among hs r.0)) (same r.0 o) r.2) ∙ sym (same_is s.0 o (right (not (is_among gs s.0)) (same s.0 o) s.2)) in
    not_both (is_among hs r.0) (ap (is_among hs) e ∙ s.1) (left (not (is_among hs r.0)) (same r.0 o) r.2)

-- ---- the members of groups

module _ (a : Action) (m : Context) (x : Object) where
  step : (pu pv s s' any rest : Bool) → s' ≡ s → (s ≡ true → pu ≡ pv) → rest ≡ (any && pv) → ((pu && s) || rest) ≡ ((s' || any) && pv)
  step pu true true s' any rest e h r = rw (h refl, e) refl
  step pu false true s' true rest e h r = rw (h refl, e, r) refl
  step pu false true s' false rest e h r = rw (h refl, e, r) refl
  step true pv false s' any rest e h r = rw (e, r) refl
  step false pv false s' any rest e h r = rw (e, r) refl

  -- of those who pass a test, v is one exactly if v is there and passes
  one_passes : (p : List ℕ → Bool) (v : List ℕ) (us : List (List ℕ)) → list_any (λ u. p u && same u v) us ≡ (list_any (same v) us && p v)
  one_passes p v [] = refl
  one_passes p v (u ∷ us) = step (p u) (p v) (same u v) (same v u) _ _ (nat_list_eq_equiv.symm v u) (λ h. ap p (same_is u v h)) (one_passes p v us)

  -- v is among the members of groups
  members_any : (v : List ℕ) (us hs : List (List ℕ)) → ((p : List ℕ → Bool) → list_any p us ≡ list_any p (flat_map m hs)) → is_among us v ≡ list_any (is_member m v) hs
  members_any v us hs is = is (λ k. is_eq (name_cmp k v)) ∙ any_flat (λ k. is_eq (name_cmp k v)) m hs
      ∙ any_alike (λ h. list_any (λ k. is_eq (name_cmp k v)) (m h)) (is_member m v) (λ h. any_alike (λ k. is_eq (name_cmp k v)) (same v) (λ k. alike k v) (m h)) hs

  -- the users of both, where the object is the user v or one of the servers of v
  users_any : (v : List ℕ) → ((u : List ℕ) → admits a m (Fi.User u) x ≡ same u v) → (us gs hs : List (List ℕ)) → ((p : List ℕ → Bool) → list_any p us ≡ list_any p (flat_map m hs))
      → any_admits a m (flat_map (λ g. users_among us (m g)) gs) x ≡ (list_any (is_member m v) gs && list_any (is_member m v) hs)
  users_any v is us gs hs members =
      any_flat (λ f. admits a m f x) (λ g. users_among us (m g)) gs
      ∙ any_alike (λ g. any_admits a m (users_among us (m g)) x) (λ g. is_member m v g && is_among us v) (λ g.
      any_map (λ f. admits a m f x) Fi.User (filter (is_among us) (m g))
      ∙ any_alike (λ u. admits a m (Fi.User u) x) (λ u. same u v) is (filter (is_among us) (m g))
      ∙ kept_any (λ u. same u v) (is_among us) (m g) ∙ one_passes (is_among us) v (m g)) gs
      ∙ any_and (is_member m v) (is_among us v) gs ∙ ap (λ b. list_any (is_member m v) gs && b) (members_any v us hs members)

  -- and none of them, where it is another object
  no_users : ((u : List ℕ) → admits a m (Fi.User u) x ≡ false) → (us gs : List (List ℕ)) → any_admits a m (flat_map (λ g. users_among us (m g)) gs) x ≡ false
  no_users none us gs =
      any_flat (λ f. admits a m f x) (λ g. users_among us (m g)) gs
      ∙ any_none (λ g. any_admits a m (users_among us (m g)) x) (λ g.
      any_map (λ f. admits a m f x) Fi.User (filter (is_among us) (m g)) ∙ any_none (λ u. admits a m (Fi.User u) x) none (filter (is_among us) (m g))) gs

  -- with what the groups of the object are told by
  joined : (p : List ℕ → Bool) → ((g : List ℕ) → admits a m (Fi.Group g) x ≡ p g) → (gs hs us : List (List ℕ))
      → any_admits a m (flat_map (λ g. users_among us (m g)) (apart gs hs)) x ≡ (list_any p (apart gs hs) && list_any p (apart hs gs))
      → any_admits a m (map Fi.Group (shared gs hs) ++ flat_map (λ g. users_among us (m g)) (apart gs hs)) x ≡ (list_any p gs && list_any p hs)
  joined p is gs hs us users =
      list_any-append (λ f. admits a m f x) (map Fi.Group (shared gs hs)) (flat_map (λ g. users_among us (m g)) (apart gs hs))
      ∙ ap (λ b. b || any_admits a m (flat_map (λ g. users_among us (m g)) (apart gs hs)) x)
      (any_map (λ f. admits a m f x) Fi.Group (shared gs hs) ∙ any_alike (λ g. admits a m (Fi.Group g) x) p is (shared gs hs))
      ∙ together p gs hs (any_admits a m (flat_map (λ g. users_among us (m g)) (apart gs hs)) x) users

both_none : (a b : Bool) → (a ≡ true → b ≡ true → ⊥) → false ≡ (a && b)
both_none true true h = absurd (h refl refl)
both_none true false h = refl
both_none false b h = refl

none_and : (a b : Bool) → a ≡ false → false ≡ (a && b)
none_and true b h = cc
none_and false b h = refl

names_met : (a : Action) (m : Context) (gs hs us : List (List ℕ)) (x : Object) → ((p : List ℕ → Bool) → list_any p us ≡ list_any p (flat_map m (apart hs gs)))
    → any_admits a m (map Fi.Group (shared gs hs) ++ flat_map (λ g. users_among us (m g)) (apart gs hs)) x
    ≡ (list_any (λ g. admits a m (Fi.Group g) x) gs && list_any (λ g. admits a m (Fi.Group g) x) hs)
names_met a m gs hs us (Ob.User v) is = joined a m (Ob.User v) (is_member m v) (λ g. refl) gs hs us (users_any a m (Ob.User v) v (λ u. refl) us (apart gs hs) (apart hs gs) is)
names_met a m gs hs us (Ob.Server k) is = joined a m (Ob.Server k) (is_member m k.user) (λ g. refl) gs hs us (users_any a m (Ob.Server k) k.user (λ u. refl) us (apart gs hs) (apart hs gs) is)
names_met a m gs hs us (Ob.Group o) is = joined a m (Ob.Group o) (λ g. same g o) (λ g. refl) gs hs us
    (no_users a m (Ob.Group o) (λ u. refl) us (apart gs hs) ∙ both_none _ _ (none_apart gs hs o))
names_met a m gs hs us Ob.Hub is = joined a m Ob.Hub (λ g. false) (λ g. refl) gs hs us
    (no_users a m Ob.Hub (λ u. refl) us (apart gs hs) ∙ none_and _ _ (any_none (λ g. false) (λ g. refl) (apart gs hs)))
names_met a m gs hs us (Ob.Service o) is = joined a m (Ob.Service o) (λ g. false) (λ g. refl) gs hs us
    (no_users a m (Ob.Service o) (λ u. refl) us (apart gs hs) ∙ none_and _ _ (any_none (λ g. false) (λ g. refl) (apart gs hs)))

pub groups_met : (m : Context) (gs hs met : List Filter) (ns ks us : List (List ℕ))
    → ((p : List ℕ → Bool) → list_any p ns ≡ list_any p (flat_map group_names gs)) → ((p : List ℕ → Bool) → list_any p ks ≡ list_any p (flat_map group_names hs))
    → ((p : List ℕ → Bool) → list_any p us ≡ list_any p (flat_map m (apart ks ns)))
    → met ≡ map Fi.Group (shared ns ks) ++ flat_map (λ g. users_among us (m g)) (apart ns ks) → AreGroupMeets m gs hs met
groups_met m gs hs met ns ks us ours theirs members is a x =
    ap (λ fs. any_admits a m fs x) is ∙ names_met a m ns ks us x members
    ∙ ap (λ b. b && list_any (λ g. admits a m (Fi.Group g) x) ks) (ours (λ g. admits a m (Fi.Group g) x) ∙ sym (any_map (λ f. admits a m f x) Fi.Group (flat_map group_names gs)))
    ∙ ap (λ b. any_admits a m (map Fi.Group (flat_map group_names gs)) x && b) (theirs (λ g. admits a m (Fi.Group g) x) ∙ sym (any_map (λ f. admits a m f x) Fi.Group (flat_map group_names hs)))

-- ---- where one of the lists has no group that the other doesn't have

nothing_more : (fs : List Filter) → fs ≡ fs ++ []
nothing_more [] = refl
nothing_more (f ∷ fs) = ap (λ (l : List Filter). f ∷ l) (nothing_more fs)

nobody_among : (members : List (List ℕ)) → users_among [] members ≡ []
nobody_among [] = refl
nobody_among (u ∷ us) = nobody_among us

nobody : (m : Context) (gs : List (List ℕ)) → flat_map (λ g. users_among [] (m g)) gs ≡ []
nobody m [] = refl
nobody m (g ∷ gs) = ap (λ (l : List Filter). l ++ flat_map (λ (n : List ℕ). users_among [] (m n)) gs) (nobody_among (m g)) ∙ nobody m gs

pub shared_met : (m : Context) (gs hs met : List Filter) (ns ks : List (List ℕ))
    → ((p : List ℕ → Bool) → list_any p ns ≡ list_any p (flat_map group_names gs)) → ((p : List ℕ → Bool) → list_any p ks ≡ list_any p (flat_map group_names hs))
    → met ≡ map Fi.Group (shared ns ks) → (apart ns ks ≡ []) ⊎ (apart ks ns ≡ []) → AreGroupMeets m gs hs met
shared_met m gs hs met ns ks ours theirs is (inl e) = groups_met m gs hs met ns ks (flat_map m (apart ks ns)) ours theirs (λ p. refl)
    (is ∙ nothing_more (map Fi.Group (shared ns ks)) ∙ ap (λ (l : List (List ℕ)). map Fi.Group (shared ns ks) ++ flat_map (λ (n : List ℕ). users_among (flat_map m (apart ks ns)) (m n)) l) (sym e))
shared_met m gs hs met ns ks ours theirs is (inr e) = groups_met m gs hs met ns ks [] ours theirs (λ p. ap (λ (l : List (List ℕ)). list_any p (flat_map m l)) (sym e))
    (is ∙ nothing_more (map Fi.Group (shared ns ks)) ∙ ap (λ (l : List Filter). map Fi.Group (shared ns ks) ++ l) (sym (nobody m (apart ns ks))))

pub none_met : (m : Context) (gs hs met : List Filter) → gs ≡ [] → met ≡ [] → AreGroupMeets m gs hs met
none_met m gs hs met e f a x =
    ap (λ (l : List Filter). any_admits a m l x) f
    ∙ sym (ap (λ (l : List Filter). any_admits a m (map Fi.Group (flat_map group_names l)) x && any_admits a m (map Fi.Group (flat_map group_names hs)) x) e)

-- the same lists have the same in common
pub met_again : (m : Context) (gs hs ns ks met : List Filter) → gs ≡ ns → hs ≡ ks → AreGroupMeets m gs hs met → AreGroupMeets m ns ks met
met_again m gs hs ns ks met e f h a x = h a x ∙ ap (λ (l : List Filter). any_admits a m (map Fi.Group (flat_map group_names l)) x && any_admits a m (map Fi.Group (flat_map group_names hs)) x) e
    ∙ ap (λ (l : List Filter). any_admits a m (map Fi.Group (flat_map group_names ns)) x && any_admits a m (map Fi.Group (flat_map group_names l)) x) f
