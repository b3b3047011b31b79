-- The rows of a grant against another grant, one by one.
use Rattle.std.proofs.Common.{◌≡◌, Bool, true, false, ◌&&◌, List, [], ◌∷◌, refl, sym, ap, subst, ◌∙◌, inl, inr, T}
use Rattle.std.specs.List.{list_any}
use Rattle.std.specs.Cmp.{tied_itself}
use Rattle.std.specs.Ordering.{is_le, is_lt, is_eq, ordering_then}
use Rattle.std.specs.declared.cmp.Ordering.{Ordering}
use Rattle.std.specs.declared.cmp.Ordering.TheVariants.{Less, Equal, Greater}
use Rattle.std.specs.FinMap.{keys, entries, entries_sorted}
use Rattle.std.specs.FinMap.Entries.{below_all, is_sorted}
use Rattle.std.specs.FinSet.{FinSet}
use Rattle.keyed_rows.proofs.Finite.{tied}
use Rattle.scope_names.specs.declared.action.Action.{Action}
use Rattle.scope_names.specs.ActionOrder.{action_cmp, same_action, actions_exact, actions_total}
use Rattle.scope_filters.specs.declared.filter.Filter.{Filter}
use Rattle.scope_filters.specs.Admits.{admits}
use Rattle.scope_filters.specs.Contexts.{Context}
use Rattle.scope_filters.specs.FilterOrder.{filter_cmp}
use Rattle.scope_filters.specs.Grants.{Rights, filters_at, grant_admits}
use Rattle.scope_expand.specs.Passes.{passes, is_owner_of, HasNoOwnerOf}
use Rattle.scope_expand.specs.Covering.{row_passes}
use Rattle.scope_expand.proofs.Joins.{rows_pass}
use Rattle.scope_expand.proofs.Ones.{or_cases, or_left, or_right, left, right, both_true, not_true, clash}
use Rattle.scope_meet.specs.FilterTexts.{text_cmp}
use Rattle.scope_meet.specs.Containment.{same_filter, row_cmp, IsOutside, IsNotHeld, IsInside}
use Rattle.scope_meet.specs.declared.inside.Inside.TheVariants.{Yes, NotHeld}
use Rattle.scope_meet.proofs.Contained.{holds_whole, held_whole}
use Rattle.scope_meet.proofs.Least.{same_filters, same_itself}

first : (a b : Bool) → T (a && b) → T a
first true b h = tt
first false b h = absurd h

second : (a b : Bool) → T (a && b) → T b
second true b h = h
second false b h = absurd h

less : (o : Ordering) → T (is_lt o) → o ≡ Less
less Less h = refl
less Equal h = absurd h
less Greater h = absurd h

same_actions : (a b : Action) → same_action a b ≡ true → a ≡ b
same_actions a b h = actions_exact a b (tied (action_cmp a b) h)

same_own : (a : Action) → same_action a a ≡ true
same_own a = ap is_eq (tied_itself actions_total a)

-- rows that stand later are of later actions
later : (p : Filter → Bool) (a b : Action) (rows : List (Action × FinSet filter_cmp)) → T (below_all action_cmp a rows) → list_any (row_passes p b) rows ≡ true → action_cmp a b ≡ Less
later p a b [] h k = cc
later p a b (row ∷ rows) h k = elim (or_cases (row_passes p b row) (list_any (row_passes p b) rows) k) as (λ _. action_cmp a b ≡ Less) [
  | inl k ↦ ap (action_cmp a) (same_actions b row.0 (left (same_action b row.0) (list_any p (keys row.1)) k)) ∙ less (action_cmp a row.0) (first (is_lt (action_cmp a row.0)) (below_all action_cmp a rows) h)
  | inr k ↦ later p a b rows (second (is_lt (action_cmp a row.0)) (below_all action_cmp a rows) h) k
]

one_found : (p : Filter → Bool) (fs : List Filter) → list_any p fs ≡ true → (f : Filter) × (list_any (same_filter f) fs ≡ true) × (p f ≡ true)
one_found p [] h = cc
one_found p (f ∷ fs) h = elim (or_cases (p f) (list_any p fs) h) as (λ _. (k : Filter) × (list_any (same_filter k) (f ∷ fs) ≡ true) × (p k ≡ true)) [
  | inl h ↦ (f, or_left (same_filter f f) (list_any (same_filter f) fs) (same_itself f), h)
  | inr h ↦ let r = one_found p fs h in (r.0, or_right (same_filter r.0 f) (list_any (same_filter r.0) fs) r.1, r.2)
]

module _ (m : Context) (g h : Rights) where
  -- the rows that are left are rows of the first grant in order, and all that aren't held are among them
  pub record Left (rest : List (Action × FinSet filter_cmp)) : Type 0 where
    pub sorted : T (is_sorted action_cmp rest)
    pub there : (p : Filter → Bool) (b : Action) → list_any (row_passes p b) rest ≡ true → passes p g b ≡ true
    pub all : (b : Action) (k : Filter) → IsNotHeld m g h b k → list_any (row_passes (same_filter k) b) rest ≡ true

  pub left_none : (rest : List (Action × FinSet filter_cmp)) → rest ≡ entries g → Left rest
  left_none rest e = record {
    sorted = subst (λ (rows : List (Action × FinSet filter_cmp)). T (is_sorted action_cmp rows)) (sym e) (entries_sorted g);
    there = λ p b k. rows_pass p g b ∙ ap (list_any (row_passes p b)) (sym e) ∙ k;
    all = λ b k n. ap (list_any (row_passes (same_filter k) b)) e ∙ sym (rows_pass (same_filter k) g b) ∙ n.0;
  }

  pub left_more : (row : Action × FinSet filter_cmp) (rows rest : List (Action × FinSet filter_cmp)) → rows ≡ row ∷ rest
      → ((k : Filter) → list_any (same_filter k) (keys row.1) ≡ true → holds_whole m h row.0 k ≡ true) → Left rows → Left rest
  left_more row rows rest e none l =
      let s : Left (row ∷ rest) = subst Left e l in
      record {
        sorted = second (below_all action_cmp row.0 rest) (is_sorted action_cmp rest) s.sorted;
        there = λ p b k. s.there p b (or_right (row_passes p b row) (list_any (row_passes p b) rest) k);
        all = λ b k n. elim (or_cases (row_passes (same_filter k) b row) (list_any (row_passes (same_filter k) b) rest) (s.all b k n)) as (λ _. list_any (row_passes (same_filter k) b) rest ≡ true) [
          | inl in_row ↦ absurd (clash (holds_whole m h b k)
              (ap (λ (c : Action). holds_whole m h c k) (same_actions b row.0 (left (same_action b row.0) (list_any (same_filter k) (keys row.1)) in_row))
              ∙ none k (right (same_action b row.0) (list_any (same_filter k) (keys row.1)) in_row))
              (held_whole m h b k n.1))
          | inr k ↦ k
        ];
      }

  pub all_inside : (rest : List (Action × FinSet filter_cmp)) → rest ≡ [] → Left rest → IsInside m g h Yes
  all_inside rest e l a x object k = by (grant_admits m h a x) refl
    where
      by : (b : Bool) → grant_admits m h a x ≡ b → grant_admits m h a x ≡ true
      by true is = is
      by false is =
          let f = one_found (λ f. admits a m f x) (filters_at g a) k in
          absurd (let none : false ≡ true = ap (list_any (row_passes (same_filter f.0) a)) (sym e) ∙ l.all a f.0 (f.1, (x, object, f.2, is)) in cc)

  -- it is the first by its text of those of the row that aren't held
  abbrev pub IsFirst : Action → FinSet filter_cmp → Filter → Type 0
  IsFirst a filters f = (list_any (same_filter f) (keys filters) ≡ true) × (holds_whole m h a f ≡ false)
      × ((k : Filter) → list_any (same_filter k) (keys filters) ≡ true → holds_whole m h a k ≡ false → is_le (text_cmp f k) ≡ true)

  one_of : (p : Filter → Bool) (f : Filter) (fs : List Filter) → list_any (same_filter f) fs ≡ true → p f ≡ true → list_any p fs ≡ true
  one_of p f [] n k = cc
  one_of p f (x ∷ fs) n k = elim (or_cases (same_filter f x) (list_any (same_filter f) fs) n) as (λ _. list_any p (x ∷ fs) ≡ true) [
    | inl s ↦ or_left (p x) (list_any p fs) (ap p (sym (same_filters f x s)) ∙ k)
    | inr n ↦ or_right (p x) (list_any p fs) (one_of p f fs n k)
  ]

  in_grant : (p : Filter → Bool) (row : Action × FinSet filter_cmp) (rows rest : List (Action × FinSet filter_cmp)) → rows ≡ row ∷ rest → Left rows
      → list_any p (keys row.1) ≡ true → passes p g row.0 ≡ true
  in_grant p row rows rest e l k =
      let s : Left (row ∷ rest) = subst Left e l in
      s.there p row.0 (or_left (row_passes p row.0 row) (list_any (row_passes p row.0) rest) (both_true (same_action row.0 row.0) (list_any p (keys row.1)) (same_own row.0) k))

  -- a filter that is found isn't `OwnerOf`, where the first grant has none
  pub found_plain : (row : Action × FinSet filter_cmp) (rows rest : List (Action × FinSet filter_cmp)) (f : Filter) → HasNoOwnerOf g → rows ≡ row ∷ rest → Left rows
      → IsFirst row.0 row.1 f → is_owner_of f ≡ false
  found_plain row rows rest f plain e l is = not_true (is_owner_of f) (λ k.
      clash (passes is_owner_of g row.0) (in_grant is_owner_of row rows rest e l (one_of is_owner_of f (keys row.1) is.0 k)) (plain row.0))

  pub first_outside : (row : Action × FinSet filter_cmp) (rows rest : List (Action × FinSet filter_cmp)) (f : Filter) → rows ≡ row ∷ rest → Left rows
      → IsFirst row.0 row.1 f → IsOutside m h row.0 f → IsInside m g h (NotHeld row.0 f)
  first_outside row rows rest f e l is out = ((in_grant (same_filter f) row rows rest e l is.0, out), before)
    where
      before : (b : Action) (k : Filter) → IsNotHeld m g h b k → is_le (row_cmp row.0 f b k) ≡ true
      before b k n = elim (or_cases (row_passes (same_filter k) b row) (list_any (row_passes (same_filter k) b) rest) (ap (list_any (row_passes (same_filter k) b)) (sym e) ∙ l.all b k n)) as (λ _. is_le (row_cmp row.0 f b k) ≡ true) [
        | inl in_row ↦
            let here : b ≡ row.0 = same_actions b row.0 (left (same_action b row.0) (list_any (same_filter k) (keys row.1)) in_row) in
            let unheld : holds_whole m h row.0 k ≡ false = ap (λ (c : Action). holds_whole m h c k) (sym here) ∙ held_whole m h b k n.1 in
            ap (λ (c : Action). is_le (row_cmp row.0 f c k)) here ∙ ap (λ r. is_le (ordering_then r (text_cmp f k))) (tied_itself actions_total row.0)
            ∙ is.2 k (right (same_action b row.0) (list_any (same_filter k) (keys row.1)) in_row) unheld
        | inr in_rest ↦
            let s : Left (row ∷ rest) = subst Left e l in
            ap (λ r. is_le (ordering_then r (text_cmp f k))) (later (same_filter k) row.0 b rest (first (below_all action_cmp row.0 rest) (is_sorted action_cmp rest) s.sorted) in_rest)
      ]
