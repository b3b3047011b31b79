-- The first filter by its text of those that aren't held.
use Rattle.std.proofs.Common.{◌≡◌, Bool, true, false, cond, if◌then◌else◌, MatchOption, List, [], ◌∷◌, Option, Some, None, refl, sym, ap, subst, ◌∙◌, ◌⊎◌, inl, inr}
use Rattle.std.specs.List.{list_any}
use Rattle.std.specs.Cmp.{IsTotalOrder, on_total, alike_right, tied_itself}
use Rattle.std.specs.Cmp.Lexicographic.{nat_list_cmp_total}
use Rattle.std.specs.BTreeMap.Comparable.{le_lt_trans}
use Rattle.std.specs.Ordering.{is_le, is_lt, is_eq, ordering_reverse}
use Rattle.std.specs.declared.cmp.Ordering.{Ordering}
use Rattle.std.specs.declared.cmp.Ordering.TheVariants.{Less, Equal, Greater}
use Rattle.keyed_rows.proofs.Finite.{tied}
use Rattle.scope_filters.specs.declared.filter.Filter.{Filter}
use Rattle.scope_filters.specs.contracts.filter.FilterOrd.TheImpl.Laws.{total-law}
use Rattle.scope_filters.specs.FilterOrder.{filter_cmp, filter_exact}
use Rattle.scope_filters.specs.Scopes.{filter_text}
use Rattle.scope_expand.proofs.Ones.{or_cases, or_left, or_right, clash}
use Rattle.scope_meet.specs.FilterTexts.{written, text_cmp}
use Rattle.scope_meet.specs.Containment.{same_filter}

-- the first by its text so far, with one more filter
abbrev pub lesser_of : Option Filter → Filter → Filter
lesser_of None f = f
lesser_of (Some g) f = if is_lt (text_cmp f g) then f else g

abbrev pub lesser : Option Filter → Filter → Bool → Option Filter
lesser least f true = least
lesser least f false = Some (lesser_of least f)

-- the first by its text of the filters that aren't held
abbrev pub least_from : (Filter → Bool) → Option Filter → List Filter → Option Filter
least_from held least [] = least
least_from held least (f ∷ fs) = least_from held (lesser least f (held f)) fs

pub lesser_is : (least : Option Filter) (f r : Filter) → MatchOption least (r ≡ f) (λ g. r ≡ (if is_lt (text_cmp f g) then f else g)) → r ≡ lesser_of least f
lesser_is None f r h = h
lesser_is (Some g) f r h = h

pub text_total : IsTotalOrder text_cmp
text_total = on_total (λ f. filter_text (written f)) nat_list_cmp_total

abbrev pub le : Filter → Filter → Bool
le f g = is_le (text_cmp f g)

le_self : (f : Filter) → le f f ≡ true
le_self f = ap is_le (tied_itself text_total f)

lt_le : (f g : Filter) → text_cmp f g ≡ Less → le f g ≡ true
lt_le f g e = ap is_le e

is_less : (o : Ordering) → is_lt o ≡ true → o ≡ Less
is_less Less h = refl
is_less Equal h = cc
is_less Greater h = cc

turned : (o : Ordering) → is_lt o ≡ false → is_le (ordering_reverse o) ≡ true
turned Less h = cc
turned Equal h = refl
turned Greater h = refl

not_lt : (f g : Filter) → is_lt (text_cmp f g) ≡ false → le g f ≡ true
not_lt f g h = ap is_le (text_total.antisymm g f) ∙ turned (text_cmp f g) h

le_trans : (f g k : Filter) → le f g ≡ true → le g k ≡ true → le f k ≡ true
le_trans f g k p q = by (text_cmp g k) refl
  where
    by : (r : Ordering) → text_cmp g k ≡ r → le f k ≡ true
    by Less e = lt_le f k (le_lt_trans text_total f g k p e)
    by Equal e = ap is_le (sym (alike_right text_total g k f e)) ∙ p
    by Greater e = absurd (let h : true ≡ false = sym q ∙ ap is_le e in cc)

pub same_filters : (f g : Filter) → same_filter f g ≡ true → f ≡ g
same_filters f g h = filter_exact f g (tied (filter_cmp f g) h)

pub same_itself : (f : Filter) → same_filter f f ≡ true
same_itself f = ap is_eq (tied_itself total-law f)

some_same : {f g : Filter} → Some f ≡ Some g → f ≡ g
some_same h = cc

lesser_some : (least : Option Filter) (f : Filter) → lesser least f false ≡ None → ⊥
lesser_some least f h = cc

module _ (held : Filter → Bool) where
  -- where none is found all are held
  pub least_none : (least : Option Filter) (fs : List Filter) → least_from held least fs ≡ None → (least ≡ None) × ((k : Filter) → list_any (same_filter k) fs ≡ true → held k ≡ true)
  least_none least [] h = (h, λ k n. cc)
  least_none least (f ∷ fs) h = by (held f) refl (least_none (lesser least f (held f)) fs h)
    where
      by : (b : Bool) → held f ≡ b → (lesser least f (held f) ≡ None) × ((k : Filter) → list_any (same_filter k) fs ≡ true → held k ≡ true)
          → (least ≡ None) × ((k : Filter) → list_any (same_filter k) (f ∷ fs) ≡ true → held k ≡ true)
      by true e r = (
        ap (lesser least f) (sym e) ∙ r.0,
        λ k n. elim (or_cases (same_filter k f) (list_any (same_filter k) fs) n) as (λ _. held k ≡ true) [
          | inl s ↦ ap held (same_filters k f s) ∙ e
          | inr n ↦ r.1 k n
        ],
      )
      by false e r = absurd (lesser_some least f (ap (lesser least f) (sym e) ∙ r.0))

  -- the one that is found is among them and isn't held, and none that isn't held has a lesser text
  pub record Found (least : Option Filter) (fs : List Filter) (f : Filter) : Type 0 where
    pub place : (least ≡ Some f) ⊎ ((list_any (same_filter f) fs ≡ true) × (held f ≡ false))
    pub before : (k : Filter) → least ≡ Some k → le f k ≡ true
    pub first : (k : Filter) → list_any (same_filter k) fs ≡ true → held k ≡ false → le f k ≡ true

  -- the one at the front is held
  front_held : (least : Option Filter) (x : Filter) (fs : List Filter) (f : Filter) → held x ≡ true → Found least fs f → Found least (x ∷ fs) f
  front_held least x fs f e r = record {
    place = elim r.place as (λ _. (least ≡ Some f) ⊎ ((list_any (same_filter f) (x ∷ fs) ≡ true) × (held f ≡ false))) [
      | inl h ↦ inl h
      | inr h ↦ inr (or_right (same_filter f x) (list_any (same_filter f) fs) h.0, h.1)
    ];
    before = r.before;
    first = λ k n u. elim (or_cases (same_filter k x) (list_any (same_filter k) fs) n) as (λ _. le f k ≡ true) [
      | inl s ↦ absurd (clash (held x) e (ap held (sym (same_filters k x s)) ∙ u))
      | inr n ↦ r.first k n u
    ];
  }

  -- it isn't, and is the least so far
  front_taken : (least : Option Filter) (x : Filter) (fs : List Filter) (f : Filter) → held x ≡ false → ((k : Filter) → least ≡ Some k → le x k ≡ true) → Found (Some x) fs f → Found least (x ∷ fs) f
  front_taken least x fs f e lower r = record {
    place = inr (elim r.place as (λ _. (list_any (same_filter f) (x ∷ fs) ≡ true) × (held f ≡ false)) [
      | inl h ↦ (or_left (same_filter f x) (list_any (same_filter f) fs) (ap (same_filter f) (some_same h) ∙ same_itself f), ap held (sym (some_same h)) ∙ e)
      | inr h ↦ (or_right (same_filter f x) (list_any (same_filter f) fs) h.0, h.1)
    ]);
    before = λ k l. le_trans f x k (r.before x refl) (lower k l);
    first = λ k n u. elim (or_cases (same_filter k x) (list_any (same_filter k) fs) n) as (λ _. le f k ≡ true) [
      | inl s ↦ ap (le f) (same_filters k x s) ∙ r.before x refl
      | inr n ↦ r.first k n u
    ];
  }

  -- it isn't, and another one is the least so far
  front_left : (g : Filter) (x : Filter) (fs : List Filter) (f : Filter) → le g x ≡ true → Found (Some g) fs f → Found (Some g) (x ∷ fs) f
  front_left g x fs f higher r = record {
    place = elim r.place as (λ _. (Some g ≡ Some f) ⊎ ((list_any (same_filter f) (x ∷ fs) ≡ true) × (held f ≡ false))) [
      | inl h ↦ inl h
      | inr h ↦ inr (or_right (same_filter f x) (list_any (same_filter f) fs) h.0, h.1)
    ];
    before = r.before;
    first = λ k n u. elim (or_cases (same_filter k x) (list_any (same_filter k) fs) n) as (λ _. le f k ≡ true) [
      | inl s ↦ ap (le f) (same_filters k x s) ∙ le_trans f g x (r.before g refl) higher
      | inr n ↦ r.first k n u
    ];
  }

  unheld : (least : Option Filter) (x : Filter) (fs : List Filter) (f : Filter) → held x ≡ false → Found (lesser least x false) fs f → Found least (x ∷ fs) f
  unheld None x fs f e r = front_taken None x fs f e (λ k l. cc) r
  unheld (Some g) x fs f e r = by (is_lt (text_cmp x g)) refl r
    where
      by : (b : Bool) → is_lt (text_cmp x g) ≡ b → Found (Some (cond b x g)) fs f → Found (Some g) (x ∷ fs) f
      by true l r = front_taken (Some g) x fs f e (λ k s. ap (le x) (sym (some_same s)) ∙ lt_le x g (is_less (text_cmp x g) l)) r
      by false l r = front_left g x fs f (not_lt x g l) r

  pub least_some : (least : Option Filter) (fs : List Filter) (f : Filter) → least_from held least fs ≡ Some f → Found least fs f
  least_some least [] f h = record { place = inl h; before = λ k l. ap (le f) (some_same (sym l ∙ h)) ∙ le_self f; first = λ k n u. cc }
  least_some least (x ∷ fs) f h = by (held x) refl (least_some (lesser least x (held x)) fs f h)
    where
      by : (b : Bool) → held x ≡ b → Found (lesser least x (held x)) fs f → Found least (x ∷ fs) f
      by true e r = front_held least x fs f e (subst (λ (b : Bool). Found (lesser least x b) fs f) e r)
      by false e r = unheld least x fs f e (subst (λ (b : Bool). Found (lesser least x b) fs f) e r)

  -- both as the search says them
  pub least_told : (o : Option Filter) (fs : List Filter) → o ≡ least_from held None fs
      → MatchOption o ((k : Filter) → list_any (same_filter k) fs ≡ true → held k ≡ true)
      (λ f. (list_any (same_filter f) fs ≡ true) × (held f ≡ false) × ((k : Filter) → list_any (same_filter k) fs ≡ true → held k ≡ false → le f k ≡ true))
  least_told None fs is = (least_none None fs (sym is)).1
  least_told (Some f) fs is =
      let found = least_some None fs f (sym is) in
      elim found.place as (λ _. (list_any (same_filter f) fs ≡ true) × (held f ≡ false) × ((k : Filter) → list_any (same_filter k) fs ≡ true → held k ≡ false → le f k ≡ true)) [
        | inl e ↦ cc
        | inr r ↦ (r.0, r.1, found.first)
      ]
