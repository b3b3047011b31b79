-- The filters of two grants together.
use Rattle.std.proofs.Common.{◌≡◌, Bool, true, false, ◌&&◌, ◌||◌, cond, List, [], ◌∷◌, Some, refl, sym, ap, subst, ◌∙◌, T}
use Rattle.std.specs.List.{list_any}
use Rattle.std.specs.declared.cmp.Ordering.{Ordering}
use Rattle.std.specs.declared.cmp.Ordering.TheVariants.{Less, Equal, Greater}
use Rattle.std.specs.Ordering.{is_eq, is_lt}
use Rattle.std.specs.FinMap.{empty, keys, entries, entries_sorted, get-entries}
use Rattle.std.specs.FinMap.Entries.{find, below_all, is_sorted}
use Rattle.std.specs.FinSet.{FinSet}
use Rattle.keyed_rows.proofs.Finite.{tied}
use Rattle.scope_names.specs.declared.action.Action.{Action}
use Rattle.scope_names.specs.ActionOrder.{action_cmp, same_action, actions_exact}
use Rattle.scope_filters.specs.declared.filter.Filter.{Filter}
use Rattle.scope_filters.specs.declared.object.Object.{Object}
use Rattle.scope_filters.specs.Admits.{admits}
use Rattle.scope_filters.specs.Contexts.{Context}
use Rattle.scope_filters.specs.FilterOrder.{filter_cmp}
use Rattle.scope_filters.specs.Grants.{Rights, listed, with_filter, grant_admits}
use Rattle.scope_expand.specs.Passes.{passes, is_owner_of, HasNoOwnerOf}
use Rattle.scope_expand.specs.Covering.{IsJoin, row_passes}
use Rattle.scope_expand.proofs.Ones.{both_false}
use Rattle.scope_expand.proofs.Held.{passes_more, none_passes}

-- ---- the entries of a grant, one by one

first : (a b : Bool) → T (a && b) → T a
first true b h = tt
first false b h = absurd h

second : (a b : Bool) → T (a && b) → T b
second true b h = h
second false b h = absurd h

less : (o : Ordering) → T (is_lt o) → is_eq o ≡ false
less Less h = refl
less Equal h = absurd h
less Greater h = absurd h

-- rows of later actions don't speak of an earlier one
none_below : (p : Filter → Bool) (a : Action) (rows : List (Action × FinSet filter_cmp)) → T (below_all action_cmp a rows) → list_any (row_passes p a) rows ≡ false
none_below p a [] h = refl
none_below p a (row ∷ rows) h =
    ap (λ b. (b && list_any p (keys row.1)) || list_any (row_passes p a) rows) (less (action_cmp a row.0) (first (is_lt (action_cmp a row.0)) (below_all action_cmp a rows) h))
    ∙ none_below p a rows (second (is_lt (action_cmp a row.0)) (below_all action_cmp a rows) h)

or_none : (a b : Bool) → b ≡ false → a ≡ (a || b)
or_none true b h = refl
or_none false b h = sym h

found : (p : Filter → Bool) (a : Action) (rows : List (Action × FinSet filter_cmp)) → T (is_sorted action_cmp rows) → list_any p (listed (find action_cmp a rows)) ≡ list_any (row_passes p a) rows
found p a [] h = refl
found p a (row ∷ rows) h = elim (same_action a row.0) as (λ b. same_action a row.0 ≡ b → list_any p (listed (cond b (Some row.1) (find action_cmp a rows))) ≡ ((b && list_any p (keys row.1)) || list_any (row_passes p a) rows)) [
  | true ↦ λ e. or_none (list_any p (keys row.1)) (list_any (row_passes p a) rows)
      (none_below p a rows (subst (λ (b : Action). T (below_all action_cmp b rows)) (sym (actions_exact a row.0 (tied (action_cmp a row.0) e))) (first (below_all action_cmp row.0 rows) (is_sorted action_cmp rows) h)))
  | false ↦ λ e. found p a rows (second (below_all action_cmp row.0 rows) (is_sorted action_cmp rows) h)
] refl

-- a filter under an action passes exactly where an entry has one that does
pub rows_pass : (p : Filter → Bool) (g : Rights) (a : Action) → passes p g a ≡ list_any (row_passes p a) (entries g)
rows_pass p g a = ap (λ o. list_any p (listed o)) (get-entries g a) ∙ found p a (entries g) (entries_sorted g)

-- ---- the filters of an entry, one by one

moved : (s q o r : Bool) → (((s && q) || o) || (s && r)) ≡ (o || (s && (q || r)))
moved true true true true = refl
moved true true true false = refl
moved true true false true = refl
moved true true false false = refl
moved true false true true = refl
moved true false true false = refl
moved true false false true = refl
moved true false false false = refl
moved false true true true = refl
moved false true true false = refl
moved false true false true = refl
moved false true false false = refl
moved false false true true = refl
moved false false true false = refl
moved false false false true = refl
moved false false false false = refl

or_assoc : (a b c : Bool) → ((a || b) || c) ≡ (a || (b || c))
or_assoc true b c = refl
or_assoc false b c = refl

or_nothing : (a b : Bool) → (a || (b && false)) ≡ a
or_nothing true b = refl
or_nothing false true = refl
or_nothing false false = refl

or_false : (a : Bool) → (a || false) ≡ a
or_false true = refl
or_false false = refl

-- the invariant of the loop over an entry's filters: what is there, and what is still to come, is all
abbrev pub Adding : Rights → Action → FinSet filter_cmp → List Filter → Rights → Type 0
Adding old b row rest g = (p : Filter → Bool) (a : Action) → (passes p g a || (same_action a b && list_any p rest)) ≡ (passes p old a || row_passes p a (b, row))

pub adding_more : (old : Rights) (b : Action) (row : FinSet filter_cmp) (f : Filter) (left rest : List Filter) (g h : Rights)
    → left ≡ f ∷ rest → h ≡ with_filter g b f → Adding old b row left g → Adding old b row rest h
adding_more old b row f left rest g h l e so_far p a =
    ap (λ o. o || (same_action a b && list_any p rest)) (ap (λ g. passes p g a) e ∙ passes_more p g b a f) ∙ moved (same_action a b) (p f) (passes p g a) (list_any p rest)
    ∙ ap (λ fs. passes p g a || (same_action a b && list_any p fs)) (sym l) ∙ so_far p a

pub all_added : (old : Rights) (b : Action) (row : FinSet filter_cmp) (rest : List Filter) (g : Rights) → rest ≡ [] → Adding old b row rest g
    → (p : Filter → Bool) (a : Action) → passes p g a ≡ (passes p old a || row_passes p a (b, row))
all_added old b row rest g e so_far p a = sym (or_nothing (passes p g a) (same_action a b)) ∙ ap (λ fs. passes p g a || (same_action a b && list_any p fs)) (sym e) ∙ so_far p a

-- the same of the loop over the entries
abbrev pub Joining : Rights → Rights → List (Action × FinSet filter_cmp) → Rights → Type 0
Joining old other rest g = (p : Filter → Bool) (a : Action) → (passes p g a || list_any (row_passes p a) rest) ≡ (passes p old a || passes p other a)

pub joining_none : (old other : Rights) (rest : List (Action × FinSet filter_cmp)) → rest ≡ entries other → Joining old other rest old
joining_none old other rest e p a = ap (λ b. passes p old a || b) (ap (list_any (row_passes p a)) e ∙ sym (rows_pass p other a))

pub joining_more : (old other : Rights) (row : Action × FinSet filter_cmp) (left rest : List (Action × FinSet filter_cmp)) (g h : Rights)
    → left ≡ row ∷ rest → ((p : Filter → Bool) (a : Action) → passes p h a ≡ (passes p g a || row_passes p a row)) → Joining old other left g → Joining old other rest h
joining_more old other row left rest g h l e so_far p a =
    ap (λ o. o || list_any (row_passes p a) rest) (e p a) ∙ or_assoc (passes p g a) (row_passes p a row) (list_any (row_passes p a) rest)
    ∙ ap (λ rows. passes p g a || list_any (row_passes p a) rows) (sym l) ∙ so_far p a

pub all_joined : (old other : Rights) (rest : List (Action × FinSet filter_cmp)) (g : Rights) → rest ≡ [] → Joining old other rest g → IsJoin old other g
all_joined old other rest g e so_far p a = sym (or_false (passes p g a)) ∙ ap (λ rows. passes p g a || list_any (row_passes p a) rows) (sym e) ∙ so_far p a

-- a new grant, one grant, and then the other
pub joined_both : (none g h one both : Rights) → none ≡ empty → IsJoin none g one → IsJoin one h both → IsJoin g h both
joined_both none g h one both e first then p a =
    then p a ∙ ap (λ b. b || passes p h a) (first p a ∙ ap (λ b. b || passes p g a) (none_passes p none a e))

-- ---- what a join admits

pub joined_admits : (g h n : Rights) → IsJoin g h n → (m : Context) (a : Action) (x : Object) → grant_admits m n a x ≡ (grant_admits m g a x || grant_admits m h a x)
joined_admits g h n j m a x = j (λ f. admits a m f x) a

pub joined_plain : (g h n : Rights) → IsJoin g h n → HasNoOwnerOf g → HasNoOwnerOf h → HasNoOwnerOf n
joined_plain g h n j k l a = j is_owner_of a ∙ both_false (passes is_owner_of g a) (passes is_owner_of h a) (k a) (l a)
