-- What is added to a meet for each action, and what the meet of two grants admits.
use Rattle.std.proofs.Common.{◌≡◌, Bool, true, false, ◌&&◌, ◌||◌, List, [], ◌∷◌, ◌++◌, map, None, refl, sym, ap, ◌∙◌, subst}
use Rattle.std.specs.List.{list_any, flat_map}
use Rattle.std.specs.FinMap.{empty, get, keys, entries}
use Rattle.std.specs.FinSet.{FinSet}
use Rattle.std.proofs.lemmas.List.Folds.{list_any-append}
use Rattle.keyed_rows.proofs.Finite.{tied}
use Rattle.scope_names.specs.declared.action.Action.{Action}
use Rattle.scope_names.specs.ActionOrder.{action_cmp, same_action, actions_exact}
use Rattle.scope_filters.specs.declared.filter.Filter.{Filter}
use Rattle.scope_filters.specs.declared.filter.Filter.TheVariants as Fi
use Rattle.scope_filters.specs.declared.object.Object.{Object}
use Rattle.scope_filters.specs.Admits.{admits, any_admits}
use Rattle.scope_filters.specs.Contexts.{Context}
use Rattle.scope_filters.specs.FilterOrder.{filter_cmp}
use Rattle.scope_filters.specs.Grants.{Rights, listed, filters_at, with_filter, grant_admits}
use Rattle.scope_expand.specs.Passes.{passes}
use Rattle.scope_expand.specs.Covering.{row_passes}
use Rattle.scope_expand.proofs.Held.{passes_more, none_passes}
use Rattle.scope_expand.proofs.Joins.{rows_pass}
use Rattle.scope_meet.specs.Meets.{is_group, group_names, AreGroupMeets, IsMetUnder}
use Rattle.scope_meet.proofs.GroupLists.{groups_of, others_of}
use Rattle.scope_meet.proofs.NamesMet.{split_any, any_and, met_again}

-- ---- filters under one action

added_step : (s q o t : Bool) → ((s && q) || (o || (s && t))) ≡ (o || (s && (t || (q || false))))
added_step true true true true = refl
added_step true true true false = refl
added_step true true false true = refl
added_step true true false false = refl
added_step true false true true = refl
added_step true false true false = refl
added_step true false false true = refl
added_step true false false false = refl
added_step false true true true = refl
added_step false true true false = refl
added_step false true false true = refl
added_step false true false false = refl
added_step false false true true = refl
added_step false false true false = refl
added_step false false false true = refl
added_step false false false false = refl

-- what is there is what was, and under an action the filters taken so far
abbrev pub Under : Rights → Action → List Filter → Rights → Type 0
Under old b taken g = (p : Filter → Bool) (a : Action) → passes p g a ≡ (passes p old a || (same_action a b && list_any p taken))

pub under_none : (old : Rights) (b : Action) → Under old b [] old
under_none old b p a = by (passes p old a) (same_action a b)
  where
    by : (o s : Bool) → o ≡ (o || (s && false))
    by true s = refl
    by false true = refl
    by false false = refl

pub under_more : (old : Rights) (b : Action) (taken : List Filter) (f : Filter) (g h : Rights) → h ≡ with_filter g b f → Under old b taken g → Under old b (taken ++ f ∷ []) h
under_more old b taken f g h e so_far p a =
    ap (λ g. passes p g a) e ∙ passes_more p g b a f ∙ ap (λ o. (same_action a b && p f) || o) (so_far p a)
    ∙ added_step (same_action a b) (p f) (passes p old a) (list_any p taken) ∙ ap (λ t. passes p old a || (same_action a b && t)) (sym (list_any-append p taken (f ∷ [])))

-- ---- the groups and the others

groups_any : (a : Action) (m : Context) (fs : List Filter) (x : Object) → any_admits a m (map Fi.Group (flat_map group_names (groups_of fs))) x ≡ any_admits a m (groups_of fs) x
groups_any a m [] x = refl
groups_any a m (Fi.Group g ∷ fs) x = ap (λ b. admits a m (Fi.Group g) x || b) (groups_any a m fs x)
groups_any a m (_ ∷ fs) x = groups_any a m fs x

pub no_group : (fs : List Filter) → list_any is_group (others_of fs) ≡ false
no_group [] = refl
no_group (Fi.Group g ∷ fs) = no_group fs
no_group (Fi.All ∷ fs) = no_group fs
no_group (Fi.User u ∷ fs) = no_group fs
no_group (Fi.Server k ∷ fs) = no_group fs
no_group (Fi.Service v ∷ fs) = no_group fs
no_group (Fi.OwnerOf u ∷ fs) = no_group fs

by_parts : (fg fo gg go : Bool) → ((((fo && go) || (fg && go)) || (fo && gg)) || (fg && gg)) ≡ ((fg || fo) && (gg || go))
by_parts true true true true = refl
by_parts true true true false = refl
by_parts true true false true = refl
by_parts true true false false = refl
by_parts true false true true = refl
by_parts true false true false = refl
by_parts true false false true = refl
by_parts true false false false = refl
by_parts false true true true = refl
by_parts false true true false = refl
by_parts false true false true = refl
by_parts false true false false = refl
by_parts false false gg go = refl

module _ (a : Action) (m : Context) (fs gs : List Filter) (x : Object) where
  abbrev any : List Filter → Bool
  any fs = any_admits a m fs x

  parts_met : (pairs met : List Filter)
      → any pairs ≡ (((any (others_of fs) && any (others_of gs)) || (any (groups_of fs) && any (others_of gs))) || (any (others_of fs) && any (groups_of gs)))
      → AreGroupMeets m (groups_of fs) (groups_of gs) met → (any pairs || any met) ≡ (any fs && any gs)
  parts_met pairs met are is =
      ap (λ b. b || any met) are
      ∙ ap (λ b. (((any (others_of fs) && any (others_of gs)) || (any (groups_of fs) && any (others_of gs))) || (any (others_of fs) && any (groups_of gs))) || b)
      (is a x ∙ ap (λ b. b && any (map Fi.Group (flat_map group_names (groups_of gs)))) (groups_any a m fs x) ∙ ap (λ b. any (groups_of fs) && b) (groups_any a m gs x))
      ∙ by_parts (any (groups_of fs)) (any (others_of fs)) (any (groups_of gs)) (any (others_of gs))
      ∙ ap (λ b. b && (any (groups_of gs) || any (others_of gs))) (sym (split_any (λ f. admits a m f x) is_group fs))
      ∙ ap (λ b. any fs && b) (sym (split_any (λ f. admits a m f x) is_group gs))

added_both : (o s p g r : Bool) → (s ≡ true → (p || g) ≡ r) → ((o || (s && p)) || (s && g)) ≡ (o || (s && r))
added_both true s p g r h = refl
added_both false true p g r h = h refl
added_both false false p g r h = refl

-- what pairs of the parts admit, of which one at most is a group
abbrev pub PairsMet : Action → Context → (og oo tg to met : List Filter) → Type 0
PairsMet a m og oo tg to met = (x : Object) → any_admits a m met x
    ≡ (((any_admits a m oo x && any_admits a m to x) || (any_admits a m og x && any_admits a m to x)) || (any_admits a m oo x && any_admits a m tg x))

-- what is added for filters under one action, of which the groups and the others were taken apart
pub met_under : (m : Context) (b : Action) (fs gs og oo tg to met found groups : List Filter) (old between new : Rights)
    → og ≡ groups_of fs → oo ≡ others_of fs → tg ≡ groups_of gs → to ≡ others_of gs → PairsMet b m og oo tg to met → groups ≡ found → AreGroupMeets m og tg found
    → ((p : Filter → Bool) (a : Action) → passes p between a ≡ (passes p old a || (same_action a b && list_any p met)))
    → ((p : Filter → Bool) (a : Action) → passes p new a ≡ (passes p between a || (same_action a b && list_any p groups)))
    → (a : Action) (x : Object) → grant_admits m new a x ≡ (grant_admits m old a x || (same_action a b && (any_admits b m fs x && any_admits b m gs x)))
met_under m b fs gs og oo tg to met found groups old between new e1 e2 e3 e4 pairs same are first second a x =
    let split : PairsMet b m (groups_of fs) (others_of fs) (groups_of gs) (others_of gs) met =
    subst (λ (l : List Filter). PairsMet b m (groups_of fs) (others_of fs) (groups_of gs) l met) e4
    (subst (λ (l : List Filter). PairsMet b m (groups_of fs) (others_of fs) l to met) e3
    (subst (λ (l : List Filter). PairsMet b m (groups_of fs) l tg to met) e2 (subst (λ (l : List Filter). PairsMet b m l oo tg to met) e1 pairs))) in
    second (λ f. admits a m f x) a ∙ ap (λ o. o || (same_action a b && any_admits a m groups x)) (first (λ f. admits a m f x) a)
    ∙ added_both (grant_admits m old a x) (same_action a b) (any_admits a m met x) (any_admits a m groups x) (any_admits b m fs x && any_admits b m gs x) (λ s.
    ap (λ (c : Action). any_admits c m met x || any_admits c m groups x) (actions_exact a b (tied (action_cmp a b) s))
    ∙ ap (λ (l : List Filter). any_admits b m met x || any_admits b m l x) same
    ∙ parts_met b m fs gs x met found (split x) (met_again m og tg (groups_of fs) (groups_of gs) found e1 e3 are))

or_none : (o s f : Bool) → o ≡ (o || (s && (f && false)))
or_none true s f = refl
or_none false true true = refl
or_none false true false = refl
or_none false false f = refl

-- where the second grant has nothing under the action, nothing is added
pub nothing_met : (m : Context) (b : Action) (fs : List Filter) (h old : Rights) → None ≡ get h b → IsMetUnder m b fs h old old
nothing_met m b fs h old at a x =
    or_none (grant_admits m old a x) (same_action a b) (any_admits b m fs x)
    ∙ ap (λ o. grant_admits m old a x || (same_action a b && (any_admits b m fs x && any_admits b m (listed o) x))) at

-- ---- the rows of the first grant

module _ (m : Context) (h : Rights) where
  -- both admit the object
  abbrev pub by_both : Action → Object → Filter → Bool
  by_both a x f = admits a m f x && grant_admits m h a x

  abbrev pub Meeting : Rights → List (Action × FinSet filter_cmp) → Rights → Type 0
  Meeting g rest both = (a : Action) (x : Object) → (grant_admits m both a x || list_any (row_passes (by_both a x) a) rest) ≡ passes (by_both a x) g a

  pub meeting_none : (g both : Rights) (rest : List (Action × FinSet filter_cmp)) → both ≡ empty → rest ≡ entries g → Meeting g rest both
  meeting_none g both rest e r a x =
      ap (λ b. b || list_any (row_passes (by_both a x) a) rest) (none_passes (λ f. admits a m f x) both a e) ∙ ap (list_any (row_passes (by_both a x) a)) r ∙ sym (rows_pass (by_both a x) g a)

  or_assoc : (a b c : Bool) → ((a || b) || c) ≡ (a || (b || c))
  or_assoc true b c = refl
  or_assoc false b c = refl

  guarded : (s x y : Bool) → (s ≡ true → x ≡ y) → (s && x) ≡ (s && y)
  guarded true x y e = e refl
  guarded false x y e = refl

  row_meets : (a b : Action) (x : Object) (filters : FinSet filter_cmp)
      → (same_action a b && (any_admits b m (keys filters) x && grant_admits m h b x)) ≡ row_passes (by_both a x) a (b, filters)
  row_meets a b x filters = guarded (same_action a b) _ _ (λ s.
      sym (any_and (λ f. admits b m f x) (grant_admits m h b x) (keys filters))
      ∙ ap (λ (c : Action). list_any (by_both c x) (keys filters)) (sym (actions_exact a b (tied (action_cmp a b) s))))

  pub meeting_more : (g : Rights) (row : Action × FinSet filter_cmp) (left rest : List (Action × FinSet filter_cmp)) (both after : Rights) → left ≡ row ∷ rest
      → IsMetUnder m row.0 (keys row.1) h both after → Meeting g left both → Meeting g rest after
  meeting_more g row left rest both after l under so_far a x =
      ap (λ b. b || list_any (row_passes (by_both a x) a) rest) (under a x)
      ∙ or_assoc (grant_admits m both a x) (same_action a row.0 && (any_admits row.0 m (keys row.1) x && grant_admits m h row.0 x)) (list_any (row_passes (by_both a x) a) rest)
      ∙ ap (λ b. grant_admits m both a x || (b || list_any (row_passes (by_both a x) a) rest)) (row_meets a row.0 x row.1)
      ∙ ap (λ rows. grant_admits m both a x || list_any (row_passes (by_both a x) a) rows) (sym l) ∙ so_far a x

  or_false : (a : Bool) → a ≡ (a || false)
  or_false true = refl
  or_false false = refl

  pub all_rows_met : (g both : Rights) (rest : List (Action × FinSet filter_cmp)) → rest ≡ [] → Meeting g rest both
      → (a : Action) (x : Object) → grant_admits m both a x ≡ (grant_admits m g a x && grant_admits m h a x)
  all_rows_met g both rest e so_far a x =
      or_false (grant_admits m both a x) ∙ ap (λ rows. grant_admits m both a x || list_any (row_passes (by_both a x) a) rows) (sym e) ∙ so_far a x
      ∙ any_and (λ f. admits a m f x) (grant_admits m h a x) (filters_at g a)
