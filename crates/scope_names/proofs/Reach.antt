-- The search for all that is reached from an action, its invariant and its measure.
use Rattle.std.proofs.Common.{◌≡◌, ℕ, ◌+◌, ◌≤◌, Bool, true, false, ◌||◌, List, [], ◌∷◌, ◌++◌, length, map, if◌then◌else◌, cond, refl, sym, ap, ◌∙◌, ◌⊎◌, inl, inr, subst, arith}
use Rattle.std.specs.List.{flat_map, list_all}
use Rattle.std.specs.List.Sorted.{IsStrictlySortedBy}
use Rattle.scope_names.specs.declared.action.Action.{Action}
use Rattle.scope_names.specs.declared.action.Action.TheVariants.{Custom, AccessServers}
use Rattle.scope_names.specs.declared.custom.CustomRow.{CustomRow}
use Rattle.scope_names.specs.Actions.{listed, row_of}
use Rattle.scope_names.specs.ActionOrder.{action_cmp, same_action}
use Rattle.scope_names.specs.Coverage.{is_among, declared_by, subscopes, IsPath, IsReached, IsReachedFrom, IsReach}
use Rattle.scope_names.proofs.Among.{or_cases, or_left, or_right, same_exact, same_self, among_append, among_left, among_right, among_last, among_one, of_all}

-- ---- one step more

one_more : (rows : List CustomRow) (a b c : Action) (path : List Action) → IsPath rows a path b → is_among c (subscopes rows b) ≡ true → IsPath rows a (path ++ c ∷ []) c
one_more rows a b c [] h k = (subst (λ x. is_among c (subscopes rows x) ≡ true) (sym h) k, refl)
one_more rows a b c (d ∷ path) h k = (h.0, one_more rows d b c path h.1 k)

step : (rows : List CustomRow) (a b c : Action) → IsReached rows a b → is_among c (subscopes rows b) ≡ true → IsReached rows a c
step rows a b c h k = (h.0 ++ c ∷ [], one_more rows a b c h.0 h.1 k)

step_from : (rows : List CustomRow) (from : List Action) (b c : Action) → IsReachedFrom rows from b → is_among c (subscopes rows b) ≡ true → IsReachedFrom rows from c
step_from rows from b c h k = (h.0, h.1, step rows h.0 b c h.2 k)

-- ---- what the search keeps: all that it has is reached, and each step from what it has done is done or still to do

pub record Search (rows : List CustomRow) (from done pending : List Action) : Type 0 where
  pub done_reached : (b : Action) → is_among b done ≡ true → IsReachedFrom rows from b
  pub pending_reached : (b : Action) → is_among b pending ≡ true → IsReachedFrom rows from b
  pub begun : (a : Action) → is_among a from ≡ true → (is_among a done || is_among a pending) ≡ true
  pub closed : (a b : Action) → is_among a done ≡ true → is_among b (subscopes rows a) ≡ true → (is_among b done || is_among b pending) ≡ true

pub search_begun : (rows : List CustomRow) (from : List Action) → Search rows from [] from
search_begun rows from = record {
  done_reached = λ b h. absurd (cc);
  pending_reached = λ b h. (b, h, ([], refl));
  begun = λ a h. h;
  closed = λ a b h k. absurd (cc);
}

-- the last pending one is done already
still : (done rest : List Action) (a b : Action) → is_among a done ≡ true → (is_among b done || is_among b (rest ++ a ∷ [])) ≡ true → (is_among b done || is_among b rest) ≡ true
still done rest a b k h = elim (or_cases (is_among b done) (is_among b (rest ++ a ∷ [])) h) as (λ _. (is_among b done || is_among b rest) ≡ true) [
  | inl d ↦ or_left (is_among b done) (is_among b rest) d
  | inr p ↦ elim (among_append b rest (a ∷ []) p) as (λ _. (is_among b done || is_among b rest) ≡ true) [
    | inl r ↦ or_right (is_among b done) (is_among b rest) r
    | inr o ↦ or_left (is_among b done) (is_among b rest) (subst (λ x. is_among x done ≡ true) (among_one a b o) k)
  ]
]

pub search_skips : (rows : List CustomRow) (from : List Action) (a : Action) (done rest : List Action) → is_among a done ≡ true → Search rows from done (rest ++ a ∷ []) → Search rows from done rest
search_skips rows from a done rest k s = record {
  done_reached = s.done_reached;
  pending_reached = λ b h. s.pending_reached b (among_left b rest (a ∷ []) h);
  begun = λ b h. still done rest a b k (s.begun b h);
  closed = λ c b h l. still done rest a b k (s.closed c b h l);
}

-- the actions more are those done and a
abbrev pub Adds : Action → List Action → List Action → Type 0
Adds a done more = (q : Action) → is_among q more ≡ cond (same_action a q) true (is_among q done)

more_cases : (a q : Action) (d m : Bool) → m ≡ cond (same_action a q) true d → m ≡ true → (a ≡ q) ⊎ (d ≡ true)
more_cases a q d m e h = by (same_action a q) refl
  where
    by : (t : Bool) → same_action a q ≡ t → (a ≡ q) ⊎ (d ≡ true)
    by true k = inl (same_exact a q k)
    by false k = inr (sym (e ∙ ap (λ t. cond t true d) k) ∙ h)

more_done : (t d m : Bool) → m ≡ cond t true d → d ≡ true → m ≡ true
more_done true d m e h = e
more_done false d m e h = e ∙ h

more_new : (a : Action) (d m : Bool) → m ≡ cond (same_action a a) true d → m ≡ true
more_new a d m e = e ∙ ap (λ t. cond t true d) (same_self a)

goes : (rows : List CustomRow) (a : Action) (done rest more : List Action) → Adds a done more → (b : Action) → (is_among b done || is_among b (rest ++ a ∷ [])) ≡ true → (is_among b more || is_among b (rest ++ subscopes rows a)) ≡ true
goes rows a done rest more adds b h = elim (or_cases (is_among b done) (is_among b (rest ++ a ∷ [])) h) as (λ _. (is_among b more || is_among b (rest ++ subscopes rows a)) ≡ true) [
  | inl d ↦ or_left (is_among b more) (is_among b (rest ++ subscopes rows a)) (more_done (same_action a b) (is_among b done) (is_among b more) (adds b) d)
  | inr p ↦ elim (among_append b rest (a ∷ []) p) as (λ _. (is_among b more || is_among b (rest ++ subscopes rows a)) ≡ true) [
    | inl r ↦ or_right (is_among b more) (is_among b (rest ++ subscopes rows a)) (among_left b rest (subscopes rows a) r)
    | inr o ↦ or_left (is_among b more) (is_among b (rest ++ subscopes rows a)) (subst (λ x. is_among x more ≡ true) (among_one a b o) (more_new a (is_among a done) (is_among a more) (adds a)))
  ]
]

pub search_goes : (rows : List CustomRow) (from : List Action) (a : Action) (done rest more : List Action) → Adds a done more → Search rows from done (rest ++ a ∷ []) → Search rows from more (rest ++ subscopes rows a)
search_goes rows from a done rest more adds s =
    let here : IsReachedFrom rows from a = s.pending_reached a (among_last a rest) in
    record {
      done_reached = λ b h. elim (more_cases a b (is_among b done) (is_among b more) (adds b) h) as (λ _. IsReachedFrom rows from b) [
        | inl e ↦ subst (λ x. IsReachedFrom rows from x) e here
        | inr d ↦ s.done_reached b d
      ];
      pending_reached = λ b h. elim (among_append b rest (subscopes rows a) h) as (λ _. IsReachedFrom rows from b) [
        | inl r ↦ s.pending_reached b (among_left b rest (a ∷ []) r)
        | inr n ↦ step_from rows from a b here n
      ];
      begun = λ b h. goes rows a done rest more adds b (s.begun b h);
      closed = λ c b h l. elim (more_cases a c (is_among c done) (is_among c more) (adds c) h) as (λ _. (is_among b more || is_among b (rest ++ subscopes rows a)) ≡ true) [
        | inl e ↦ or_right (is_among b more) (is_among b (rest ++ subscopes rows a)) (among_right b rest (subscopes rows a) (subst (λ x. is_among b (subscopes rows x) ≡ true) (sym e) l))
        | inr d ↦ goes rows a done rest more adds b (s.closed c b d l)
      ];
    }

-- ---- with nothing to do, all that is reached is done

or_nothing : (a : Bool) → (a || false) ≡ true → a ≡ true
or_nothing true h = refl
or_nothing false h = h

done_on : (rows : List CustomRow) (from done : List Action) → Search rows from done [] → (a b : Action) (path : List Action) → is_among a done ≡ true → IsPath rows a path b → is_among b done ≡ true
done_on rows from done s a b [] h p = subst (λ x. is_among x done ≡ true) p h
done_on rows from done s a b (c ∷ path) h p = done_on rows from done s c b path (or_nothing (is_among c done) (s.closed a c h p.0)) p.1

pub search_ended : (rows : List CustomRow) (from done : List Action) → IsStrictlySortedBy action_cmp done → Search rows from done [] → IsReach rows from done
search_ended rows from done o s = record {
  ascends = o;
  exact = λ b. (λ h. s.done_reached b h, λ r. done_on rows from done s r.0 b r.2.0 (or_nothing (is_among r.0 done) (s.begun r.0 r.1)) r.2.1);
}

-- ---- the measure: what there is to do at most, and what is to do

-- all that a search can come to
abbrev pub universe : List CustomRow → List Action → List Action
universe rows from = from ++ (listed ++ flat_map (λ row. map Custom row.subscopes) rows)

abbrev weight : List CustomRow → List Action → Action → ℕ
weight rows done a = cond (is_among a done) 0 (1 + length (subscopes rows a))

unfoldable pub work : List CustomRow → List Action → List Action → ℕ
work rows done [] = 0
work rows done (a ∷ actions) = weight rows done a + work rows done actions

less : (t d m : Bool) (w : ℕ) → m ≡ cond t true d → cond m 0 (1 + w) ≤ cond d 0 (1 + w)
less true true m w e = grind arith
less true false m w e = rw e (omega arith)
less false d m w e = rw e (omega arith)

work_less : (rows : List CustomRow) (a : Action) (done more actions : List Action) → Adds a done more → work rows more actions ≤ work rows done actions
unfolding work
work_less rows a done more [] adds = omega arith
work_less rows a done more (b ∷ actions) adds = omega (arith, less (same_action a b) (is_among b done) (is_among b more) (length (subscopes rows b)) (adds b), work_less rows a done more actions adds)

pub work_falls : (rows : List CustomRow) (a : Action) (done more actions : List Action) → Adds a done more → is_among a done ≡ false → is_among a actions ≡ true → work rows more actions + (1 + length (subscopes rows a)) ≤ work rows done actions
unfolding work
work_falls rows a done more [] adds n h = cc
work_falls rows a done more (b ∷ actions) adds n h = elim (or_cases (same_action a b) (is_among a actions) h) as (λ _. work rows more (b ∷ actions) + (1 + length (subscopes rows a)) ≤ work rows done (b ∷ actions)) [
  | inl e ↦
      let same : a ≡ b = same_exact a b e in
      let after : weight rows more b ≡ 0 = ap (λ t. cond t 0 (1 + length (subscopes rows b))) (subst (λ x. is_among x more ≡ true) same (more_new a (is_among a done) (is_among a more) (adds a))) in
      let before : weight rows done b ≡ 1 + length (subscopes rows a) = ap (λ t. cond t 0 (1 + length (subscopes rows b))) (subst (λ x. is_among x done ≡ false) same n) ∙ ap (λ x. 1 + length (subscopes rows x)) (sym same) in
      omega (arith, after, before, work_less rows a done more actions adds)
  | inr k ↦ omega (arith, less (same_action a b) (is_among b done) (is_among b more) (length (subscopes rows b)) (adds b), work_falls rows a done more actions adds n k)
]

-- ---- what is reached is in the universe

closed_table : (a : Action) → list_all (λ b. is_among b listed) (row_of a).subscopes ≡ true
unfolding listed
closed_table AccessServers = refl
closed_table _ = refl

by_row : (a b : Action) (row : CustomRow) → is_among b (declared_by a row) ≡ true → is_among b (map Custom row.subscopes) ≡ true
by_row a b row h = by (same_action (Custom row.name) a) h
  where
    by : (t : Bool) → is_among b (if t then map Custom row.subscopes else []) ≡ true → is_among b (map Custom row.subscopes) ≡ true
    by true k = k
    by false k = cc

by_rows : (a b : Action) (rows : List CustomRow) → is_among b (flat_map (declared_by a) rows) ≡ true → is_among b (flat_map (λ row. map Custom row.subscopes) rows) ≡ true
by_rows a b [] h = h
by_rows a b (row ∷ rows) h = elim (among_append b (declared_by a row) (flat_map (declared_by a) rows) h) as (λ _. is_among b (map Custom row.subscopes ++ flat_map (λ row. map Custom row.subscopes) rows) ≡ true) [
  | inl l ↦ among_left b (map Custom row.subscopes) (flat_map (λ row. map Custom row.subscopes) rows) (by_row a b row l)
  | inr r ↦ among_right b (map Custom row.subscopes) (flat_map (λ row. map Custom row.subscopes) rows) (by_rows a b rows r)
]

stays : (rows : List CustomRow) (from : List Action) (a b : Action) → is_among b (subscopes rows a) ≡ true → is_among b (universe rows from) ≡ true
stays rows from a b h = among_right b from (listed ++ flat_map (λ row. map Custom row.subscopes) rows) (elim (among_append b (row_of a).subscopes (flat_map (declared_by a) rows) h) as (λ _. is_among b (listed ++ flat_map (λ row. map Custom row.subscopes) rows) ≡ true) [
  | inl l ↦ among_left b listed (flat_map (λ row. map Custom row.subscopes) rows) (of_all (λ b. is_among b listed) (row_of a).subscopes b (closed_table a) l)
  | inr r ↦ among_right b listed (flat_map (λ row. map Custom row.subscopes) rows) (by_rows a b rows r)
])

inside_on : (rows : List CustomRow) (from : List Action) (a b : Action) (path : List Action) → is_among a (universe rows from) ≡ true → IsPath rows a path b → is_among b (universe rows from) ≡ true
inside_on rows from a b [] h p = subst (λ x. is_among x (universe rows from) ≡ true) p h
inside_on rows from a b (c ∷ path) h p = inside_on rows from c b path (stays rows from a c p.0) p.1

pub inside : (rows : List CustomRow) (from : List Action) (b : Action) → IsReachedFrom rows from b → is_among b (universe rows from) ≡ true
inside rows from b r = inside_on rows from r.0 b r.2.0 (among_left r.0 from (listed ++ flat_map (λ row. map Custom row.subscopes) rows) r.1) r.2.1
