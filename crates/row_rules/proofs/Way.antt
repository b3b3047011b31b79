-- The way through the rows: each is judged, and put where it is found by a hash.
use Rattle.std.proofs.Common.{◌≡◌, ℕ, ◌+◌, Bool, true, false, cond, ◌&&◌, List, [], ◌∷◌, ◌++◌, length, Some, slice_get, refl, ap, sym, subst, ◌∙◌, length-append, arith}
use Rattle.std.proofs.lemmas.List.Sums.{fold-append}
use Rattle.hub_rows.specs.declared.rows.Row.{Row}
use Rattle.hub_tables.specs.Changes.{with_row}
use Rattle.hub_tables.specs.State.{State}
use Rattle.row_rules.specs.Across.{rows_put, stands, is_new, is_sole, passing, sound_rows, keeps_rules}
use Rattle.row_rules.specs.Judged.{with_hashed, is_free, part_of, AreHeld, AreOthersPut, HasSeen, IsBare, IsWeighed}
use Rattle.row_rules.specs.declared.seen.Seen.{Seen}
use Rattle.row_rules.proofs.Built.{part_more, part_stands, part_free}
use Rattle.row_rules.proofs.Hashed.{bare_held, free_is_new, held_more}
use Rattle.row_rules.proofs.Marks.{is_sole_row}

-- so many rows were judged, and those of them that are found by a hash were put
pub record IsOnWay (start : State) (rows before rest : List Row) (now : State) : Type 0 where
  pub now_is : now ≡ part_of (rows_put rows start) (rows_put before start)
  pub held : AreHeld (rows_put before start) before
  pub count : length before + passing (keeps_rules (rows_put rows start)) before rest ≡ sound_rows (rows_put rows start) rows

pub begun : (start : State) (rows rest : List Row) (now : State) → rest ≡ rows → IsBare start → AreOthersPut start rows now → IsOnWay start rows [] rest now
begun start rows rest now same bare others = record {
  now_is = others;
  held = bare_held start bare;
  count = let counted : passing (keeps_rules (rows_put rows start)) [] rest ≡ sound_rows (rows_put rows start) rows = ap (passing (keeps_rules (rows_put rows start)) []) same in omega arith;
}

regrouped : (a b c : Bool) → (a && (b && c)) ≡ (c && (a && b))
regrouped true true true = refl
regrouped true true false = refl
regrouped true false true = refl
regrouped true false false = refl
regrouped false b true = refl
regrouped false b false = refl

last_of : (a b c : Bool) → (a && (b && c)) ≡ true → c ≡ true
last_of true true c h = h
last_of true false c h = cc
last_of false b c h = cc

module _ (test : List Row → Row → Bool) (before : List Row) (row : Row) (rest : List Row) (n : ℕ) (h : length before + passing test before (row ∷ rest) ≡ n) where
  passed : test before row ≡ true → length (before ++ row ∷ []) + passing test (before ++ row ∷ []) rest ≡ n
  passed passes =
      let step : passing test before (row ∷ rest) ≡ 1 + passing test (before ++ row ∷ []) rest = ap (λ b. cond b (1 + passing test (before ++ row ∷ []) rest) 0) passes in
      let more : length (before ++ row ∷ []) ≡ length before + 1 = length-append before (row ∷ []) in
      omega arith

  failed : test before row ≡ false → n ≡ length before
  failed fails =
      let step : passing test before (row ∷ rest) ≡ 0 = ap (λ b. cond b (1 + passing test (before ++ row ∷ []) rest) 0) fails in
      omega arith

at_place : (before : List Row) (row : Row) (rest : List Row) → slice_get (before ++ row ∷ rest) (length before) ≡ Some row
at_place [] row rest = refl
at_place (b ∷ before) row rest = at_place before row rest

module _ (start : State) (rows before : List Row) (row : Row) (rest : List Row) (now : State) (w : IsOnWay start rows before (row ∷ rest) now) (seen mid : Seen)
    (h : HasSeen seen before) where
  abbrev all : State
  all = rows_put rows start

  abbrev first : State
  first = rows_put before start

  -- what was weighed is whether it keeps the rules
  weighed_is : (keeps : Bool) → IsWeighed now seen row keeps mid → keeps ≡ keeps_rules all before row
  weighed_is keeps x =
      x.keeps_is
      ∙ (λ i. is_sole_row seen mid before row x.sole h x.added i && (stands (w.now_is i) row && is_free (w.now_is i) row))
      ∙ (λ i. is_sole before row && (part_stands row all first i && part_free row all first i))
      ∙ ap (λ b. is_sole before row && (stands all row && b)) (free_is_new row first before w.held)
      ∙ regrouped (is_sole before row) (stands all row) (is_new before row)

  free_of : IsWeighed now seen row true mid → is_free first row ≡ true
  free_of x = sym (ap (λ s. is_free s row) w.now_is ∙ part_free row all first) ∙ last_of x.sole (stands now row) (is_free now row) (sym x.keeps_is)

  put_more : rows_put (before ++ row ∷ []) start ≡ with_row row first
  put_more = fold-append (λ s row. with_row row s) start before (row ∷ [])

  -- one that keeps them is put
  pub on_way : (after : State) → IsWeighed now seen row true mid → after ≡ with_hashed row now → IsOnWay start rows (before ++ row ∷ []) rest after
  on_way after x put = record {
    now_is = put ∙ ap (with_hashed row) w.now_is ∙ part_more row all first ∙ ap (part_of all) (sym put_more);
    held = subst (λ s. AreHeld s (before ++ row ∷ [])) (sym put_more) (held_more row first before w.held (free_of x));
    count = passed (keeps_rules all) before row rest (sound_rows all rows) w.count (sym (weighed_is true x));
  }

  -- one that doesn't is the first
  pub is_first : (place : ℕ) → place ≡ length before → before ++ row ∷ rest ≡ rows → IsWeighed now seen row false mid
      → (sound_rows all rows ≡ place) × (slice_get rows place ≡ Some row)
  is_first place at parts x = (
    failed (keeps_rules all) before row rest (sound_rows all rows) w.count (sym (weighed_is false x)) ∙ sym at,
    (λ i. slice_get (sym parts i) (at i)) ∙ at_place before row rest,
  )

-- after the last
pub at_end : (start : State) (rows before rest : List Row) (now : State) → IsOnWay start rows before rest now → rest ≡ [] → before ≡ rows
    → (now ≡ rows_put rows start) × (sound_rows (rows_put rows start) rows ≡ length rows)
at_end start rows before rest now w none all = (
  w.now_is ∙ ap (λ b. part_of (rows_put rows start) (rows_put b start)) all,
  let over : passing (keeps_rules (rows_put rows start)) before rest ≡ 0 = ap (passing (keeps_rules (rows_put rows start)) before) none in
      let same : length before ≡ length rows = ap length all in
      let counted = w.count in
      omega arith,
)
