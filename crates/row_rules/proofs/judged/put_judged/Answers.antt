use Rattle.std.proofs.Common.{◌≡◌, ◌+◌, ◌∷◌, [], ◌++◌, List, length, refl, sym, ap, subst, ◌∙◌, append_assoc, append-nil, length-append, arith, rules}
use Rattle.std.specs.Vec.Iter.{into_iter_items}
use Rattle.hub_rows.specs.declared.rows.Row.{Row}
use Rattle.row_rules.specs.Judged.{AreOthersPut, IsWeighed}
use Rattle.row_rules.proofs.Built.{ledger_on}
use Rattle.row_rules.proofs.Marks.{seen_more}
use Rattle.row_rules.proofs.Way.{IsOnWay, begun, on_way, is_first, at_end}
use Rattle.row_rules.proofs.judged.put_judged.Goals as goal

nothing_left : {X : Type 0} (l : List X) → length l ≡ 0 → l ≡ []
nothing_left [] h = refl
nothing_left (x ∷ xs) h = absurd (omega arith)

-- a place before a row
within : (before : List Row) (row : Row) (rest rows : List Row) → before ++ row ∷ rest ≡ rows → length before + (length rest + 1) ≡ length rows
within before row rest rows parts =
    let both : length before + length (row ∷ rest) ≡ length rows = sym (length-append before (row ∷ rest)) ∙ ap length parts in
    omega arith

pub loop-row-init : goal.loop-row-init
loop-row-init c =
    let all = c.into_iter-row-iterator.ensures.into_iter_gives.0 in (
      all,
      search rules,
      refl,
      c.in-Ok.ensures.ledger,
      c.new-seen.ensures,
      begun c.args.tables.now c.args.rows.items (into_iter_items c.into_iter-row-iterator.result) c.lay.new.tables all c.requires
          (subst (λ (rows : List Row). AreOthersPut c.args.tables.now rows c.lay.new.tables) c.as_slice.ensures.value c.in-Ok.ensures.put),
    )

pub loop-row-preserved : goal.loop-row-preserved
loop-row-preserved c =
    let at = c.loop-row in
    let row = c.in-Some.row in
    let rest = into_iter_items c.next.new.self in
    let steps = c.in-Some.ensures.steps.0 in
    let parts : at.yielded ++ row ∷ rest ≡ c.args.rows.items = rw (← steps) at.invariant.0 in
    let weighed = c.in-Ok-keeps_rules.ensures.weighed in (
      append_assoc at.yielded _ _ ∙ parts,
      let was = at.invariant.1 in
          let gone = c.in-Some.ensures.steps.1 in
          let short = ap length steps in
          omega arith,
      let here = at.invariant.2 in
          let more : length (at.yielded ++ row ∷ []) ≡ length at.yielded + 1 = length-append at.yielded (row ∷ []) in
          let inside = within at.yielded row rest c.args.rows.items parts in
          let few = c.len-count.ensures in
          c.next-place.ensures (omega arith) ∙ omega arith,
      ledger_on row at.tables c.put_hashed.new.tables c.in-Ok.ledger c.in-Ok-put_hashed.ensures at.invariant.3,
      seen_more at.seen c.keeps_rules.new.seen at.yielded row weighed.sole at.invariant.4 weighed.added,
      on_way c.args.tables.now c.args.rows.items at.yielded row rest at.tables
          (subst (λ (left : List Row). IsOnWay c.args.tables.now c.args.rows.items at.yielded left at.tables) steps at.invariant.5)
          at.seen c.keeps_rules.new.seen at.invariant.4 c.put_hashed.new.tables
          (subst (λ keeps. IsWeighed at.tables at.seen row keeps c.keeps_rules.new.seen) c.if-not-keeps.false weighed) c.in-Ok-put_hashed.ensures,
    )

pub returns-then-not-keeps : goal.returns-then-not-keeps
returns-then-not-keeps c =
    let at = c.loop-row in
    let row = c.in-Some.row in
    let steps = c.in-Some.ensures.steps.0 in
    is_first c.args.tables.now c.args.rows.items at.yielded row (into_iter_items c.next.new.self) at.tables
    (subst (λ (left : List Row). IsOnWay c.args.tables.now c.args.rows.items at.yielded left at.tables) steps at.invariant.5)
    at.seen c.keeps_rules.new.seen at.invariant.4 at.place at.invariant.2 (rw (← steps) at.invariant.0)
    (subst (λ keeps. IsWeighed at.tables at.seen row keeps c.keeps_rules.new.seen) c.if-not-keeps.true c.in-Ok-keeps_rules.ensures.weighed)

pub returns : goal.returns
returns c =
    let at = c.loop-row in
    let empty = nothing_left _ (sym at.invariant.1 ∙ c.in-None.ensures.steps.0) in
    at_end c.args.tables.now c.args.rows.items at.yielded (into_iter_items at.row-iterator) at.tables at.invariant.5 empty
    (sym (append-nil at.yielded) ∙ rw empty at at.invariant.0)
