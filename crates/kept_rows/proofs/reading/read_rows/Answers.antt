use Rattle.std.proofs.Common.{◌≡◌, ℕ, ◌+◌, ◌<◌, ◌∷◌, [], ◌++◌, List, length, take, drop, get_or, sym, ap, subst, ◌∙◌, arith}
use Rattle.std.proofs.lemmas.List.{take-append-drop, take_more, take_all, drop_more}
use Rattle.hub_rows.specs.declared.rows.Row.{Row}
use Rattle.keeper.specs.declared.keeper.Row.{Row as KeptRow}
use Rattle.kept_rows.specs.Reading.{AreReadAs}
use Rattle.kept_rows.proofs.Readings.{read_more, read_not}
use Rattle.kept_rows.proofs.reading.read_rows.Goals as goal

taken_more : (rows : List KeptRow) (i : ℕ) (row : KeptRow) → i < length rows → row ≡ get_or rows i row → take (i + 1) rows ≡ take i rows ++ row ∷ []
taken_more rows i row within here = take_more rows i row within ∙ ap (λ r. take i rows ++ r ∷ []) (sym here)

cut_at : (rows : List KeptRow) (i : ℕ) (row : KeptRow) → i < length rows → row ≡ get_or rows i row → take i rows ++ row ∷ drop (i + 1) rows ≡ rows
cut_at rows i row within here =
    sym (ap (λ rest. take i rows ++ rest) (drop_more rows i row within ∙ ap (λ r. r ∷ drop (i + 1) rows) (sym here))) ∙ take-append-drop i rows

pub loop-one-init : goal.loop-one-init
loop-one-init c = subst (λ (rows : List Row). AreReadAs [] rows) (sym c.in-Ok.ensures.items) tt

pub loop-one-preserved : goal.loop-one-preserved
loop-one-preserved c =
    let kept = c.as_slice-one-items.result.now in
    let at = c.loop-one in
    let one = c.one-item.result in
    subst (λ (taken : List KeptRow). AreReadAs taken c.push.new.self.items) (sym (taken_more kept at.one-index one c.loop-one-test.true c.one-item.is))
    (subst (λ (rows : List Row). AreReadAs (take at.one-index kept ++ one ∷ []) rows) (sym c.in-Ok-push.ensures.items)
    (read_more (take at.one-index kept) at.rows.items one c.in-Ok-read_row.row at.invariant c.in-Ok-read_row.ensures))

pub returns-in-Err : goal.returns-in-Err
returns-in-Err c =
    let kept = c.as_slice-one-items.result.now in
    let at = c.loop-one in
    let one = c.one-item.result in
    read_not c.args.kept.items (take at.one-index kept) (drop (at.one-index + 1) kept) one at.rows.items c.in-Err.error
    (cut_at kept at.one-index one c.loop-one-test.true c.one-item.is ∙ c.as_slice-one-items.ensures.value) at.invariant c.in-Err.ensures

pub returns : goal.returns
returns c =
    let kept = c.as_slice-one-items.result.now in
    let at = c.loop-one in
    subst (λ (rows : List Row). AreReadAs c.args.kept.items rows) (sym c.from_vec.ensures)
    (subst (λ (taken : List KeptRow). AreReadAs taken at.rows.items) (take_all at.one-index kept (omega arith) ∙ c.as_slice-one-items.ensures.value) at.invariant)
