use Rattle.std.proofs.Common.{◌≡◌, ℕ, true, false, below_more, sym, take, ◌∙◌}
use Rattle.std.specs.Prelude.{IsTrue}
use Rattle.scope_names.specs.declared.custom.CustomRow.{CustomRow}
use Rattle.scope_names.specs.Refusals.{is_declared, Repeats}
use Rattle.scope_names.proofs.Firsts.{fails_here, holds_here, never}
use Rattle.scope_names.proofs.table.first_repeated.Goals as goal

pub returns-then-is_declared : goal.returns-then-is_declared
returns-then-is_declared c =
    let P : ℕ → CustomRow → Type 0 = λ i row. IsTrue (is_declared row.name (take i c.args.rows.now)) in
    (holds_here P c.args.rows.now c.loop-i.i c.index-rows-i.result c.loop-i-test.true c.index-rows-i.is (sym c.is_declared.ensures ∙ c.if-is_declared.true), c.loop-i.invariant)

pub loop-i-preserved : goal.loop-i-preserved
loop-i-preserved c =
    let P : ℕ → CustomRow → Type 0 = λ i row. IsTrue (is_declared row.name (take i c.args.rows.now)) in
    below_more (λ j. ¬ (Repeats c.args.rows.now j)) c.loop-i.i c.loop-i.invariant
    (fails_here P c.args.rows.now c.loop-i.i c.index-rows-i.result c.loop-i-test.true c.index-rows-i.is (λ t. let e : true ≡ false = sym t ∙ sym c.is_declared.ensures ∙ c.if-is_declared.false in cc))

pub returns : goal.returns
returns c = never (λ i (row : CustomRow). IsTrue (is_declared row.name (take i c.args.rows.now))) c.args.rows.now c.loop-i.i c.loop-i.invariant c.loop-i-test.false
