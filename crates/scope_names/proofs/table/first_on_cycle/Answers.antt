use Rattle.std.proofs.Common.{◌≡◌, ℕ, true, false, below_more, sym, ◌∙◌}
use Rattle.scope_names.specs.declared.action.Action.TheVariants.{Custom}
use Rattle.scope_names.specs.declared.custom.CustomRow.{CustomRow}
use Rattle.scope_names.specs.Coverage.{IsReachedFrom, subscopes}
use Rattle.scope_names.specs.Refusals.{IsOnCycle}
use Rattle.scope_names.proofs.Firsts.{fails_here, holds_here, never}
use Rattle.scope_names.proofs.table.first_on_cycle.Goals as goal

pub returns-then-branch : goal.returns-then-branch
returns-then-branch c =
    let P : ℕ → CustomRow → Type 0 = λ _ row. IsReachedFrom c.args.rows.now (subscopes c.args.rows.now (Custom row.name)) (Custom row.name) in
    (holds_here P c.args.rows.now c.loop-i.i c.index-rows-i.result c.loop-i-test.true c.index-rows-i.is (c.in_ok-returns.ensures.0 c.if-branch.true), c.loop-i.invariant)

pub loop-i-preserved : goal.loop-i-preserved
loop-i-preserved c =
    let P : ℕ → CustomRow → Type 0 = λ _ row. IsReachedFrom c.args.rows.now (subscopes c.args.rows.now (Custom row.name)) (Custom row.name) in
    below_more (λ j. ¬ (IsOnCycle c.args.rows.now j)) c.loop-i.i c.loop-i.invariant
    (fails_here P c.args.rows.now c.loop-i.i c.index-rows-i.result c.loop-i-test.true c.index-rows-i.is (λ r. let e : true ≡ false = sym (c.in_ok-returns.ensures.1 r) ∙ c.if-branch.false in cc))

pub returns : goal.returns
returns c = never (λ _ (row : CustomRow). IsReachedFrom c.args.rows.now (subscopes c.args.rows.now (Custom row.name)) (Custom row.name)) c.args.rows.now c.loop-i.i c.loop-i.invariant c.loop-i-test.false
