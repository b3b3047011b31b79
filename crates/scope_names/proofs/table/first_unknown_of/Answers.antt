use Rattle.std.proofs.Common.{◌≡◌, ℕ, List, true, false, below_more, sym, ◌∙◌}
use Rattle.std.specs.Bool.{IsFalse}
use Rattle.std.specs.List.{slice_get}
use Rattle.std.specs.Option.{IsSomeAnd}
use Rattle.scope_names.specs.Refusals.{is_declared}
use Rattle.scope_names.proofs.Firsts.{fails_here, holds_here, never}
use Rattle.scope_names.proofs.table.first_unknown_of.Goals as goal

pub returns-then-not-is_declared : goal.returns-then-not-is_declared
returns-then-not-is_declared c =
    let P : ℕ → List ℕ → Type 0 = λ _ name. IsFalse (is_declared name c.args.rows.now) in
    (holds_here P c.args.names.now c.loop-k.k c.index-names-k.result c.loop-k-test.true c.index-names-k.is (sym c.is_declared.ensures ∙ c.if-not-is_declared.true), c.loop-k.invariant)

pub loop-k-preserved : goal.loop-k-preserved
loop-k-preserved c =
    let P : ℕ → List ℕ → Type 0 = λ _ name. IsFalse (is_declared name c.args.rows.now) in
    below_more (λ j. ¬ (IsSomeAnd (slice_get c.args.names.now j) (P j))) c.loop-k.k c.loop-k.invariant
    (fails_here P c.args.names.now c.loop-k.k c.index-names-k.result c.loop-k-test.true c.index-names-k.is (λ f. let e : true ≡ false = sym c.if-not-is_declared.false ∙ c.is_declared.ensures ∙ f in cc))

pub returns : goal.returns
returns c = never (λ _ (name : List ℕ). IsFalse (is_declared name c.args.rows.now)) c.args.names.now c.loop-k.k c.loop-k.invariant c.loop-k-test.false
