use Rattle.std.proofs.Common.{ℕ, ◌<◌, length, arith, below_more, subst, List, inl, inr}
use Rattle.std.proofs.lemmas.Option.{slice_get_cases}
use Rattle.std.specs.Bool.{IsFalse}
use Rattle.std.specs.List.{slice_get}
use Rattle.std.specs.Option.{IsSomeAnd}
use Rattle.scope_names.specs.Refusals.{HasUnknown, IsNever, is_declared}
use Rattle.scope_names.proofs.Unknowns.{IsUnknownOf, none_here, none_past}
use Rattle.scope_names.proofs.table.first_unknown.Goals as goal

pub loop-i-preserved : goal.loop-i-preserved
loop-i-preserved c =
    let never : IsNever (IsUnknownOf c.args.rows.now c.index-rows-i.result) = subst (λ (names : List (List ℕ)). IsNever (λ k. IsSomeAnd (slice_get names k) (λ name. IsFalse (is_declared name c.args.rows.now)))) c.as_slice.ensures c.in_default.ensures in
    below_more (λ j. ¬ (HasUnknown c.args.rows.now j)) c.loop-i.i c.loop-i.invariant (none_here c.args.rows.now c.loop-i.i c.index-rows-i.result c.index-rows-i.is (omega arith) never)

pub returns : goal.returns
returns c = λ i u. elim (slice_get_cases c.args.rows.now i).1 as (λ _. ⊥) [
  | inl within ↦ c.loop-i.invariant i (let l : i < length c.args.rows.now = within.1 in omega arith) u
  | inr past ↦ none_past c.args.rows.now i past.0 u
]
