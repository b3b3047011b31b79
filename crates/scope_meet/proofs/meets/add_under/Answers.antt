use Rattle.std.proofs.Common.{◌≡◌, ◌+◌, ◌++◌, ◌∷◌, [], List, sym, ap, ◌∙◌, subst, take, arith}
use Rattle.std.proofs.lemmas.List.{take_all, take_more}
use Rattle.scope_filters.specs.declared.filter.Filter.{Filter}
use Rattle.scope_meet.proofs.GrantMeets.{Under, under_none, under_more}
use Rattle.scope_meet.proofs.meets.add_under.Goals as goal

pub loop-filter-init : goal.loop-filter-init
loop-filter-init c = under_none c.args.both.now c.args.action.now

pub loop-filter-preserved : goal.loop-filter-preserved
loop-filter-preserved c =
    let i = c.loop-filter.filter-index in
    let all : List Filter = c.args.filters.now in
    let filter : Filter = c.filter-item.result in
    let more : take (i + 1) all ≡ take i all ++ filter ∷ [] = take_more all i filter (omega arith) ∙ ap (λ (y : Filter). take i all ++ y ∷ []) (sym c.filter-item.is) in
    subst (λ (filters : List Filter). Under c.args.both.now c.args.action.now filters c.add.new.self) (sym more)
    (under_more c.args.both.now c.args.action.now (take i all) filter c.loop-filter.both c.add.new.self c.in_ok-add.ensures.ok c.loop-filter.invariant)

pub returns : goal.returns
returns c = subst (λ (filters : List Filter). Under c.args.both.now c.args.action.now filters c.loop-filter.both) (take_all c.loop-filter.filter-index c.args.filters.now c.loop-filter-test.false) c.loop-filter.invariant
