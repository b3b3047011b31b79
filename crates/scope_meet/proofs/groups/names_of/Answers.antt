use Rattle.std.proofs.Common.{◌+◌, ◌++◌, ℕ, List, ap, drop, ◌∙◌}
use Rattle.std.specs.List.{flat_map}
use Rattle.scope_meet.specs.Meets.{group_names}
use Rattle.scope_meet.proofs.Steps.{all_gathered, gathered}
use Rattle.scope_meet.proofs.groups.names_of.Goals as goal

pub loop-filter-init : goal.loop-filter-init
loop-filter-init c = ap (λ (names : List (List ℕ)). names ++ flat_map group_names c.args.filters.now) c.new-names.ensures.items

pub loop-filter-preserved : goal.loop-filter-preserved
loop-filter-preserved c =
    ap (λ (names : List (List ℕ)). names ++ flat_map group_names (drop (c.loop-filter.filter-index + 1) c.args.filters.now)) c.in_ok-push_name.ensures
    ∙ gathered group_names c.args.filters.now c.loop-filter.filter-index c.loop-filter.names.items _ c.loop-filter.invariant c.filter-item.result c.loop-filter-test.true c.filter-item.is

pub returns : goal.returns
returns c = all_gathered group_names c.args.filters.now c.loop-filter.filter-index c.loop-filter.names.items _ c.loop-filter.invariant c.loop-filter-test.false
