use Rattle.std.proofs.Common.{◌+◌, ◌++◌, ℕ, List, ap, drop, ◌∙◌}
use Rattle.std.specs.List.{flat_map}
use Rattle.scope_meet.proofs.Steps.{all_gathered, gathered}
use Rattle.scope_meet.proofs.groups.members_of.Goals as goal

pub loop-group-init : goal.loop-group-init
loop-group-init g c = ap (λ (users : List (List ℕ)). users ++ flat_map (g.M.Members.context c.args.members.now) c.args.groups.now) c.new-users.ensures.items

pub loop-group-preserved : goal.loop-group-preserved
loop-group-preserved g c =
    let context : List ℕ → List (List ℕ) = g.M.Members.context c.args.members.now in
    ap (λ (users : List (List ℕ)). users ++ flat_map context (drop (c.loop-group.group-index + 1) c.args.groups.now)) (c.in_ok-extend_from_slice.ensures.items ∙ ap (λ (more : List (List ℕ)). c.loop-group.users.items ++ more) c.members.ensures)
    ∙ gathered context c.args.groups.now c.loop-group.group-index c.loop-group.users.items _ c.loop-group.invariant c.group-item.result c.loop-group-test.true c.group-item.is

pub returns : goal.returns
returns g c = all_gathered (g.M.Members.context c.args.members.now) c.args.groups.now c.loop-group.group-index c.loop-group.users.items _ c.loop-group.invariant c.loop-group-test.false
