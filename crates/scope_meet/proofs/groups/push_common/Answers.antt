use Rattle.std.proofs.Common.{◌+◌, ◌++◌, ℕ, List, ap, drop, ◌∙◌}
use Rattle.std.specs.List.{flat_map}
use Rattle.scope_filters.specs.declared.filter.Filter.{Filter}
use Rattle.scope_meet.proofs.GroupLists.{users_among}
use Rattle.scope_meet.proofs.Steps.{all_gathered, gathered}
use Rattle.scope_meet.proofs.groups.push_common.Goals as goal

pub loop-group-preserved : goal.loop-group-preserved
loop-group-preserved g c =
    let found : List ℕ → List Filter = λ n. users_among c.args.users.now (g.M.Members.context c.args.members.now n) in
    ap (λ (met : List Filter). met ++ flat_map found (drop (c.loop-group.group-index + 1) c.args.groups.now)) (c.in_ok-push_users.ensures ∙ ap (λ (ms : List (List ℕ)). c.loop-group.met.items ++ users_among c.args.users.now ms) c.members.ensures)
    ∙ gathered found c.args.groups.now c.loop-group.group-index c.loop-group.met.items _ c.loop-group.invariant c.group-item.result c.loop-group-test.true c.group-item.is

pub returns : goal.returns
returns g c =
    all_gathered (λ (n : List ℕ). users_among c.args.users.now (g.M.Members.context c.args.members.now n)) c.args.groups.now c.loop-group.group-index c.loop-group.met.items _ c.loop-group.invariant c.loop-group-test.false
