use Rattle.std.proofs.Common.{◌≡◌, ◌+◌, ◌++◌, List, ap, drop, sym, ◌∙◌}
use Rattle.scope_filters.specs.declared.filter.Filter.{Filter}
use Rattle.scope_filters.specs.declared.filter.Filter.TheVariants as Fi
use Rattle.scope_meet.specs.Meets.{is_among}
use Rattle.scope_meet.proofs.GroupLists.{users_among}
use Rattle.scope_meet.proofs.Steps.{all_judged, passed_over, picked}
use Rattle.scope_meet.proofs.groups.push_users.Goals.{then-has_user+in_ok-push, else-has_user}
use Rattle.scope_meet.proofs.groups.push_users.Goals as goal

pub loop-user-preserved : goal.loop-user-preserved
loop-user-preserved c =
    let rest : List Filter = users_among c.args.users.now (drop (c.loop-user.user-index + 1) c.args.members.now) in
    elim c.if-has_user.branch as (λ _. c.if-has_user.met.items ++ rest ≡ c.args.met.now.items ++ users_among c.args.users.now c.args.members.now) [
      | then-has_user+in_ok-push w ↦ ap (λ met. met.items ++ rest) w.met-is ∙ ap (λ met. met ++ rest) w.in_ok-push.ensures.items
          ∙ picked Fi.User (is_among c.args.users.now) c.args.members.now c.loop-user.user-index c.loop-user.met.items _ c.loop-user.invariant c.user-item.result c.loop-user-test.true c.user-item.is (sym c.has_user.ensures ∙ w.if-has_user.true)
      | else-has_user w ↦ ap (λ met. met.items ++ rest) w.met-is
          ∙ passed_over Fi.User (is_among c.args.users.now) c.args.members.now c.loop-user.user-index c.loop-user.met.items _ c.loop-user.invariant c.user-item.result c.loop-user-test.true c.user-item.is (sym c.has_user.ensures ∙ w.if-has_user.false)
    ]

pub returns : goal.returns
returns c = all_judged Fi.User (is_among c.args.users.now) c.args.members.now c.loop-user.user-index c.loop-user.met.items _ c.loop-user.invariant c.loop-user-test.false
