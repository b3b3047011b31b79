use Rattle.std.proofs.Common.{subst}
use Rattle.std.proofs.lemmas.Result.{IfOk-weaker}
use Rattle.hub_tables.specs.State.{State}
use Rattle.hub_tables.proofs.RowsAt.{own_groups}
use Rattle.admin_rules.specs.Rules.{Says}
use Rattle.admin_rules.specs.Groups.{leave_group}
use Rattle.hub_calls.specs.Puts.{PutsGroup}
use Rattle.hub_calls.proofs.Ruling.{leave_group_puts, says_rows}
use Rattle.hub_calls.proofs.group_calls.leave_group.Goals as goal

pub answer_of_group-requires : goal.answer_of_group-requires
answer_of_group-requires c =
    says_rows _ c.leave_group-rows.result (PutsGroup c.args.group.now) (λ rows. leave_group_puts c.tables-tables.result.now c.args.group.now c.args.users.now rows (own_groups c.tables-tables.result.now c.own_keys.ensures c.args.group.now)) c.leave_group-rows.ensures.answer

pub returns : goal.returns
returns c =
    let says = subst (λ (t : State). Says (leave_group t c.args.group.now c.args.users.now) c.leave_group-rows.result) c.tables-tables.ensures c.leave_group-rows.ensures.answer in
    IfOk-weaker c.answer_of_group.result _ _ (λ a h. h _ says) c.answer_of_group.ensures
