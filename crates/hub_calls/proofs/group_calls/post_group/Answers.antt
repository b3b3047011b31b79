use Rattle.std.proofs.lemmas.Result.{IfOk-weaker}
use Rattle.hub_calls.specs.Puts.{PutsGroup}
use Rattle.hub_calls.proofs.Ruling.{add_group_puts, says_rows}
use Rattle.hub_calls.proofs.group_calls.post_group.Goals as goal

pub answer_of_group-requires : goal.answer_of_group-requires
answer_of_group-requires c =
    says_rows _ c.add_group-rows.result (PutsGroup c.args.group.now) (λ rows. add_group_puts c.tables.result.now c.args.group.now c.args.users.now rows) c.add_group-rows.ensures.answer

pub returns : goal.returns
returns c =
    let says = rw c.tables.ensures at c.add_group-rows.ensures.answer in
    IfOk-weaker c.answer_of_group.result _ _ (λ a h. h _ says) c.answer_of_group.ensures
