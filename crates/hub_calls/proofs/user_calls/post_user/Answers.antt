use Rattle.std.specs.Prelude.{false}
use Rattle.std.proofs.lemmas.Result.{IfOk-weaker}
use Rattle.hub_calls.specs.Puts.{PutsUser}
use Rattle.hub_calls.proofs.Ruling.{add_user_puts, says_rows}
use Rattle.hub_calls.proofs.user_calls.post_user.Goals as goal

pub answer_of_user-requires : goal.answer_of_user-requires
answer_of_user-requires c =
    says_rows _ c.add_users-rows.result (PutsUser c.args.user.now) (λ rows. add_user_puts c.tables.result.now c.args.user.now false c.args.now rows) c.add_users-rows.ensures.answer

pub returns : goal.returns
returns c =
    let says = rw c.tables.ensures at c.add_users-rows.ensures.answer in
    IfOk-weaker c.answer_of_user.result _ _ (λ a h. h _ says) c.answer_of_user.ensures
