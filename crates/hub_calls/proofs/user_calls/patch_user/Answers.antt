use Rattle.std.proofs.lemmas.Result.{IfOk-weaker}
use Rattle.hub_tables.proofs.RowsAt.{own_users}
use Rattle.hub_calls.specs.Puts.{PutsUser}
use Rattle.hub_calls.proofs.Ruling.{set_admin_puts, says_rows}
use Rattle.hub_calls.proofs.user_calls.patch_user.Goals as goal

pub answer_of_user-requires : goal.answer_of_user-requires
answer_of_user-requires c =
    says_rows _ c.set_admin-rows.result (PutsUser c.args.user.now) (λ rows. set_admin_puts c.tables-tables.result.now c.args.user.now c.args.admin rows (own_users c.tables-tables.result.now c.own_keys.ensures c.args.user.now)) c.set_admin-rows.ensures.answer

pub returns : goal.returns
returns c =
    let says = rw c.tables-tables.ensures at c.set_admin-rows.ensures.answer in
    IfOk-weaker c.answer_of_user.result _ _ (λ a h. h _ says) c.answer_of_user.ensures
