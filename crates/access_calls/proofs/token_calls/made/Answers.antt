use Rattle.std.proofs.lemmas.Result.{IfOk-weaker}
use Rattle.hub_view.specs.Records.{new_token_body}
use Rattle.access_calls.specs.TokenCalls.{token_rows}
use Rattle.access_calls.proofs.token_calls.made.Goals as goal

pub returns : goal.returns
returns c =
    IfOk-weaker c.told.result _ _
    (λ a h. h (token_rows c.args.token c.args.over.now) (new_token_body c.args.token c.args.text.now) c.token_rows-rows.ensures (rw c.as_str.ensures at c.new_token_body-body.ensures))
    c.told.ensures
