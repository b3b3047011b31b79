use Rattle.std.proofs.lemmas.Result.{IfOk-weaker}
use Rattle.hub_view.specs.Records.{new_code_body}
use Rattle.access_calls.specs.CodeCalls.{code_rows}
use Rattle.access_calls.proofs.code_calls.made.Goals as goal

pub returns : goal.returns
returns c =
    IfOk-weaker c.told.result _ _
    (λ a h. h (code_rows c.args.code.now c.args.over.now) (new_code_body c.args.code.now c.args.text.now) c.code_rows.ensures (rw c.as_str.ensures at c.new_code_body.ensures))
    c.told.ensures
