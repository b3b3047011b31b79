use Rattle.std.proofs.lemmas.Result.{IfOk-weaker}
use Rattle.file_copies.proofs.keeping.keeper_over.Goals as goal

pub returns-in-Ok : goal.returns-in-Ok
returns-in-Ok c =
    let opened = c.in-Ok.ensures.opened in
    let found = c.in-Ok.ensures.found in
    IfOk-weaker c.resumed.result _ _ (λ kept resumed. (c.in-Ok.connection, (λ clean. (opened clean, found clean)), resumed)) c.resumed.ensures
