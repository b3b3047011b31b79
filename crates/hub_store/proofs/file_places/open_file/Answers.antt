use Rattle.std.proofs.lemmas.Result.{IfOk-weaker}
use Rattle.hub_store.proofs.file_places.open_file.Goals as goal

pub returns-in-Ok : goal.returns-in-Ok
returns-in-Ok g c =
    let opened = c.in-Ok.ensures.opened in
    let found = c.in-Ok.ensures.found in
    IfOk-weaker c.keeper_over.result _ _ (λ kept resumed. (c.in-Ok.connection, (λ clean. (opened clean, found clean)), resumed))
    c.keeper_over.ensures
