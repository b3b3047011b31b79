use Rattle.hub_main.proofs.Books.{opened_by_end}
use Rattle.check_command.proofs.checked.over_chosen.Goals as goal

pub returns-in-Ok : goal.returns-in-Ok
returns-in-Ok g c =
    let store = g.K.Keeper in
    let book = c.in-Ok.book in
    let parts = c.into_parts-store in
    let opened = opened_by_end store.Tells store.rows store.faults c.args.hub.now c.args.now c.args.store parts.result.0 book c.in-Ok.ensures.ok parts.ensures.had in
    (book.start, book.faults, opened)
