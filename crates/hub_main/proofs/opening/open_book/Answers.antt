use Rattle.hub_main.proofs.Books.{opens}
use Rattle.hub_main.proofs.Moved.{not_opened}
use Rattle.hub_main.proofs.opening.open_book.Goals as goal

pub returns-in-Err-clause-err : goal.returns-in-Err-clause-err
returns-in-Err-clause-err g c = c.in-Err.ensures.err c.args.now

pub returns-in-Ok-clause-ok : goal.returns-in-Ok-clause-ok
returns-in-Ok-clause-ok g c =
    opens g.K.Keeper.Tells g.K.Keeper.rows g.K.Keeper.faults c.args.config.now c.args.now c.args.store _ c.in-Ok.book
    c.refuse_unknown.ensures.stays c.refuse_unknown.ensures.counted c.in_default.ensures.ok
    c.in-Ok.ensures.ok

pub returns-in-Err-open-clause-err : goal.returns-in-Err-open-clause-err
returns-in-Err-open-clause-err g c =
    not_opened g.K.Keeper.Tells g.K.Keeper.rows g.K.Keeper.faults c.args.config.now c.args.now c.args.store _ c.in-Err-open.store c.in-Err-open.error
    c.refuse_unknown.ensures.stays c.in-Err-open.ensures.kept c.refuse_unknown.ensures.counted c.in-Err-open.ensures.counted c.in_default.ensures.ok
    c.in-Err-open.ensures.err
