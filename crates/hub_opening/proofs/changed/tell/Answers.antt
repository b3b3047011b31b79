use Rattle.hub_opening.proofs.Changing.{told_of, untold_of}
use Rattle.hub_opening.proofs.changed.tell.Goals as goal

pub returns-then-is_same_item : goal.returns-then-is_same_item
returns-then-is_same_item c = λ row e has h.
    untold_of c.args.put.now c.args.tables.now c.args.batch.now c.in_ok-item.item c.in_ok-kept.kept c.in_ok-item.ensures.valid c.in_ok-item.ensures.item c.in_ok-kept.ensures
    (c.is_same_item.ensures c.if-is_same_item.true) row e has h

pub returns : goal.returns
returns c = λ row e has h.
    told_of c.args.put.now c.args.tables.now c.args.batch.now c.push.new.self c.in_ok-item.item c.in_ok-item.ensures.valid c.in_ok-item.ensures.item c.in_ok-push.ensures.ok row e has h
