use Rattle.scope_meet.proofs.TextCompare.{compared}
use Rattle.scope_meet.proofs.text_order.text_cmp.Goals as goal

pub returns : goal.returns
returns c = compared c.args.f.now c.args.g.now c.kind_text.result.now c.kind_text-2.result.now c.cmp.result c.value_cmp.result c.then.result c.kind_text.ensures c.kind_text-2.ensures c.cmp.ensures c.value_cmp.ensures c.then.ensures
