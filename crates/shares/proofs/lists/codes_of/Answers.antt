use Rattle.std.proofs.Common.{rules}
use Rattle.hub_rows.specs.declared.records.ShareCode.{ShareCode}
use Rattle.shares.specs.Lists.{codes_among, is_code_of}
use Rattle.shares.proofs.Walked.{one_further}
use Rattle.shares.proofs.lists.codes_of.Goals as goal

pub loop-code-preserved : goal.loop-code-preserved
loop-code-preserved c =
    one_further (is_code_of c.args.whose.now) (λ (k : ShareCode). k.id) c.in-Some.code.now c.next.new.self c.loop-code.code-iterator c.loop-code.ids.items c.push_code.new.ids.items
    (codes_among c.args.whose.now c.into_iter-code-iterator.result) (search rules) c.in_ok-push_code.ensures c.loop-code.invariant
