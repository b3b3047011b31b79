use Rattle.std.proofs.Common.{rules}
use Rattle.hub_rows.specs.declared.records.ShareCode.{ShareCode}
use Rattle.shares.specs.Codes.{expired_among, is_expired_code}
use Rattle.shares.proofs.Walked.{one_further}
use Rattle.shares.proofs.codes.expired_codes.Goals as goal

pub loop-code-preserved : goal.loop-code-preserved
loop-code-preserved c =
    one_further (is_expired_code c.args.now c.args.server.now) (λ (k : ShareCode). k.id) c.in-Some.code.now c.next.new.self c.loop-code.code-iterator c.loop-code.ids.items c.push_expired.new.ids.items
    (expired_among c.args.now c.args.server.now c.into_iter-code-iterator.result) (search rules) c.in_ok-push_expired.ensures c.loop-code.invariant
