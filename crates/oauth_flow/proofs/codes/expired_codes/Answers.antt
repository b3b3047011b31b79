use Rattle.std.proofs.Common.{rules}
use Rattle.hub_rows.specs.declared.records.OAuthCode.{OAuthCode}
use Rattle.oauth_flow.specs.Codes.{expired_among, is_expired_code}
use Rattle.oauth_flow.proofs.Walked.{one_further}
use Rattle.oauth_flow.proofs.codes.expired_codes.Goals as goal

pub loop-code-preserved : goal.loop-code-preserved
loop-code-preserved c =
    one_further (is_expired_code c.args.now) (λ (k : OAuthCode). k.hash) c.in-Some.code.now c.next.new.self c.loop-code.code-iterator c.loop-code.hashes.items c.push_expired.new.hashes.items
    (expired_among c.args.now c.into_iter-code-iterator.result) (search rules) c.in_ok-push_expired.ensures c.loop-code.invariant
