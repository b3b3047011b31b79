use Rattle.std.proofs.Common.{decimal, length, ◌∙◌}
use Rattle.std.proofs.lemmas.Result.{on_ok_weaker}
use Rattle.proxy_api.proofs.TextLemmas.{added_behind}
use Rattle.proxy_api.proofs.texts.push_behind.Goals as goal

pub returns : goal.returns
returns c =
    on_ok_weaker c.push_all-5.result
    (λ h. added_behind c.args.text.now c.push_all.new.self c.push_all-2.new.self c.push_all-3.new.self c.push_all-4.new.self c.push_all-5.new.self _ _ (decimal (length c.args.body.now)) c.as_bytes.result.now _ c.args.body.now
    c.in_ok-push_all.ensures.ok c.in_ok-push_all-2.ensures.ok c.in_ok-push_all-3.ensures.ok (c.as_bytes.ensures.value ∙ c.in_ok-digits.ensures.ok) c.in_ok-push_all-4.ensures.ok h)
    c.push_all-5.ensures.ok
