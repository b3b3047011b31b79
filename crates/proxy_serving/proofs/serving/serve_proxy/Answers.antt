use Rattle.std.proofs.Common.{rules, inl}
use Rattle.proxy_serving.specs.Workers.{split_from}
use Rattle.proxy_serving.proofs.WorkerLemmas.{opened_unused, over_one}
use Rattle.proxy_serving.proofs.serving.serve_proxy.Goals as goal

pub returns-clause-served : goal.returns-clause-served
returns-clause-served g c =
    let opened = c.in-Ok.opened in
    over_one _ _ _ (split_from opened.1) (opened_unused opened.0 c.new.result opened.1 c.in-Ok.ensures c.new.ensures.rows c.new.ensures.limit) c.serve_over.ensures.served

pub returns-in-Err-clause-served : goal.returns-in-Err-clause-served
returns-in-Err-clause-served g c = inl (search rules, search rules, search rules, search rules)

pub returns-then-is_err-clause-served : goal.returns-then-is_err-clause-served
returns-then-is_err-clause-served g c = inl (search rules, search rules, search rules, search rules)
