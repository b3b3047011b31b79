use Rattle.std.proofs.Common.{rules, ◌≡◌, ◌≤◌, inl, length, ◌∙◌, subst, sym}
use Rattle.std.specs.Vec.{vec_capacity}
use Rattle.proxy_serving.specs.Workers.{split_from}
use Rattle.proxy_serving.proofs.WorkerLemmas.{forwarders_back, long_or_idle}
use Rattle.proxy_serving.proofs.serving.serve_over.Goals as goal

pub dismiss-requires-clause-room : goal.dismiss-requires-clause-room
dismiss-requires-clause-room g c =
    let fits : length c.args.kits.now.items ≤ vec_capacity c.args.kits.now = search rules in
    let long = long_or_idle _ _ _ _ _ _ c.in-Ok.forwarders.items c.serve_hired-end.new.forwarders.items c.serve_hired-end.result.forwarded
    c.serve_hired-end.ensures.served ∙ c.in-Ok.ensures.one_each in
    subst (λ n. n ≤ vec_capacity c.hire_forwarders.new.kits) (sym long) (subst (λ n. length c.args.kits.now.items ≤ n) (sym c.hire_forwarders.ensures.room) fits)

pub returns-clause-served : goal.returns-clause-served
returns-clause-served g c =
    let served = c.serve_hired-end in
    forwarders_back _ _ (λ p f. f.routes.pass ≡ p) (λ p s. (s.routes.pass ≡ p) × (s.secret.now ≡ c.args.secret.now)) (λ f. f.kit) (λ s. s.clock)
    c.args.kits.now.items c.dismiss.new.kits.items c.args.clocks.now.items served.new.clocks.items c.in-Ok.forwarders.items served.new.forwarders.items
    served.result.forwarded served.result.answered (split_from c.hire_forwarders.new.pass) (split_from c.args.pass) c.hire_forwarders.ensures.same
    c.in-Ok.ensures.begin c.in-Ok.ensures.hired.1 c.dismiss.ensures.back served.ensures.served

pub returns-in-Err-clause-served : goal.returns-in-Err-clause-served
returns-in-Err-clause-served g c = inl (search rules, search rules, c.in-Err.ensures.kept, search rules)
