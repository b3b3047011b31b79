use Rattle.std.specs.Option.{option_copied}
use Rattle.hub_sync.specs.Plans.{target_of}
use Rattle.hub_sync.proofs.Looking.{looked, plan_seen}
use Rattle.hub_sync.proofs.sync.ask_plan.Goals as goal

pub returns : goal.returns
returns g c =
    let v = c.visit.ensures.visit in
    let l = looked c.args.pass.now c.visit.new.pass v.0 v.1 v.2.0 v.3 in
    record {
      same = l.same;
      mine = l.mine;
      failed = l.failed;
      comes = l.comes;
      planned = λ start base. plan_seen start c.args.pass.now c.visit.new.pass v.0 v.1 (target_of c.args.own (option_copied c.args.hub)) c.args.listed.now c.visit.result (λ calls. calls.items) base v.2.0 v.3 v.2.1;
    }
