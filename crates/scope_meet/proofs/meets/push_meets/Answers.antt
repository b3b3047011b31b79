use Rattle.std.proofs.Common.{◌&&◌, ◌||◌, ap, ◌∙◌}
use Rattle.scope_filters.specs.Admits.{admits, any_admits}
use Rattle.scope_meet.specs.Meets.{is_group}
use Rattle.scope_meet.proofs.Pairs.{grown_none, grown_more, grown_all, pair_of, both_of}
use Rattle.scope_meet.proofs.meets.push_meets.Goals as goal

pub loop-g-init : goal.loop-g-init
loop-g-init g c =
    let m = g.M.Members.context c.args.members.now in
    grown_none c.args.action.now m (λ x k. admits c.args.action.now m c.args.f.now x && admits c.args.action.now m k x) c.args.met.now.items

pub push_meet-requires : goal.push_meet-requires
push_meet-requires g c = pair_of (is_group c.args.f.now) c.args.others.now c.loop-g.g-index c.g-item.result c.loop-g-test.true c.g-item.is c.requires

pub loop-g-preserved : goal.loop-g-preserved
loop-g-preserved g c =
    let m = g.M.Members.context c.args.members.now in
    grown_more c.args.action.now m (λ x k. admits c.args.action.now m c.args.f.now x && admits c.args.action.now m k x)
    c.args.met.now.items c.loop-g.met.items c.push_meet.new.met.items c.args.others.now c.loop-g.g-index c.g-item.result c.loop-g-test.true c.g-item.is c.loop-g.invariant c.in_ok-push_meet.ensures

pub returns : goal.returns
returns g c x =
    let m = g.M.Members.context c.args.members.now in
    grown_all c.args.action.now m (λ x k. admits c.args.action.now m c.args.f.now x && admits c.args.action.now m k x)
    c.args.met.now.items c.loop-g.met.items c.args.others.now c.loop-g.g-index c.loop-g-test.false c.loop-g.invariant x
    ∙ ap (λ b. any_admits c.args.action.now m c.args.met.now.items x || b) (both_of (admits c.args.action.now m c.args.f.now x) (λ k. admits c.args.action.now m k x) c.args.others.now)
