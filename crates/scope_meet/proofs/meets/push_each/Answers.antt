use Rattle.std.proofs.Common.{◌&&◌, ◌||◌, Bool, ap, ◌∙◌}
use Rattle.std.specs.List.{list_any}
use Rattle.scope_filters.specs.declared.object.Object.{Object}
use Rattle.scope_filters.specs.declared.filter.Filter.{Filter}
use Rattle.scope_filters.specs.Admits.{admits, any_admits}
use Rattle.scope_meet.specs.Meets.{is_group}
use Rattle.scope_meet.proofs.NamesMet.{any_and}
use Rattle.scope_meet.proofs.Pairs.{grown_none, grown_more, grown_all, pair_with}
use Rattle.scope_meet.proofs.meets.push_each.Goals as goal

pub loop-f-init : goal.loop-f-init
loop-f-init g c =
    let m = g.M.Members.context c.args.members.now in
    grown_none c.args.action.now m (λ x f. admits c.args.action.now m f x && any_admits c.args.action.now m c.args.others.now x) c.args.met.now.items

pub push_meets-requires : goal.push_meets-requires
push_meets-requires g c = pair_with (list_any is_group c.args.others.now) c.args.filters.now c.loop-f.f-index c.f-item.result c.loop-f-test.true c.f-item.is c.requires

pub loop-f-preserved : goal.loop-f-preserved
loop-f-preserved g c =
    let m = g.M.Members.context c.args.members.now in
    grown_more c.args.action.now m (λ x f. admits c.args.action.now m f x && any_admits c.args.action.now m c.args.others.now x)
    c.args.met.now.items c.loop-f.met.items c.push_meets.new.met.items c.args.filters.now c.loop-f.f-index c.f-item.result c.loop-f-test.true c.f-item.is c.loop-f.invariant c.in_ok-push_meets.ensures

pub returns : goal.returns
returns g c x =
    let m = g.M.Members.context c.args.members.now in
    let theirs : Bool = any_admits c.args.action.now m c.args.others.now x in
    grown_all c.args.action.now m (λ x f. admits c.args.action.now m f x && any_admits c.args.action.now m c.args.others.now x)
    c.args.met.now.items c.loop-f.met.items c.args.filters.now c.loop-f.f-index c.loop-f-test.false c.loop-f.invariant x
    ∙ ap (λ b. any_admits c.args.action.now m c.args.met.now.items x || b) (any_and (λ f. admits c.args.action.now m f x) theirs c.args.filters.now)
