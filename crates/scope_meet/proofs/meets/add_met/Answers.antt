use Rattle.std.proofs.Common.{List, false, ◌≡◌, subst, sym, ap, ◌∙◌}
use Rattle.std.specs.FinMap as map
use Rattle.std.specs.List.{list_any}
use Rattle.scope_filters.specs.declared.filter.Filter.{Filter}
use Rattle.scope_meet.specs.Meets.{is_group}
use Rattle.scope_meet.proofs.GrantMeets.{met_under, no_group, PairsMet}
use Rattle.scope_meet.proofs.meets.add_met.Goals as goal

pub pairs_met-requires-clause-ours : goal.pairs_met-requires-clause-ours
pairs_met-requires-clause-ours g c = ap (list_any is_group) c.in_ok-ours.ensures.others ∙ no_group (map.keys c.args.filters.now)

pub pairs_met-requires-clause-theirs : goal.pairs_met-requires-clause-theirs
pairs_met-requires-clause-theirs g c = ap (list_any is_group) c.in_ok-theirs.ensures.others ∙ no_group (map.keys c.args.others.now)

pub returns-clause-met : goal.returns-clause-met
returns-clause-met g c =
    met_under (g.M.Members.context c.args.members.now) c.args.action.now (map.keys c.args.filters.now) (map.keys c.args.others.now)
    c.in_ok-ours.ours.groups.items c.in_ok-ours.ours.others.items c.in_ok-theirs.theirs.groups.items c.in_ok-theirs.theirs.others.items
    c.deref.result.now c.find.new.self.met.items c.deref-2.result.now c.args.both.now c.add_under.new.both c.add_under-2.new.both
    c.in_ok-ours.ensures.groups c.in_ok-ours.ensures.others c.in_ok-theirs.ensures.groups c.in_ok-theirs.ensures.others
    (subst (λ (l : List Filter). PairsMet c.args.action.now (g.M.Members.context c.args.members.now) c.in_ok-ours.ours.groups.items c.in_ok-ours.ours.others.items c.in_ok-theirs.theirs.groups.items c.in_ok-theirs.theirs.others.items l)
    (sym c.deref.ensures.value) c.in_ok-met.ensures) c.deref-2.ensures.value c.in_ok-find.ensures.found c.in_ok-add_under.ensures c.in_ok-add_under-2.ensures
