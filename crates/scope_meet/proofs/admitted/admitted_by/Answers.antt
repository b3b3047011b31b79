use Rattle.std.proofs.Common.{sym, ap, ◌∙◌}
use Rattle.std.specs.FinMap as map
use Rattle.keyed_rows.specs.Sorted.{is_among}
use Rattle.keyed_rows.proofs.KeyLists.{among_in_order}
use Rattle.scope_meet.proofs.Named.{every_admitted, these_admitted}
use Rattle.scope_meet.proofs.admitted.admitted_by.Goals as goal

pub returns-then-has_all : goal.returns-then-has_all
returns-then-has_all g c name =
    sym (every_admitted c.args.action (g.M.Members.context c.args.members.now) (map.keys c.args.filters.now) (g.K.Named.object_of name) (sym c.has_all.ensures ∙ c.if-has_all.true))

pub returns : goal.returns
returns g c name =
    let context = g.M.Members.context c.args.members.now in
    let fs = map.keys c.args.filters.now in
    ap (is_among g.K.Ord.cmp name) c.from_vec.ensures
    ∙ among_in_order g.met.K.Ord.total g.met.K.Key.exact name c.in_ok-names.names.items
    ∙ ap (is_among g.K.Ord.cmp name) c.in_ok-names.ensures
    ∙ these_admitted g.K.Ord.cmp c.args.action context g.K.Named.object_of (g.K.Named.named_by c.args.action context) (g.met.K.Named.named c.args.action context) fs name (sym c.has_all.ensures ∙ c.if-has_all.false)
