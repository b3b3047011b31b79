use Rattle.std.proofs.Common.{◌≡◌, Bool, map, ap, ◌∙◌}
use Rattle.std.proofs.lemmas.Result.{IfOk-weaker}
use Rattle.keyed_rows.specs.Rows.{map_of}
use Rattle.scope_filters.specs.Grants.{grant_admits}
use Rattle.scope_meet.specs.Admitted.{is_admitted}
use Rattle.hub_tables.specs.Memberships.{members_of}
use Rattle.hub_tables.specs.State.{State}
use Rattle.hub_view.specs.Pages.{kept}
use Rattle.hub_calls.specs.Rights.{may_of}
use Rattle.hub_calls.proofs.Listing.{page_is, total_is}
use Rattle.hub_calls.proofs.lists.list_of.Goals as goal

pub returns : goal.returns
returns g c =
    let s = c.args.hub.now in
    let may = may_of s c.args.rights.now in
    let body = g.K.Shown.shown may s in
    let rows = map_of g.K.Ord.cmp c.args.rows.now in
    let p : g.row.K.Denot → Bool = is_admitted g.K.Ord.cmp c.in_ok-admitted.admitted in
    let q : g.row.K.Denot → Bool = λ name. may c.args.action (g.K.Named.object_of name) in
    let same : (name : g.row.K.Denot) → p name ≡ q name
    = λ name. c.in_ok-admitted.ensures name
    ∙ ap (λ (t : State). grant_admits (members_of t.groups) c.args.rights.now c.args.action (g.K.Named.object_of name)) c.tables.ensures in
    IfOk-weaker c.listed.result _ _
    (λ a h. h (map body (kept q rows))
    (page_is c.args.page rows p q same body c.in_ok-part.part.names.items _ c.in_ok-part.ensures.names (c.in_ok-bodies.ensures ∙ ap (map body) c.as_slice.ensures.value))
    (total_is c.args.page rows p q same body c.in_ok-part.part.total c.in_ok-part.ensures.total))
    c.listed.ensures
