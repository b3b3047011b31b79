use Rattle.std.proofs.Common.{◌≡◌, ap, ◌∙◌}
use Rattle.std.specs.Prelude.{IfOk}
use Rattle.hub_view.specs.Json.{maybe, whole}
use Rattle.hub_view.specs.Body.{body_tokens}
use Rattle.hub_view.specs.Pages.{page_at, next_offset}
use Rattle.hub_view.proofs.Arms.{next_made, next_none}
use Rattle.hub_view.proofs.Tokens.{tokens_of_number}
use Rattle.hub_view.proofs.pages.pagination.Goals.{in-Some, in-None}
use Rattle.hub_view.proofs.pages.pagination.Goals as goal

pub returns : goal.returns
returns c =
    let path = c.args.path.now in
    let page = c.args.page in
    let found = c.next_offset.result in
    let due = next_offset page c.args.total in
    let next : IfOk c.match-next_offset.next (λ b. body_tokens b ≡ maybe (page_at path page) due)
    = elim c.match-next_offset.branch [
      | in-Some w ↦ next_made c.match-next_offset.next w.next_page-next.result path page found due w.in-Some.offset w.next-is w.next_page-next.ensures c.next_offset.ensures w.in-Some.is
      | in-None w ↦ next_none c.match-next_offset.next path page found due w.next-is c.next_offset.ensures w.in-None.is
    ] in
    c.into_body.ensures _ (c.add-4.ensures _ _ (c.add-3.ensures _ _ (c.add-2.ensures _ _ (c.add.ensures _ _ c.new-fields.ensures
    (tokens_of_number c.limit_of.result ∙ ap whole c.limit_of.ensures))
    next)
    (tokens_of_number page.offset))
    (tokens_of_number c.args.total))
