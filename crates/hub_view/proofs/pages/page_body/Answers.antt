use Rattle.hub_view.specs.Json.{items}
use Rattle.hub_view.specs.Body.{bodies}
use Rattle.hub_view.proofs.Arms.{with_place}
use Rattle.hub_view.proofs.Chains.{retold}
use Rattle.hub_view.proofs.Tokens.{tokens_of_items}
use Rattle.hub_view.proofs.pages.page_body.Goals as goal

pub returns : goal.returns
returns c = retold c.into_body.result _ _
    (c.into_body.ensures _ (c.add-2.ensures _ _ (c.add.ensures _ _ c.new-fields.ensures c.pagination-place.ensures) (tokens_of_items c.args.part)))
    (with_place c.args.page.paged _ (items (bodies c.args.part.items)) c.if-not-page.false)
