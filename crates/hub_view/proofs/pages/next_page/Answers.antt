use Rattle.std.proofs.Common.{ap, ◌∙◌}
use Rattle.hub_view.specs.Json.{whole, line}
use Rattle.hub_view.specs.Pages.{page_url}
use Rattle.hub_view.proofs.Tokens.{tokens_of_number, tokens_of_line}
use Rattle.hub_view.proofs.pages.next_page.Goals as goal

pub returns : goal.returns
returns c = c.into_body.ensures _
    (c.add-3.ensures _ _ (c.add-2.ensures _ _ (c.add.ensures _ _ c.new-fields.ensures (tokens_of_number c.limit_of-limit.result ∙ ap whole c.limit_of-limit.ensures))
    (tokens_of_number c.args.offset))
    (tokens_of_line c.in_ok-url.url ∙ ap line c.in_ok-url.ensures ∙ ap (λ n. line (page_url c.args.path.now n c.args.offset)) c.limit_of-limit.ensures))
