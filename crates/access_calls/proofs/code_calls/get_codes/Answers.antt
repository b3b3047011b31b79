use Rattle.std.proofs.Common.{◌≡◌, length, map, ap, ◌∙◌}
use Rattle.std.proofs.lemmas.Result.{IfOk-weaker}
use Rattle.hub_tables.specs.State.{State}
use Rattle.shares.specs.Lists.{codes_of}
use Rattle.hub_view.specs.Body.{bodies}
use Rattle.hub_view.specs.Pages.{in_page, paged_list}
use Rattle.hub_machine.specs.Replies.{gives, good}
use Rattle.access_calls.specs.CodeCalls.{code_at}
use Rattle.access_calls.proofs.Ruling.{page_of_all, total_of_all}
use Rattle.access_calls.proofs.code_calls.get_codes.Goals as goal

pub returns : goal.returns
returns c =
    let s = c.args.hub.now in
    let page = c.args.page in
    let whole = codes_of s.tables c.args.whose.now in
    let all : c.in_ok-ids.ids.items ≡ whole = c.in_ok-ids.ensures ∙ ap (λ (t : State). codes_of t c.args.whose.now) c.tables.ensures in
    IfOk-weaker c.listed.result _ _
    (λ a h. h (map (code_at s) whole)
    (page_of_all page (code_at s) whole c.in_ok-part.part.items (bodies c.in_ok-bodies.bodies.items) (c.in_ok-part.ensures ∙ ap (in_page page) (c.as_slice.ensures.value ∙ all))
    (c.in_ok-bodies.ensures ∙ ap (map (code_at s)) c.as_slice-2.ensures.value))
    (total_of_all (code_at s) whole c.len.result (c.len.ensures ∙ c.in_ok-ids.ids.ok.0 ∙ ap length all))
    ∙ ap (λ path. gives (good 200 (paged_list path page (map (code_at s) whole)))) (c.as_str.ensures ∙ c.in_ok-path.ensures))
    c.listed.ensures
