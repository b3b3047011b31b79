use Rattle.std.proofs.Common.{◌≡◌, length, map, ap, ◌∙◌}
use Rattle.std.proofs.lemmas.Result.{IfOk-weaker}
use Rattle.hub_tables.specs.State.{State}
use Rattle.shares.specs.Lists.{shares_of}
use Rattle.hub_view.specs.Body.{bodies}
use Rattle.hub_view.specs.Pages.{in_page, paged_list}
use Rattle.hub_machine.specs.Replies.{gives, good}
use Rattle.access_calls.specs.ShareCalls.{share_at}
use Rattle.access_calls.proofs.Ruling.{page_of_all, total_of_all}
use Rattle.access_calls.proofs.share_calls.get_shares.Goals as goal

pub returns : goal.returns
returns c =
    let s = c.args.hub.now in
    let page = c.args.page in
    let whole = shares_of s.tables c.args.whose.now in
    let all : c.in_ok-keys.keys.items ≡ whole = c.in_ok-keys.ensures ∙ ap (λ (t : State). shares_of t c.args.whose.now) c.tables.ensures in
    IfOk-weaker c.listed.result _ _
    (λ a h. h (map (share_at s) whole)
    (page_of_all page (share_at s) whole c.in_ok-part.part.items (bodies c.in_ok-bodies.bodies.items) (c.in_ok-part.ensures ∙ ap (in_page page) (c.as_slice.ensures.value ∙ all))
    (c.in_ok-bodies.ensures ∙ ap (map (share_at s)) c.as_slice-2.ensures.value))
    (total_of_all (share_at s) whole c.len.result (c.len.ensures ∙ c.in_ok-keys.keys.ok.0 ∙ ap length all))
    ∙ ap (λ path. gives (good 200 (paged_list path page (map (share_at s) whole)))) (c.as_str.ensures ∙ c.in_ok-path.ensures))
    c.listed.ensures
