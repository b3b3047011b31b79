use Rattle.std.proofs.Common.{◌≡◌, codes, sym, ap, ◌∙◌}
use Rattle.std.proofs.lemmas.Result.{IfOk-weaker}
use Rattle.hub_tables.specs.Lookups.{next_of}
use Rattle.hub_tables.specs.State.{State}
use Rattle.shares.specs.Codes.{expired_codes, make_code}
use Rattle.access_calls.specs.CodeCalls.{put_code}
use Rattle.access_calls.proofs.Ruling.{given_for}
use Rattle.access_calls.proofs.code_calls.offer.Goals as goal

pub returns-in-Ok : goal.returns-in-Ok
returns-in-Ok c =
    let s = c.args.hub.now in
    let now = c.args.now in
    let server = c.args.server.now in
    let text = c.args.text.now in
    let id : c.in_ok-id.id ≡ next_of s.tables (codes "code") = c.in_ok-id.ensures ∙ ap (λ (t : State). next_of t (codes "code")) c.tables.ensures in
    let over : c.as_slice.result.now ≡ expired_codes s.tables now server = c.as_slice.ensures.value ∙ c.in_ok-over.ensures ∙ ap (λ (t : State). expired_codes t now server) c.tables-2.ensures in
    given_for (make_code server c.args.scopes.now c.args.life text (next_of s.tables (codes "code")) now) (put_code s (expired_codes s.tables now server) text) c.put_code.result c.in-Ok.code
    (sym (ap (λ n. make_code server c.args.scopes.now c.args.life text n now) id) ∙ c.in-Ok.ensures)
    (IfOk-weaker c.put_code.result _ _ (λ a h. h ∙ ap (λ ids. put_code s ids text c.in-Ok.code) over) c.put_code.ensures)
