use Rattle.std.proofs.Common.{◌≡◌, length, sym, ◌∙◌, arith}
use Rattle.std.proofs.lemmas.Bool.Decides.{nat_tests}
use Rattle.serde_json.specs.Data.{boolean}
use Rattle.record_texts.specs.Fields.{whole, maybe}
use Rattle.record_texts.proofs.Cuts.{name_is}
use Rattle.record_texts.proofs.KnownForms.{nothing, user_text}
use Rattle.record_texts.proofs.known_form.user_of.Goals as goal

pub returns : goal.returns
returns c =
    let name = name_is c.as_bytes.result.now c.in-Ok.name (sym c.in-Ok.ensures) in
    let kind : c.args.row.now.kind ≡ 1 = omega (arith, c.if-row-ne1.false) in
    let none : length c.in_ok-rest.rest.now ≡ 0 = grind (arith, nat_tests) in
    let text = user_text (boolean c.in-Some.admin) c.in_ok-created.created c.in_ok-seconds.seconds (maybe whole c.in-Some-cut_maybe_moment.last_activity) _ _ _ _ _ _ _ _ c.in_ok-created.ensures.0
    c.in_ok-text.ensures c.in-Some.ensures c.in_ok-text-2.ensures c.in_ok-seconds.ensures c.in_ok-text-3.ensures c.in-Some-cut_maybe_moment.ensures.0
    c.in_ok-rest.ensures (nothing c.in_ok-rest.rest.now none) in (
      record { name = name.1; created = c.in_ok-created.ensures.1; last_activity = c.in-Some-cut_maybe_moment.ensures.1 },
      λ i. record { kind = kind i; key = (sym c.as_bytes.ensures ∙ name.0) i; text = (sym c.as_bytes-2.ensures ∙ text) i },
    )
