use Rattle.std.proofs.Common.{◌≡◌, length, sym, ◌∙◌, arith}
use Rattle.std.proofs.lemmas.Bool.Decides.{nat_tests}
use Rattle.record_texts.specs.Fields.{whole, maybe}
use Rattle.record_texts.proofs.KnownForms.{nothing, server_row_text}
use Rattle.record_texts.proofs.known_form.server_of.Goals as goal

pub returns : goal.returns
returns c =
    let kind : c.args.row.now.kind ≡ 6 = omega (arith, c.if-row-ne6.false) in
    let none : length c.in_ok-rest.rest.now ≡ 0 = grind (arith, nat_tests) in
    let seen = c.in-Some in
    let started = c.in-Some-cut_maybe_moment in
    let text = server_row_text c.in_ok-created.created c.in_ok-seconds.seconds (maybe whole seen.last_activity) (maybe whole started.started) _ _ _ _ _ _ _ _ c.in_ok-created.ensures.0
    c.in_ok-text.ensures c.in_ok-seconds.ensures c.in_ok-text-2.ensures seen.ensures.0 c.in_ok-text-3.ensures started.ensures.0
    c.in_ok-rest.ensures (nothing c.in_ok-rest.rest.now none) in (
      record { key = c.in_ok-key.ensures.1; created = c.in_ok-created.ensures.1; last_activity = seen.ensures.1; started = started.ensures.1 },
      λ i. record { kind = kind i; key = (sym c.as_bytes.ensures ∙ c.in_ok-key.ensures.0) i; text = (sym c.as_bytes-2.ensures ∙ text) i },
    )
