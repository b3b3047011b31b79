use Rattle.std.proofs.Common.{◌≡◌, ℕ, ◌∙◌, ap, get_or, sym, refl}
use Rattle.std.proofs.lemmas.List.{drop_all}
use Rattle.http_wire.specs.declared.place.Place.{Place}
use Rattle.http_wire.proofs.Places.{next_place, place_after, walked, blank_feed, blank_return, blank_token, blank_other, return_feed, return_other, method_token, method_space, method_other, target_byte, target_other, elsewhere}
use Rattle.http_wire.proofs.PlaceLemmas.{leads_to_target, comes_from_target}
use Rattle.http_wire.proofs.place.ends_in_target.Goals.{in-Blank, in-Blank-2, in-Blank-3, in-Return, in-Method, in-Method-2, in-Target, in_default-2, in_default-3, in_default-4, in_default-5, in_default}
use Rattle.http_wire.proofs.place.ends_in_target.Goals as goal

pub loop-b-preserved : goal.loop-b-preserved
loop-b-preserved c =
    let p : Place = c.loop-b.place in
    let q : Place = c.match-place.place in
    let b : ℕ = get_or c.args.bytes.now c.loop-b.b-index 0 in
    walked p q c.args.bytes.now c.loop-b.b-index _ c.loop-b-test.true
    (elim c.match-place.branch as (λ _. q ≡ next_place p b) [
      | in-Blank w ↦ blank_feed p q b w.in-Blank.is w.if-b-eq10.true w.place-is
      | in-Blank-2 w ↦ blank_return p q b w.in-Blank.is w.if-b-eq10.false w.if-b-eq13.true w.place-is
      | in-Blank-3 w ↦ blank_token p q b w.in-Blank.is w.if-b-eq10.false w.if-b-eq13.false (sym w.is_method_token.ensures ∙ w.if-is_method_token.true) w.place-is
      | in-Return w ↦ return_feed p q b w.in-Return.is w.if-b-eq10-2.true w.place-is
      | in-Method w ↦ method_token p q b w.in-Method.is (sym w.if-is_method_token-2.ensures) w.place-is
      | in-Method-2 w ↦ method_space p q b w.in-Method.is (sym w.if-is_method_token-2.ensures) w.if-b-eq32.true w.place-is
      | in-Target w ↦ target_byte p q b w.in-Target.is (sym w.is_uri_token.ensures ∙ w.if-is_uri_token.true) w.place-is
      | in_default-2 w ↦ blank_other p q b w.in-Blank.is w.if-b-eq10.false w.if-b-eq13.false (sym w.is_method_token.ensures ∙ w.if-is_method_token.false) w.place-is
      | in_default-3 w ↦ return_other p q b w.in-Return.is w.if-b-eq10-2.false w.place-is
      | in_default-4 w ↦ method_other p q b w.in-Method.is (sym w.if-is_method_token-2.ensures) w.if-b-eq32.false w.place-is
      | in_default-5 w ↦ target_other p q b w.in-Target.is (sym w.is_uri_token.ensures ∙ w.if-is_uri_token.false) w.place-is
      | in_default w ↦ elsewhere p q b w.in_default.is w.place-is
    ])
    c.loop-b.invariant

pub returns-in-Target-matches : goal.returns-in-Target-matches
returns-in-Target-matches c = (
  λ _. comes_from_target c.args.bytes.now (sym c.loop-b.invariant ∙ ap (place_after c.loop-b.place) (drop_all c.loop-b.b-index c.args.bytes.now c.loop-b-test.false) ∙ c.in-Target-matches.is),
  λ _. refl,
)

pub returns-in_default-matches : goal.returns-in_default-matches
returns-in_default-matches c = (
  λ no. cc,
  λ ends. absurd (c.in_default-matches.not-Target (sym (ap (place_after c.loop-b.place) (drop_all c.loop-b.b-index c.args.bytes.now c.loop-b-test.false)) ∙ c.loop-b.invariant ∙ leads_to_target c.args.bytes.now ends)),
)
