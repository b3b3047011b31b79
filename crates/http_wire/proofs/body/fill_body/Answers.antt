use Rattle.std.proofs.Common.{◌≡◌, ◌<◌, ◌-◌, List, [], ℕ, length, take, refl, arith, ap, ◌∙◌, length-drop}
use Rattle.std.proofs.lemmas.List.{take_rest, length-take-le}
use borrow.Rule.Slice.PartMut.{put_mid}
use Rattle.http_wire.proofs.FillLemmas.{took_more, took_no_more, same_length}
use Rattle.http_wire.proofs.body.fill_body.Goals as goal

none_taken : (n : ℕ) (xs : List ℕ) → n ≡ 0 → take n xs ≡ []
none_taken n xs is = ap (λ k. take k xs) is ∙ refl

pub returns-in-Ok-eq0-clause-err : goal.returns-in-Ok-eq0-clause-err
returns-in-Ok-eq0-clause-err g c =
    let room : length c.take_bytes.new.into ≡ length c.fills.body - c.fills.at =
    c.take_bytes.auto.into ∙ (ap length (take_rest c.fills.body c.fills.at) ∙ length-drop c.fills.at c.fills.body) in
    let same : length (put_mid c.fills.at (length c.fills.body - c.fills.at) c.fills.body c.take_bytes.new.into) ≡ length c.fills.body =
    same_length c.fills.at (length c.fills.body - c.fills.at) c.fills.body c.take_bytes.new.into (omega arith) room in
    let ended = c.in-Ok-eq0.ensures.end c.in-Ok-eq0.field-0-test (omega (arith, room)) in
    let short : length (take c.fills.at c.fills.body) < length (put_mid c.fills.at (length c.fills.body - c.fills.at) c.fills.body c.take_bytes.new.into) =
    omega (arith, same, length-take-le c.fills.at c.fills.body c.fills.invariant.within) in (
      take c.fills.at c.fills.body,
      took_no_more _ _ _ _ _ _ _ _ _ c.fills.invariant.took c.in-Ok-eq0.ensures.took (none_taken c.in-Ok-eq0.field-0 c.take_bytes.new.into c.in-Ok-eq0.field-0-test) ended.1,
      ended.1,
      short,
      (short, ended.0),
    )

pub fills-preserved : goal.fills-preserved
fills-preserved g c =
    let room : length c.take_bytes.new.into ≡ length c.fills.body - c.fills.at =
    c.take_bytes.auto.into ∙ (ap length (take_rest c.fills.body c.fills.at) ∙ length-drop c.fills.at c.fills.body) in
    let same : length (put_mid c.fills.at (length c.fills.body - c.fills.at) c.fills.body c.take_bytes.new.into) ≡ length c.fills.body =
    same_length c.fills.at (length c.fills.body - c.fills.at) c.fills.body c.take_bytes.new.into (omega arith) room in record {
      within = omega (arith, same, c.in-Ok.ensures.fits, room);
      took = took_more _ _ _ _ _ _ c.fills.at _ c.in-Ok.count c.fills.body c.take_bytes.new.into c.fills.invariant.within c.in-Ok.ensures.fits c.fills.invariant.took c.in-Ok.ensures.took;
      counted = omega (arith, c.fills.invariant.counted, c.in-Ok.ensures.counted);
    }
