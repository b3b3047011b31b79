use Rattle.std.proofs.Common.{◌≡◌, ◌<◌, ◌++◌, decimal, take, ap, sym, ◌∙◌, arith}
use Rattle.std.proofs.lemmas.List.{take_rest}
use Rattle.record_texts.proofs.Cuts.{decimal_one, decimal_more, number_cut}
use Rattle.record_texts.proofs.cut.cut_number.Goals as goal

pub returns-then-number-eq0 : goal.returns-then-number-eq0
returns-then-number-eq0 c =
    let text = c.args.text.now in
    let digit = c.in_ok-number.ensures in
    let zero : c.in_ok-number.number ≡ 0 = omega (arith, c.if-number-eq0.true) in
    let front : decimal 0 ≡ take 1 text = ap decimal (sym zero) ∙ decimal_one text c.in_ok-number.number digit.0 digit.1 digit.2 in
    number_cut text 1 0 front ∙ ap (λ s. decimal 0 ++ s) (sym (take_rest text 1))

pub digits-init : goal.digits-init
digits-init c =
    let digit = c.in_ok-number.ensures in
    let some : 0 < c.in_ok-number.number = omega (arith, c.if-number-eq0.false) in
    (decimal_one c.args.text.now c.in_ok-number.number digit.0 digit.1 digit.2, some, omega (arith, digit.0))

pub digits-preserved : goal.digits-preserved
digits-preserved c =
    let digit = c.in-Some.ensures in
    let was = c.digits.invariant in
    let small : c.digits.number < 1000000000000000000 = omega (arith, c.if-number-ge1000000000000000000.false) in (
      decimal_more c.args.text.now c.digits.at c.digits.number c.in-Some.digit digit.0 was.1 small digit.1 digit.2 was.0,
      omega (arith, was.1),
      omega (arith, digit.0),
    )
