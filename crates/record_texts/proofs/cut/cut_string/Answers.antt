use Rattle.std.proofs.Common.{◌≡◌, ◌<◌, ◌+◌, ◌-◌, ◌++◌, length, take, drop, get_or, sym, ◌∙◌, arith}
use Rattle.std.proofs.lemmas.List.{take_rest}
use Rattle.json.specs.Print.{quoted}
use Rattle.record_texts.proofs.Cuts.{string_cut}
use Rattle.record_texts.proofs.cut.cut_string.Goals as goal

pub returns-in-Ok : goal.returns-in-Ok
returns-in-Ok c =
    let inside = c.in_ok-inside.inside.now in
    let end = c.in_ok-end.end in
    let lt : end < length inside = c.in_ok-end.ensures.within in
    let mark : get_or inside end 0 ≡ 34 = omega (arith, c.if-inside-end-ne34.false) in
    let written : c.in-Ok.written.now ≡ take end inside = c.in-Ok.ensures.cases.0 in
    let rest : take (length inside - (end + 1)) (drop (end + 1) inside) ≡ drop (end + 1) inside = take_rest inside (end + 1) in
    c.in_ok-inside.ensures ∙ string_cut inside end (sym c.in_ok-end.ensures.value) lt mark ∙ (λ i. quoted (sym written i) ++ sym rest i)
