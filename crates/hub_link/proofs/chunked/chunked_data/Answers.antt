use Rattle.std.proofs.Common.{◌≡◌, ◌+◌, ◌++◌, ℕ, List, Some, None, length, take, drop, sym, ap, ◌∙◌, subst, arith, length-drop}
use Rattle.std.proofs.lemmas.Slice.{between_to_end}
use Rattle.hub_link.specs.Chunked.{IsStep, data_part}
use Rattle.hub_link.proofs.ChunkLemmas.{Gathers, gathers_then, data_behind, no_data}
use Rattle.hub_link.proofs.chunked.chunked_data.Goals as goal

pub returns-in_default : goal.returns-in_default
returns-in_default c =
    let bytes = c.args.bytes.now in
    let count = c.parts.count in
    no_data c.parts.at bytes c.parts.content count c.parts.invariant.gathers
    (subst (λ (x : List ℕ). IsStep c.parts.at x None) (between_to_end bytes count (length bytes) (omega arith)) c.in_default.ensures)

pub parts-preserved : goal.parts-preserved
parts-preserved c =
    let bytes = c.args.bytes.now in
    let count = c.parts.count in
    let len = c.in-Some.len in
    let next = c.in-Some.next in
    let step : IsStep c.parts.at (drop count bytes) (Some (len, next)) =
    subst (λ (x : List ℕ). IsStep c.parts.at x (Some (len, next))) (between_to_end bytes count (length bytes) (omega arith)) c.in-Some.ensures in
    let pushed : c.push_part.new.content ≡ c.parts.content ++ data_part c.parts.at (take len (drop count bytes)) =
    c.in_ok-push_part.ensures
    ∙ ap (λ (x : List ℕ). c.parts.content ++ data_part c.parts.at (take len x)) (between_to_end bytes count (length bytes) (omega arith)) in
    record {
      within = omega (arith, c.parts.invariant.within, step.0, length-drop count bytes);
      gathers = subst (λ (x : List ℕ). Gathers next (take (count + len) bytes) x) (sym pushed) (gathers_then c.parts.at next bytes c.parts.content count len c.parts.invariant.gathers step.2);
    }

pub returns-else-count-bytes : goal.returns-else-count-bytes
returns-else-count-bytes c =
    data_behind c.parts.at c.args.bytes.now c.parts.content c.parts.count c.parts.invariant.gathers (sym c.is_done.ensures ∙ c.parts-test.false) (omega (arith, c.parts.invariant.within, c.if-count-bytes.false))
