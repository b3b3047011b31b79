use Rattle.std.proofs.Common.{arith, ℕ, ◌<◌, ap, subst, sym, ◌∙◌}
use Rattle.httparse.specs.Grammar.{ChunkLine}
use Rattle.httparse.specs.Spans.{IsChunkLineAt}
use Rattle.chunk_parts.specs.Parts.{after_line}
use Rattle.chunk_parts.proofs.PlaceLemmas.{some_line, line_fits, line_taken}
use Rattle.chunk_parts.proofs.parts.line_part.Goals as goal

pub returns-in-Ok-Complete : goal.returns-in-Ok-Complete
returns-in-Ok-Complete c =
    let at : (l : ChunkLine) × IsChunkLineAt c.args.bytes.now c.in-Ok-Complete.len c.in-Ok-Complete.size l = rw c.in-Ok-Complete.field-0-is at c.in-Ok-Complete.ensures.complete in
    let l = at.0 in (
      line_fits c.args.bytes.now c.in-Ok-Complete.len c.in-Ok-Complete.size l at.1,
      subst (λ (n : ℕ). 0 < n) (sym at.1.len_is) (some_line l at.1.reads.0.digits.0),
      (
        l,
        record { valid = at.1.reads.0; short = omega (arith, line_fits c.args.bytes.now c.in-Ok-Complete.len c.in-Ok-Complete.size l at.1, at.1.len_is, c.requires) },
        line_taken c.args.bytes.now c.in-Ok-Complete.len c.in-Ok-Complete.size l at.1,
        c.after_line.ensures ∙ ap after_line at.1.size_is,
      ),
    )
