use Rattle.std.proofs.Common.{◌≡◌, sym, ◌∙◌}
use Rattle.hub_paths.proofs.CutLemmas.{text_ends, path_ends}
use Rattle.hub_paths.proofs.paths.fits.Goals as goal

pub returns-in-None : goal.returns-in-None
returns-in-None c =
    path_ends (λ rest. rest.now) c.next_segment-in-segments.result.1 c.segments.parts.now c.segments.segments.now _ _ c.is_none.result
    (rw c.in-None.is at c.next_segment.ensures.parts) c.next_segment-in-segments.ensures.parts (sym c.fits_part.ensures ∙ c.if-not-fits_part.false)
    c.is_none.ensures ∙ c.segments.invariant

pub returns-in-None-more_segments : goal.returns-in-None-more_segments
returns-in-None-more_segments c =
    sym (text_ends c.segments.parts.now c.segments.segments.now _ _ c.in-Some.rest.now (rw c.in-Some.is at c.next_segment.ensures.parts)
    (rw c.in-None-more_segments.is at c.next_segment-in-segments.ensures.parts) (sym c.fits_part.ensures ∙ c.if-not-fits_part.false)) ∙ c.segments.invariant
