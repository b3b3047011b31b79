use Rattle.std.proofs.Common.{◌≡◌, ℕ, List, ◌++◌, ◌+◌, ◌≤◌, length, take, sym, ap, ◌∙◌, length-append}
use Rattle.std.proofs.lemmas.List.{length-take-le, take-append-le}
use Rattle.http_wire.proofs.buffer.fill_by.Goals as goal

-- what stands behind what was kept, where the front of the chunk is what came
behind : (n : ℕ) (kept into rest held new : List ℕ) → n ≤ length into → held ≡ kept → new ≡ held ++ take n (into ++ rest) → kept ++ take n into ≡ new
behind n kept into rest held new fits same is =
    ap (λ front. front ++ take n into) (sym same) ∙ (ap (λ part. held ++ part) (sym (take-append-le n into rest fits)) ∙ sym is)

longer : (n : ℕ) (kept into rest held new : List ℕ) → n ≤ length into → held ≡ kept → new ≡ held ++ take n (into ++ rest) → length new ≡ length kept + n
longer n kept into rest held new fits same is =
    ap length (sym (behind n kept into rest held new fits same is))
    ∙ (length-append kept (take n into) ∙ ap (λ k. length kept + k) (length-take-le n into fits))

pub returns-clause-took : goal.returns-clause-took
returns-clause-took g c = record {
  taken = take c.in-Ok.count c.read.new.into;
  takes = c.in-Ok.ensures.takes;
  whole = behind _ _ _ _ _ _ c.in-Ok.ensures.fits (c.reserve.ensures.items ∙ c.kept.view_is) c.in-Ok-extend_from_slice.ensures.items;
}

pub returns-clause-count : goal.returns-clause-count
returns-clause-count g c =
    longer _ _ _ _ _ _ c.in-Ok.ensures.fits (c.reserve.ensures.items ∙ c.kept.view_is) c.in-Ok-extend_from_slice.ensures.items
