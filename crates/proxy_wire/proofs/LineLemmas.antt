-- A header's line that stands whole in the bytes.
use Rattle.std.proofs.Common.{◌≡◌, ℕ, ◌+◌, ◌≤◌, List, [], ◌∷◌, ◌++◌, take, drop, sym, ap, ◌∙◌, arith}
use Rattle.std.specs.List.{slice_range}
use Rattle.std.proofs.lemmas.Slice.{between_is}
use Rattle.std.proofs.lemmas.List.{take-take}
use Rattle.std.proofs.lemmas.List.Folds.{drop_split}
use Rattle.httparse.specs.declared.spans.HeaderSpan.{HeaderSpan}
use Rattle.http_wire.specs.Head.{header_at}
use Rattle.proxy_wire.specs.Heads.{header_line}

-- a slice is its part before a place and the rest
pub slice_joined : (xs : List ℕ) (i j k : ℕ) → i ≤ j → j ≤ k → slice_range xs i k ≡ slice_range xs i j ++ slice_range xs j k
slice_joined xs i j k first second =
    between_is xs i k
    ∙ (drop_split (take k xs) i j first
    ∙ (ap (λ (front : List ℕ). front ++ drop j (take k xs)) (between_is (take k xs) i j ∙ (ap (drop i) (take-take j k xs second) ∙ sym (between_is xs i j)))
    ∙ ap (λ (rest : List ℕ). slice_range xs i j ++ rest) (sym (between_is xs j k))))

pub line_joined : (bytes : List ℕ) (span : HeaderSpan) → span.name.start ≤ span.name.end → span.name.end ≤ span.value.start → span.value.start ≤ span.value.end
    → slice_range bytes span.name.end span.value.start ≡ 58 ∷ 32 ∷ [] → slice_range bytes span.value.end (span.value.end + 2) ≡ 13 ∷ 10 ∷ []
    → slice_range bytes span.name.start (span.value.end + 2) ≡ header_line (header_at bytes span)
line_joined bytes span first between second colon end =
    slice_joined bytes span.name.start span.value.end (span.value.end + 2) (omega (arith, first, between, second)) (omega arith)
    ∙ (ap (λ (x : List ℕ). x ++ slice_range bytes span.value.end (span.value.end + 2)) before_end
    ∙ ap (λ (x : List ℕ). (slice_range bytes span.name.start span.name.end ++ (58 ∷ 32 ∷ slice_range bytes span.value.start span.value.end)) ++ x) end)
  where
    before_end : slice_range bytes span.name.start span.value.end ≡ slice_range bytes span.name.start span.name.end ++ (58 ∷ 32 ∷ slice_range bytes span.value.start span.value.end)
    before_end =
        slice_joined bytes span.name.start span.name.end span.value.end first (omega (arith, between, second))
        ∙ ap (λ (x : List ℕ). slice_range bytes span.name.start span.name.end ++ x)
        (slice_joined bytes span.name.end span.value.start span.value.end between second
        ∙ ap (λ (x : List ℕ). x ++ slice_range bytes span.value.start span.value.end) colon)
