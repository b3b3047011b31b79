-- What breaks a chunked body is none, whatever follows.
use Rattle.std.proofs.Common.{◌≡◌, ◌<◌, ◌≤◌, ◌⊎◌, ℕ, List, [], ◌∷◌, ◌++◌, length, take, drop, refl, sym, ap, ◌∙◌, subst, inl, inr, append_assoc, arith}
use Rattle.std.specs.List.{flat_map}
use Rattle.std.proofs.lemmas.List.{take-append-drop, take-append-le, take_at}
use Rattle.httparse.specs.Grammar.{ChunkLine, chunk_size, print_chunk_line, HasNoChunkLine, print_section, HasNoSection}
use Rattle.chunk_parts.specs.Chunks.{IsSizeLine, print_chunk, Trailer, IsTrailer, HasNoChunked, NoLineEnd, NoLine, NoTrailer, BreaksChunks}
use Rattle.chunk_parts.proofs.WholeLemmas.{Leads, chunk, last, leads, same_front, same_line, not_last, line_none, trailer_none}

-- bytes that begin with a part which fits in them have it
front_of : (bytes more part rest : List ℕ) → bytes ++ more ≡ part ++ rest → length part ≤ length bytes → bytes ≡ part ++ drop (length part) bytes
front_of bytes more part rest is le =
    sym (take-append-drop (length part) bytes)
    ∙ ap (λ (x : List ℕ). x ++ drop (length part) bytes)
    (sym (take-append-le (length part) bytes more le) ∙ (ap (take (length part)) is ∙ take_at part rest (length part) refl))

full_line : (t : Trailer) (rest more more' : List ℕ) → IsTrailer t → Leads t (rest ++ more) more' → 16384 ≤ length rest → HasNoChunkLine rest → ⊥
full_line t rest more more' is (chunk d x isd whole) full none =
    none d.line _ (isd.line.valid, front_of rest more (print_chunk_line d.line) _ whole (omega (arith, full, isd.line.short)))
full_line t rest more more' is (last whole) full none =
    none t.line _ (is.line.valid, front_of rest more (print_chunk_line t.line) _ whole (omega (arith, full, is.line.short)))

ends_line : (after more x : List ℕ) → NoLineEnd after → after ++ more ≡ 13 ∷ 10 ∷ x → ⊥
ends_line [] more x not is = absurd not
ends_line (a ∷ []) more x not is = not (first a (more) (10 ∷ x) is)
  where
    first : (a : ℕ) (r s : List ℕ) → a ∷ r ≡ 13 ∷ s → a ≡ 13
    first a r s e = cc
ends_line (a ∷ b ∷ after) more x not is = not (both a b (after ++ more) x is)
  where
    both : (a b : ℕ) (r s : List ℕ) → a ∷ b ∷ r ≡ 13 ∷ 10 ∷ s → (a ≡ 13) × (b ≡ 10)
    both a b r s e = (cc, cc)

data_none : (t : Trailer) (line : ChunkLine) (bytes after more more' : List ℕ) → IsTrailer t → IsSizeLine line → Leads t (print_chunk_line line ++ ((bytes ++ after) ++ more)) more'
    → 0 < chunk_size line → length bytes ≡ chunk_size line → NoLineEnd after → ⊥
data_none t line bytes after more more' is isl (chunk d x isd whole) pos size not =
    let same = same_line line d.line ((bytes ++ after) ++ more) (d.bytes ++ (13 ∷ 10 ∷ [] ++ x)) isl isd.line whole in
    let split = same_front bytes d.bytes (after ++ more) (13 ∷ 10 ∷ [] ++ x) (omega (arith, size, isd.size, ap chunk_size same.0)) (sym (append_assoc bytes after more) ∙ same.1) in
    ends_line after more x not split.1
data_none t line bytes after more more' is isl (last whole) pos size not =
    not_last line t.line ((bytes ++ after) ++ more) (print_section t.fields t.last ++ more') isl is.line whole pos is.zero

full_trailer : (t : Trailer) (line : ChunkLine) (behind more more' : List ℕ) → IsTrailer t → IsSizeLine line → Leads t (print_chunk_line line ++ (behind ++ more)) more'
    → chunk_size line ≡ 0 → 16384 ≤ length behind → HasNoSection behind → ⊥
full_trailer t line behind more more' is isl (chunk d x isd whole) zero full none =
    not_last d.line line (d.bytes ++ (13 ∷ 10 ∷ [] ++ x)) (behind ++ more) isd.line isl (sym whole) (omega (arith, isd.size, isd.some)) zero
full_trailer t line behind more more' is isl (last whole) zero full none =
    none t.fields t.last _ (
      is.fields,
      front_of behind more (print_section t.fields t.last) _
          (same_line line t.line (behind ++ more) (print_section t.fields t.last ++ more') isl is.line whole).1 (omega (arith, full, is.size)),
    )

abbrev Breaks : List ℕ → Type 0
Breaks rest =
    NoLine rest
    ⊎ ((line : ChunkLine) × (behind : List ℕ) × IsSizeLine line × (rest ≡ print_chunk_line line ++ behind)
    × (((bytes after : List ℕ) × (0 < chunk_size line) × (length bytes ≡ chunk_size line) × (behind ≡ bytes ++ after) × NoLineEnd after) ⊎ ((chunk_size line ≡ 0) × NoTrailer behind)))

lead_as : (t : Trailer) (x y more : List ℕ) → x ≡ y → Leads t x more → Leads t y more
lead_as t x y more is l = subst (λ (r : List ℕ). Leads t r more) is l

none_behind : (t : Trailer) (rest more more' : List ℕ) → IsTrailer t → Breaks rest → Leads t (rest ++ more) more' → ⊥
none_behind t rest more more' is (inl (inl never)) l = line_none t (rest ++ more) more' is l (never more)
none_behind t rest more more' is (inl (inr (full, none))) l = full_line t rest more more' is l full none
none_behind t rest more more' is (inr (line, behind, isl, split, inl (bytes, after, pos, size, cut, not))) l =
    data_none t line bytes after more more' is isl
    (lead_as t (rest ++ more) (print_chunk_line line ++ ((bytes ++ after) ++ more)) more'
    (ap (λ (x : List ℕ). x ++ more) (split ∙ ap (λ (x : List ℕ). print_chunk_line line ++ x) cut) ∙ append_assoc (print_chunk_line line) (bytes ++ after) more) l) pos size not
none_behind t rest more more' is (inr (line, behind, isl, split, inr (zero, inl never))) l =
    trailer_none t line (behind ++ more) more' is isl
    (lead_as t (rest ++ more) (print_chunk_line line ++ (behind ++ more)) more' (ap (λ (x : List ℕ). x ++ more) split ∙ append_assoc (print_chunk_line line) behind more) l) zero (never more)
none_behind t rest more more' is (inr (line, behind, isl, split, inr (zero, inr (full, none)))) l =
    full_trailer t line behind more more' is isl
    (lead_as t (rest ++ more) (print_chunk_line line ++ (behind ++ more)) more' (ap (λ (x : List ℕ). x ++ more) split ∙ append_assoc (print_chunk_line line) behind more) l) zero full none

pub breaks_none : (bytes more : List ℕ) → BreaksChunks bytes → HasNoChunked (bytes ++ more)
breaks_none bytes more (front, rest, each, split, why) b more' is whole =
    none_behind b.trailer rest more more' is.trailer why
    (leads front (flat_map print_chunk front) (rest ++ more) b more' each is refl
    (sym (append_assoc (flat_map print_chunk front) rest more) ∙ (ap (λ (x : List ℕ). x ++ more) (sym split) ∙ whole)))
