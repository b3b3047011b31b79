-- What the parsers answer about a part.
use Rattle.std.proofs.Common.{◌≡◌, ℕ, ◌+◌, ◌*◌, ◌<◌, ◌≤◌, List, [], ◌∷◌, ◌++◌, length, take, drop, get_or, sym, ap, ◌∙◌, arith, length-append}
use Rattle.std.specs.List.{flat_map}
use Rattle.std.proofs.lemmas.List.{take_at}
use Rattle.std.proofs.lemmas.List.Elements.{All-head, All-tail}
use Rattle.httparse.specs.Grammar.{LineEnd, crlf, lf, print_end, Field, print_field, IsField, ChunkLine, print_chunk_line}
use Rattle.httparse.specs.Spans.{SectionExceeds, IsChunkLineAt}

-- a size line has a byte
pub some_line : (l : ChunkLine) → 0 < length l.digits → 0 < length (print_chunk_line l)
unfolding print_chunk_line
some_line l some = simp length-append (omega (arith, some))

pub line_fits : (bytes : List ℕ) (n size : ℕ) (l : ChunkLine) → IsChunkLineAt bytes n size l → n ≤ length bytes
line_fits bytes n size l is = omega (arith, ap length is.reads.1, length-append (print_chunk_line l) (drop n bytes), is.len_is)

pub line_taken : (bytes : List ℕ) (n size : ℕ) (l : ChunkLine) → IsChunkLineAt bytes n size l → take n bytes ≡ print_chunk_line l
line_taken bytes n size l is = ap (take n) is.reads.1 ∙ take_at (print_chunk_line l) (drop n bytes) n (sym is.len_is)

end_counts : (end : LineEnd) → 1 ≤ length (print_end end)
end_counts crlf = omega arith
end_counts lf = omega arith

field_counts : (f : Field) → IsField f → 3 ≤ length (print_field f)
field_counts f is = simp length-append (omega (arith, end_counts f.end, is.name.0))

fields_count : (fields : List Field) → ((k : ℕ) (d : Field) → k < length fields → IsField (get_or fields k d)) → 3 * length fields ≤ length (flat_map print_field fields)
fields_count [] all = omega arith
fields_count (f ∷ fields) all =
    let one : 3 ≤ length (print_field f) = field_counts f (All-head IsField f fields all) in
    let more : 3 * length fields ≤ length (flat_map print_field fields) = fields_count fields (All-tail IsField f fields all) in
    let split : length (print_field f ++ flat_map print_field fields) ≡ length (print_field f) + length (flat_map print_field fields) =
    length-append (print_field f) (flat_map print_field fields) in
    omega arith

-- room for a third of the bytes is room for each header of a trailer
pub no_room_needed : (bytes : List ℕ) (room : ℕ) → length bytes < 3 * room → SectionExceeds room bytes → ⊥
no_room_needed bytes room enough (front, rest, is, fields, reads, over) =
    let counted : 3 * length fields ≤ length (flat_map print_field fields) = fields_count fields reads.0 in
    let split : length front + 1 ≡ length (flat_map print_field fields) + 1 =
    omega (
      arith,
      ap length reads.1,
      length-append front (print_end lf),
      length-append (flat_map print_field fields ++ print_end lf) [],
      length-append (flat_map print_field fields) (print_end lf),
    ) in
    omega (arith, split, counted, ap length is, length-append front rest, over, enough)
