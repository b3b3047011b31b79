-- The parts of a path.
use Rattle.std.specs.Prelude.{ℕ, zero, suc, ◌==◌, nat_eq, List, [], ◌∷◌, Option, Some, None, option_and_then, if◌then◌else◌}
use Rattle.std.specs.List.{before_first, after_first, starts_with}
use Rattle.std.specs.Str.{is_utf8}
use Rattle.percent_encoding.specs.Percent.{percent_decode}

-- what stands before the first slash of a text, and what stands after it
abbrev pub before_slash : List ℕ → List ℕ
before_slash text = before_first (λ b. b == 47) text

abbrev pub after_slash : List ℕ → List ℕ
after_slash text = after_first (λ b. b == 47) text

-- the part of a path after n slashes and before the next; a path with fewer slashes has nothing there
unfoldable pub segment : ℕ → List ℕ → List ℕ
segment zero path = before_slash path
segment (suc n) path = segment n (after_slash path)

-- the number of the segment of a text in which a name first stands: the slashes before it are counted
abbrev pub segment_number : (name text : List ℕ) → ℕ
segment_number name [] = 0
segment_number name (b ∷ text) =
    if starts_with nat_eq (b ∷ text) name then 0 else (if b == 47 then suc (segment_number name text) else segment_number name text)

-- bytes that are text
abbrev pub as_text : List ℕ → Option (List ℕ)
as_text bytes = if is_utf8 bytes then Some bytes else None

-- the text of a segment, percent-decoded, where it is UTF-8
abbrev pub segment_text : ℕ → List ℕ → Option (List ℕ)
segment_text n path = as_text (percent_decode (segment n path))

-- what a segment is, by a reader of texts
unfoldable pub read_in_path : {N : Type 0} → (List ℕ → Option N) → ℕ → List ℕ → Option N
read_in_path reads n path = option_and_then reads (segment_text n path)
