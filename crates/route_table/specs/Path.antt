-- Paths of routes, cut at slashes and decoded.
use Rattle.std.specs.Prelude.{◌≡◌, ◌≢◌, ◌≤◌, ◌<◌, length, slice_index, ℕ, ◌+◌, ◌==◌, Bool, false, ◌&&◌, ◌||◌, ◌++◌, true, List, [], ◌∷◌}
use Rattle.std.specs.Prelude.{map, if◌then◌else◌, Option, Some, None}
use Rattle.std.specs.Option.{option_map}
use Rattle.std.specs.List.{flat_map}
use Rattle.std.specs.Char.{is_ascii_alphanumeric}
use Rattle.std.specs.declared.cmp.Ordering.{Ordering}
use Rattle.std.specs.Ordering.{nat_cmp}
use Rattle.std.specs.Cmp.Lexicographic.{slice_cmp}
use Rattle.percent_encoding.specs.Percent.{percent_decode, percent_encode_byte}

-- the bytes before the first slash
abbrev pub first_part : List ℕ → List ℕ
first_part [] = []
first_part (b ∷ bytes) = if b == 47 then [] else b ∷ first_part bytes

-- the parts behind the first slash, cut at the others
abbrev pub later_parts : List ℕ → List (List ℕ)
later_parts [] = []
later_parts (b ∷ bytes) = if b == 47 then first_part bytes ∷ later_parts bytes else later_parts bytes

-- the parts of bytes that begin with a slash, each behind its slash
abbrev pub parts : List ℕ → List (List ℕ)
parts [] = []
parts (b ∷ bytes) = first_part bytes ∷ later_parts bytes

-- the bytes without one slash at their end
abbrev pub trimmed : List ℕ → List ℕ
trimmed [] = []
trimmed (b ∷ []) = if b == 47 then [] else b ∷ []
trimmed (b ∷ c ∷ bytes) = b ∷ trimmed (c ∷ bytes)

-- the parts, each decoded
abbrev pub decoded_parts : List ℕ → List (List ℕ)
decoded_parts path = map percent_decode (parts path)

-- a path's segments: cut at slashes, one empty last one dropped, each decoded
abbrev pub segments : List ℕ → List (List ℕ)
segments path = decoded_parts (trimmed path)

-- the order of segments
abbrev pub segments_cmp : List (List ℕ) → List (List ℕ) → Ordering
segments_cmp = slice_cmp (slice_cmp nat_cmp)

-- a slash ranks before every byte of a segment
abbrev pub rank : ℕ → ℕ
rank b = if b == 47 then 0 else b + 1

abbrev pub begins_with : ℕ → List ℕ → Bool
begins_with x [] = false
begins_with x (b ∷ bytes) = b == x

-- an escape that decodes to a slash stands in front
abbrev pub begins_slash_escape : List ℕ → Bool
begins_slash_escape bytes = begins_with 37 bytes && begins_with 47 (percent_decode bytes)

-- the place of the first escape that decodes to a slash
abbrev pub slash_escape : List ℕ → Option ℕ
slash_escape [] = None
slash_escape (b ∷ bytes) = if begins_slash_escape (b ∷ bytes) then Some 0 else option_map (λ n. n + 1) (slash_escape bytes)

-- where a path breaks the rules: at its front, or at an escape that decodes to a slash
abbrev pub bad_place : List ℕ → Option ℕ
bad_place path = if begins_with 47 path then slash_escape path else Some 0

-- empty, or of segments that each stand behind a slash
abbrev pub IsKey : List ℕ → Type 0
IsKey [] = Unit {0}
IsKey (b ∷ bytes) = b ≡ 47

-- no slash stands from the place on
abbrev pub HasNoSlashFrom : List ℕ → ℕ → Type 0
HasNoSlashFrom path at = (k : ℕ) → at ≤ k → k < length path → slice_index path k ≢ 47

-- the parts without one empty part at their end
abbrev pub without_empty_last : List (List ℕ) → List (List ℕ)
without_empty_last [] = []
without_empty_last ([] ∷ []) = []
without_empty_last ((b ∷ s) ∷ []) = (b ∷ s) ∷ []
without_empty_last (s ∷ t ∷ rest) = s ∷ without_empty_last (t ∷ rest)

-- the bytes that a listed path has as they are, beside slashes: letters, digits and - . _ ~ @
abbrev pub is_plain : ℕ → Bool
is_plain b = is_ascii_alphanumeric b || b == 45 || b == 46 || b == 95 || b == 126 || b == 64

-- a byte of a segment, as it is listed
abbrev pub written_byte : ℕ → List ℕ
written_byte b = if is_plain b then b ∷ [] else percent_encode_byte b

abbrev pub written : List ℕ → List ℕ
written segment = flat_map written_byte segment

-- the segments, each written behind a slash
abbrev pub behind_slashes : List (List ℕ) → List ℕ
behind_slashes [] = []
behind_slashes (s ∷ rest) = 47 ∷ (written s ++ behind_slashes rest)

-- there is no segment, or the last is empty
abbrev pub ends_empty : List (List ℕ) → Bool
ends_empty [] = true
ends_empty ([] ∷ []) = true
ends_empty ((b ∷ s) ∷ []) = false
ends_empty (s ∷ t ∷ rest) = ends_empty (t ∷ rest)

-- the path of these segments as it is listed, which reads as them again: one slash more where it would end in a slash, or in none
abbrev pub listed_path : List (List ℕ) → List ℕ
listed_path segments = behind_slashes segments ++ (if ends_empty segments then 47 ∷ [] else [])
