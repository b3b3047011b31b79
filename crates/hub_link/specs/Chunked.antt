-- A reply whose body came in chunks (RFC 9112, sections 6.1, 6.3 and 7.1), and the same reply by its length.
use Rattle.std.specs.Prelude.{◌≡◌, ◌≤◌, ◌<◌, ◌==◌, ◌&&◌, nat_le, if◌then◌else◌, ℕ, Bool, true, false, List, [], ◌∷◌, ◌++◌, length, map}
use Rattle.std.specs.Prelude.{Option, Some, None, codes, take}
use Rattle.std.specs.List.{flat_map}
use Rattle.std.specs.Str.{str_eq_ignore_ascii_case}
use Rattle.httparse.specs.Grammar.{ResponseHead, IsResponseHead, print_response, ReadsResponse, status_code}
use Rattle.http_wire.specs.declared.decimal.Decimal.{Decimal}
use Rattle.http_wire.specs.declared.head.Header.{Header}
use Rattle.http_wire.specs.Due.{length_said}
use Rattle.http_wire.specs.Fields.{values_of}
use Rattle.http_wire.specs.Head.{header_of}
use Rattle.http_wire.specs.Wire.{header_limit}
use Rattle.chunk_parts.specs.declared.parts.At.{At}
use Rattle.chunk_parts.specs.declared.parts.At.TheVariants as at
use Rattle.chunk_parts.specs.Chunks.{Chunk, Chunked, print_chunked, IsChunked, HasNoChunked}
use Rattle.chunk_parts.specs.Parts.{IsNext, Stands}
use Rattle.hub_link.specs.declared.codings.Coding.{Coding}
use Rattle.hub_link.specs.declared.codings.Coding.TheVariants as coding
use Rattle.hub_link.specs.declared.coded.Coded.{Coded}
use Rattle.hub_link.specs.declared.coded.Coded.TheVariants.{Plain, Chunks, Refused}
use Rattle.hub_link.specs.Replies.{IsReply}

-- the coding is `chunked`, without regard to ASCII case
abbrev pub is_chunked : List ℕ → Bool
is_chunked value = str_eq_ignore_ascii_case value (codes "chunked")

-- what the values of the `Transfer-Encoding` headers say
abbrev pub coding_of : List (List ℕ) → Coding
coding_of [] = coding.Nothing
coding_of (value ∷ []) = if is_chunked value then coding.Chunked else coding.Other
coding_of (value ∷ other ∷ values) = coding.Other

abbrev pub coding_said : List Header → Coding
coding_said headers = coding_of (values_of (codes "transfer-encoding") headers)

-- a body in chunks may stand behind such a head: a status from 100 on, HTTP/1.1, and no length is said
abbrev pub may_have_chunks : ℕ → ℕ → Option Decimal → Bool
may_have_chunks status minor (Some said) = false
may_have_chunks status minor None = nat_le 100 status && minor == 1

-- what the chunks have, one after the other; extensions and trailers count for nothing
abbrev pub data_of : List Chunk → List ℕ
data_of chunks = flat_map (λ (c : Chunk). c.bytes) chunks

-- the bytes are one reply in chunks with this status and body
pub record IsInChunks (bytes : List ℕ) (status : ℕ) (body : List ℕ) : Type 0 where
  pub head : ResponseHead
  pub valid : IsResponseHead head
  pub headers : length head.fields ≤ header_limit
  pub code : status ≡ status_code head
  pub coded : coding_said (map header_of head.fields) ≡ coding.Chunked
  pub may : may_have_chunks (status_code head) head.minor (length_said (map header_of head.fields)) ≡ true
  pub chunks : Chunked
  pub whole : bytes ≡ print_response head ++ print_chunked chunks
  pub good : IsChunked chunks
  pub content : body ≡ data_of chunks.chunks

abbrev pub IsNotInChunks : List ℕ → Type 0
IsNotInChunks bytes = (status : ℕ) (body : List ℕ) → ¬ (IsInChunks bytes status body)

-- no head of at most 64 headers that says a coding stands in front
abbrev pub IsUncoded : List ℕ → Type 0
IsUncoded bytes =
    (h : ResponseHead) (rest : List ℕ) → ReadsResponse bytes h rest → length h.fields ≤ header_limit
    → coding_said (map header_of h.fields) ≡ coding.Nothing

-- what bytes are to who reads a reply by its length: as they stand, the same reply by its length, or refused
abbrev pub IsCoded : List ℕ → Coded → Type 0
IsCoded bytes Plain = IsUncoded bytes
IsCoded bytes (Chunks text) = (status : ℕ) × (body : List ℕ) × IsInChunks bytes status body × IsReply text status body
IsCoded bytes Refused = (¬ (IsUncoded bytes)) × IsNotInChunks bytes

-- the bytes are a chunked body with this data, or none
abbrev pub IsDataOf : List ℕ → Option (List ℕ) → Type 0
IsDataOf bytes (Some content) = (b : Chunked) × IsChunked b × (bytes ≡ print_chunked b) × (content ≡ data_of b.chunks)
IsDataOf bytes None = (b : Chunked) → IsChunked b → ¬ (bytes ≡ print_chunked b)

-- what of a part is data
abbrev pub data_part : At → List ℕ → List ℕ
data_part at.Line piece = []
data_part (at.Data n) piece = piece
data_part at.LineEnd piece = []
data_part at.Trailer piece = []
data_part at.Done piece = []

-- the part that stands next: its length and what comes behind it, or none, and so no body
abbrev pub IsStep : At → List ℕ → Option (ℕ × At) → Type 0
IsStep a rest (Some (n, next)) = (n ≤ length rest) × (0 < n) × IsNext a (take n rest) next
IsStep a rest None = (given : List ℕ) → Stands a given → HasNoChunked (given ++ rest)
