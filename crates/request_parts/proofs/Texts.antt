-- Bytes that are text, and others.
use Rattle.std.proofs.Common.{◌≡◌, ℕ, List, Bool, Option, Some, None, option_and_then, if◌then◌else◌, IsUtf8, ap, sym, ◌∙◌, inl, inr}
use Rattle.std.specs.Str.{is_utf8}
use Rattle.std.proofs.lemmas.Str.{IsUtf8-from_is_utf8, is_utf8-from_IsUtf8}
use Rattle.std.proofs.lemmas.Bool.{cases_Bool}
use Rattle.percent_encoding.specs.Percent.{percent_decode}
use Rattle.request_parts.specs.Bodies.{object_of, object_in}
use Rattle.request_parts.specs.Paths.{segment, as_text, read_in_path}

pub object_of_text : (bytes : List ℕ) → IsUtf8 bytes → object_of bytes ≡ object_in bytes
object_of_text bytes is = ap (λ (t : Bool). if t then object_in bytes else None) (is_utf8-from_IsUtf8 bytes is)

pub object_of_other : (bytes : List ℕ) → (IsUtf8 bytes → ⊥) → object_of bytes ≡ None
object_of_other bytes not_text =
    elim (cases_Bool (is_utf8 bytes)) [
      | inl is ↦ absurd (not_text (IsUtf8-from_is_utf8 bytes is))
      | inr test ↦ ap (λ (t : Bool). if t then object_in bytes else None) test
    ]

pub segment_is_text : {N : Type 0} (reads : List ℕ → Option N) (n : ℕ) (path bytes : List ℕ)
    → bytes ≡ percent_decode (segment n path) → IsUtf8 bytes → reads bytes ≡ read_in_path reads n path
unfolding read_in_path
segment_is_text reads n path bytes decoded is =
    ap (λ (t : Bool). option_and_then reads (if t then Some bytes else None)) (sym (is_utf8-from_IsUtf8 bytes is))
    ∙ ap (λ (b : List ℕ). option_and_then reads (as_text b)) decoded

pub segment_is_none : {N : Type 0} (reads : List ℕ → Option N) (n : ℕ) (path bytes : List ℕ)
    → bytes ≡ percent_decode (segment n path) → (IsUtf8 bytes → ⊥) → None ≡ read_in_path reads n path
unfolding read_in_path
segment_is_none reads n path bytes decoded not_text =
    elim (cases_Bool (is_utf8 bytes)) [
      | inl is ↦ absurd (not_text (IsUtf8-from_is_utf8 bytes is))
      | inr test ↦
          ap (λ (t : Bool). option_and_then reads (if t then Some bytes else None)) (sym test)
          ∙ ap (λ (b : List ℕ). option_and_then reads (as_text b)) decoded
    ]
