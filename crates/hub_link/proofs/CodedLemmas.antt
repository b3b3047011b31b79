-- From a head and what stands behind it to what the bytes are to who reads a reply by its length.
use Rattle.std.proofs.Common.{◌≡◌, ◌≤◌, ◌==◌, ◌&&◌, ◌++◌, nat_le, ℕ, Bool, true, false, List, length, take, drop, map, Option, Some, None, refl, sym, ap, ◌∙◌, subst, arith}
use Rattle.httparse.specs.declared.spans.HeaderSpan.{HeaderSpan}
use Rattle.httparse.specs.declared.spans.ResponseSpans.{ResponseSpans}
use Rattle.httparse.specs.Grammar.{ResponseHead, print_response, status_code}
use Rattle.httparse.specs.Spans.{IsResponseWithin, IsResponseOf, IsResponseAt}
use Rattle.httparse.proofs.GrammarLemmas.{response_unique}
use Rattle.http_wire.specs.declared.decimal.Decimal.{Decimal}
use Rattle.http_wire.specs.declared.head.Header.{Header}
use Rattle.http_wire.specs.Due.{length_said}
use Rattle.http_wire.specs.Head.{header_of, header_at}
use Rattle.chunk_parts.specs.Chunks.{print_chunked}
use Rattle.hub_link.specs.declared.codings.Coding.TheVariants as coding
use Rattle.hub_link.specs.declared.coded.Coded.TheVariants.{Chunks, Refused}
use Rattle.hub_link.specs.declared.replies.Front.TheVariants as front
use Rattle.hub_link.specs.Replies.{IsReply, IsFront}
use Rattle.hub_link.specs.Chunked.{coding_said, may_have_chunks, IsInChunks, IsNotInChunks, IsUncoded, IsCoded, IsDataOf}
use Rattle.hub_link.proofs.ChunkLemmas.{one_body}
use Rattle.hub_link.proofs.ReplyLemmas.{same_headers, reply_count}

abbrev pub headers_at : List ℕ → List HeaderSpan → ResponseSpans → List Header
headers_at bytes spans r = map (header_at bytes) (take r.headers spans)

both_first : (x y : Bool) → (x && y) ≡ true → x ≡ true
both_first true y is = refl
both_first false y is = is

-- where a body in chunks may stand, the status has three digits
pub from_hundred : (status minor : ℕ) (said : Option Decimal) → may_have_chunks status minor said ≡ true → 100 ≤ status
from_hundred status minor None is = let many : nat_le 100 status ≡ true = both_first (nat_le 100 status) (minor == 1) is in grind (arith, many)
from_hundred status minor (Some said) is = absurd (cc is)

pub uncoded_front : (bytes : List ℕ) (spans : List HeaderSpan) → IsFront bytes spans front.Other → IsUncoded bytes
uncoded_front bytes spans none h rest reads few = absurd (none h rest reads few)

nothing_chunked : coding.Nothing ≡ coding.Chunked → ⊥
nothing_chunked e = cc e

pub nothing_other : coding.Nothing ≡ coding.Other → ⊥
nothing_other e = cc e

other_chunked : coding.Other ≡ coding.Chunked → ⊥
other_chunked e = cc e

true_false : true ≡ false → ⊥
true_false e = cc e

module _ (bytes : List ℕ) (spans : List HeaderSpan) (r : ResponseSpans) where
  same_coding : (h : ResponseHead) → IsResponseAt bytes spans r h → coding_said (headers_at bytes spans r) ≡ coding_said (map header_of h.fields)
  same_coding h at = ap coding_said (same_headers bytes (take r.headers spans) h.fields at.fields)

  same_may : (h : ResponseHead) → IsResponseAt bytes spans r h
      → may_have_chunks r.code r.version (length_said (headers_at bytes spans r)) ≡ may_have_chunks (status_code h) h.minor (length_said (map header_of h.fields))
  same_may h at =
      ap (λ (s : ℕ). may_have_chunks s r.version (length_said (headers_at bytes spans r))) at.code
      ∙ (ap (λ (m : ℕ). may_have_chunks (status_code h) m (length_said (headers_at bytes spans r))) at.version
      ∙ ap (λ (hs : List Header). may_have_chunks (status_code h) h.minor (length_said hs)) (same_headers bytes (take r.headers spans) h.fields at.fields))

  few : (h : ResponseHead) → IsResponseWithin bytes spans r → length spans ≡ 64 → IsResponseAt bytes spans r h → length h.fields ≤ 64
  few h within room at = omega (arith, reply_count bytes spans r h within.section.count_fits at, within.section.count_fits, room)

  pub uncoded : IsResponseOf bytes spans r → coding_said (headers_at bytes spans r) ≡ coding.Nothing → IsUncoded bytes
  uncoded (h, at) none k rest reads fewer =
      let same = response_unique bytes h k (drop r.len bytes) rest at.reads reads in
      subst (λ (x : ResponseHead). coding_said (map header_of x.fields) ≡ coding.Nothing) same.0 (sym (same_coding h at) ∙ none)

  pub coded : IsResponseWithin bytes spans r → IsResponseOf bytes spans r → length spans ≡ 64
      → (coding_said (headers_at bytes spans r) ≡ coding.Nothing → ⊥) → IsUncoded bytes → ⊥
  coded within (h, at) room some plain = some (same_coding h at ∙ plain h (drop r.len bytes) at.reads (few h within room at))

  -- a head of another coding
  pub of_other : IsResponseOf bytes spans r → coding_said (headers_at bytes spans r) ≡ coding.Other → IsNotInChunks bytes
  of_other (h, at) other status body is =
      let same = response_unique bytes h is.head (drop r.len bytes) (print_chunked is.chunks) at.reads (is.valid, is.whole) in
      other_chunked (sym other ∙ (same_coding h at ∙ (ap (λ (x : ResponseHead). coding_said (map header_of x.fields)) same.0 ∙ is.coded)))

  -- a head behind which no body in chunks may stand
  pub may_not : IsResponseOf bytes spans r → may_have_chunks r.code r.version (length_said (headers_at bytes spans r)) ≡ false → IsNotInChunks bytes
  may_not (h, at) not status body is =
      let same = response_unique bytes h is.head (drop r.len bytes) (print_chunked is.chunks) at.reads (is.valid, is.whole) in
      true_false
      (sym is.may
      ∙ (ap (λ (x : ResponseHead). may_have_chunks (status_code x) x.minor (length_said (map header_of x.fields))) (sym same.0)
      ∙ (sym (same_may h at) ∙ not)))

  -- no whole body behind the head
  pub no_body : IsResponseOf bytes spans r → IsDataOf (drop r.len bytes) None → IsNotInChunks bytes
  no_body (h, at) none status body is =
      none is.chunks is.good (response_unique bytes h is.head (drop r.len bytes) (print_chunked is.chunks) at.reads (is.valid, is.whole)).1

  pub in_chunks : (content text : List ℕ) → IsResponseWithin bytes spans r → IsResponseOf bytes spans r → length spans ≡ 64
      → coding_said (headers_at bytes spans r) ≡ coding.Chunked → may_have_chunks r.code r.version (length_said (headers_at bytes spans r)) ≡ true
      → IsDataOf (drop r.len bytes) (Some content) → IsReply text r.code content → IsCoded bytes (Chunks text)
  in_chunks content text within (h, at) room said may (b, good, whole, is) reply = (
    r.code,
    content,
    record {
      head = h;
      valid = at.reads.0;
      headers = few h within room at;
      code = at.code;
      coded = sym (same_coding h at) ∙ said;
      may = sym (same_may h at) ∙ may;
      chunks = b;
      whole = at.reads.1 ∙ ap (λ (x : List ℕ). print_response h ++ x) whole;
      good = good;
      content = is;
    },
    reply,
  )

  pub refused_by : IsResponseWithin bytes spans r → IsResponseOf bytes spans r → length spans ≡ 64
      → coding_said (headers_at bytes spans r) ≡ coding.Chunked → IsNotInChunks bytes → IsCoded bytes Refused
  refused_by within head room said none = (coded within head room (λ is. nothing_chunked (sym is ∙ said)), none)

-- bytes are at most one reply in chunks
pub one_in_chunks : (bytes : List ℕ) (s t : ℕ) (a b : List ℕ) → IsInChunks bytes s a → IsInChunks bytes t b → (s ≡ t) × (a ≡ b)
one_in_chunks bytes s t a b one two =
    let same = response_unique bytes one.head two.head (print_chunked one.chunks) (print_chunked two.chunks) (one.valid, one.whole) (two.valid, two.whole) in (
      one.code ∙ (ap (λ (h : ResponseHead). status_code h) same.0 ∙ sym two.code),
      one.content ∙ (one_body one.chunks two.chunks one.good two.good same.1 ∙ sym two.content),
    )
