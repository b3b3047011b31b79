-- From what the parser answers to a head.
use Rattle.std.proofs.Common.{◌≡◌, ℕ, Bool, false, ◌<◌, ◌≤◌, List, [], ◌∷◌, length, take, drop, map, sym, ap, ◌∙◌, arith, length-append, refl}
use Rattle.std.proofs.lemmas.List.{length-map, length-take-le, take_at}
use Rattle.httparse.specs.declared.spans.HeaderSpan.{HeaderSpan}
use Rattle.httparse.specs.declared.spans.ResponseSpans.{ResponseSpans}
use Rattle.httparse.specs.Grammar.{Field, ResponseHead, print_response, ReadsResponse, status_code}
use Rattle.httparse.specs.Spans.{IsResponseWithin, IsResponseAt, header_bytes, name_and_value, span_bytes}
use Rattle.httparse.proofs.GrammarLemmas.{response_prefix_free}
use Rattle.http_wire.specs.declared.head.Header.{Header}
use Rattle.http_wire.specs.Head.{header_of, header_at}
use Rattle.proxy_wire.specs.Framing.{framing, headers_framing}
use Rattle.proxy_wire.specs.Heads.{reply_text, reply_passed}
use Rattle.proxy_wire.specs.Replies.{IsHeadOf, NoHead}

pub some_head : (h : ResponseHead) → 0 < length (print_response h)
unfolding print_response
some_head h = simp length-append (omega arith)

pub reply_count : (bytes : List ℕ) (spans : List HeaderSpan) (r : ResponseSpans) (h : ResponseHead) → r.headers ≤ length spans
    → IsResponseAt bytes spans r h → r.headers ≡ length h.fields
reply_count bytes spans r h fits at =
    sym (length-take-le r.headers spans fits)
    ∙ (sym (length-map (take r.headers spans) (header_bytes bytes))
    ∙ (ap length at.fields ∙ length-map h.fields name_and_value))

pub head_at : (bytes : List ℕ) (spans : List HeaderSpan) (r : ResponseSpans) (h : ResponseHead) → IsResponseWithin bytes spans r → length spans ≡ 64
    → IsResponseAt bytes spans r h → IsHeadOf bytes h r.len
head_at bytes spans r h within room at = record {
  head = at.reads.0;
  headers = omega (arith, reply_count bytes spans r h within.section.count_fits at, within.section.count_fits, room);
  front = ap (take r.len) at.reads.1 ∙ take_at (print_response h) (drop r.len bytes) r.len (sym at.len);
  size = at.len;
  fits = within.section.len_fits;
  some = omega (arith, at.len, some_head h);
}

pub switched : (upgrade : Bool) (bytes : List ℕ) (h : ResponseHead) (rest : List ℕ) → ReadsResponse bytes h rest → status_code h ≡ 101 → upgrade ≡ false → NoHead upgrade bytes
switched upgrade bytes h rest reads is off more k after there few =
    (sym (ap status_code (response_prefix_free bytes more h k rest after reads there).0) ∙ is, off)

abbrev as_header : List ℕ × List ℕ → Header
as_header (name, value) = record { name = name; value = value }

header_map : {X : Type 0} (f : X → List ℕ × List ℕ) (g : X → Header) → ((x : X) → g x ≡ as_header (f x)) → (xs : List X) → map g xs ≡ map as_header (map f xs)
header_map f g same [] = refl
header_map f g same (x ∷ xs) = ap (λ h. h ∷ map g xs) (same x) ∙ ap (λ hs. as_header (f x) ∷ hs) (header_map f g same xs)

-- the headers that the spans cover are those of the head
pub same_headers : (bytes : List ℕ) (spans : List HeaderSpan) (fields : List Field) → map (header_bytes bytes) spans ≡ map name_and_value fields
    → map (header_at bytes) spans ≡ map header_of fields
same_headers bytes spans fields same =
    header_map (header_bytes bytes) (header_at bytes) (λ x. refl) spans
    ∙ (ap (map as_header) same ∙ sym (header_map name_and_value header_of (λ x. refl) fields))

pub framed_as : (method bytes : List ℕ) (spans : List HeaderSpan) (r : ResponseSpans) (h : ResponseHead) → IsResponseAt bytes spans r h
    → headers_framing method r.code (map (header_at bytes) (take r.headers spans)) ≡ framing method h
framed_as method bytes spans r h at =
    ap (λ (n : ℕ). headers_framing method n (map (header_at bytes) (take r.headers spans))) at.code
    ∙ ap (headers_framing method (status_code h)) (same_headers bytes (take r.headers spans) h.fields at.fields)

pub passed_as : (bytes : List ℕ) (spans : List HeaderSpan) (r : ResponseSpans) (h : ResponseHead) → IsResponseAt bytes spans r h
    → reply_text r.version r.code (span_bytes bytes r.reason) (map (header_at bytes) (take r.headers spans)) ≡ reply_passed h
passed_as bytes spans r h at =
    rw (at.version, at.code, at.reason, same_headers bytes (take r.headers spans) h.fields at.fields) refl
