-- From what the parser answers to a head of the stream.
use Rattle.std.proofs.Common.{◌≡◌, ℕ, ◌<◌, ◌≤◌, true, List, [], ◌∷◌, length, map, take, get_or, sym, ap, ◌∙◌, subst, arith, IsUtf8, refl}
use Rattle.std.proofs.lemmas.List.{length-map, length-take-le, get_or-map}
use Rattle.std.proofs.lemmas.List.Elements.{All-weaker, All-map}
use Rattle.std.specs.List.{All}
use Rattle.std.proofs.lemmas.Bool.Decides.{nat_tests}
use Rattle.std.proofs.lemmas.Str.{IsUtf8-from_ascii}
use Rattle.std.proofs.lemmas.Str.Ascii.{IsAscii-from_all}
use Rattle.httparse.specs.declared.spans.HeaderSpan.{HeaderSpan}
use Rattle.httparse.specs.declared.spans.RequestSpans.{RequestSpans}
use Rattle.httparse.specs.Grammar.{is_token_byte, IsToken, Field, IsField, RequestHead}
use Rattle.httparse.specs.Spans.{IsRequestWithin, IsRequestAt, IsRequestOf, header_bytes, name_and_value, span_bytes}
use Rattle.http_wire.specs.declared.head.Header.{Header}
use Rattle.http_wire.specs.Head.{header_of, head_of, header_at, head_at}
use Rattle.http_wire.specs.Wire.{HasPath, IsServedHead}

-- ---- a token is text

token_is_ascii : (b : ℕ) → is_token_byte b ≡ true → b < 128
unfolding is_token_byte
token_is_ascii b token = grind (arith, nat_tests)

pub token_text : (bytes : List ℕ) → IsToken bytes → IsUtf8 bytes
token_text bytes token =
    IsUtf8-from_ascii _ (IsAscii-from_all _
    (All-weaker (λ b. is_token_byte b ≡ true) (λ b. b < 128) token_is_ascii _ token.1))

pub method_text : (bytes : List ℕ) (spans : List HeaderSpan) (r : RequestSpans) → IsRequestOf bytes spans r → IsUtf8 (span_bytes bytes r.method)
method_text bytes spans r (h, at) = subst IsUtf8 (sym at.method) (token_text h.method at.reads.0.method)

All-unmap : {X Y : Type 0} (P : Y → Type 0) (f : X → Y) (xs : List X) → All P (map f xs) → All (λ x. P (f x)) xs
All-unmap P f xs all = λ k d below.
    let inside : k < length (map f xs) = omega (arith, below, length-map xs f) in
    subst P (get_or-map f xs k d (f d) below) (all k (f d) inside)

pub names_text : (bytes : List ℕ) (spans : List HeaderSpan) (r : RequestSpans) → IsRequestOf bytes spans r
    → All (λ span. IsUtf8 (span_bytes bytes span.name)) (take r.headers spans)
names_text bytes spans r (h, at) =
    All-unmap (λ (part : List ℕ × List ℕ). IsUtf8 part.0) (header_bytes bytes) (take r.headers spans)
    (subst (All (λ (part : List ℕ × List ℕ). IsUtf8 part.0)) (sym at.fields)
    (All-map (λ (part : List ℕ × List ℕ). IsUtf8 part.0) name_and_value h.fields
    (All-weaker IsField (λ f. IsUtf8 f.name) (λ f is. token_text f.name is.name) h.fields at.reads.0.fields)))

-- ---- the parts are those of a head of the grammar

abbrev as_header : List ℕ × List ℕ → Header
as_header (name, value) = record { name = name; value = value }

header_map : {X : Type 0} (f : X → List ℕ × List ℕ) (g : X → Header) → ((x : X) → g x ≡ as_header (f x)) → (xs : List X) → map g xs ≡ map as_header (map f xs)
header_map f g same [] = refl
header_map f g same (x ∷ xs) = ap (λ h. h ∷ map g xs) (same x) ∙ ap (λ hs. as_header (f x) ∷ hs) (header_map f g same xs)

same_headers : (bytes : List ℕ) (spans : List HeaderSpan) (fields : List Field) → map (header_bytes bytes) spans ≡ map name_and_value fields
    → map (header_at bytes) spans ≡ map header_of fields
same_headers bytes spans fields same =
    header_map (header_bytes bytes) (header_at bytes) (λ x. refl) spans
    ∙ (ap (map as_header) same ∙ sym (header_map name_and_value header_of (λ x. refl) fields))

pub head_at_is : (bytes : List ℕ) (spans : List HeaderSpan) (r : RequestSpans) (h : RequestHead) → IsRequestAt bytes spans r h
    → head_at bytes spans r ≡ head_of h
head_at_is bytes spans r h at =
    let headers = same_headers bytes (take r.headers spans) h.fields at.fields in
    let method = at.method in
    let target = at.path in
    let version = at.version in cc

-- ---- the limits and the path

pub begins_path : (target : List ℕ) → 0 < length target → get_or target 0 0 ≡ 47 → HasPath target
begins_path [] some is = absurd (omega (arith, some))
begins_path (b ∷ target) some is = is

pub target_path : (bytes : List ℕ) (spans : List HeaderSpan) (r : RequestSpans) (h : RequestHead) → IsRequestAt bytes spans r h
    → get_or (span_bytes bytes r.path) 0 0 ≡ 47 → HasPath h.target
target_path bytes spans r h at is =
    begins_path h.target at.reads.0.target.0 (ap (λ t. get_or t 0 0) (sym at.path) ∙ is)

-- the parser counts the fields
pub field_count : (bytes : List ℕ) (spans : List HeaderSpan) (r : RequestSpans) (h : RequestHead) → r.headers ≤ length spans
    → IsRequestAt bytes spans r h → r.headers ≡ length h.fields
field_count bytes spans r h fits at =
    sym (length-take-le r.headers spans fits)
    ∙ (sym (length-map (take r.headers spans) (header_bytes bytes))
    ∙ (ap length at.fields ∙ length-map h.fields name_and_value))

pub head_is_served : (bytes : List ℕ) (spans : List HeaderSpan) (r : RequestSpans) (h : RequestHead)
    → IsRequestWithin bytes spans r → IsRequestAt bytes spans r h → length bytes ≤ 16384
    → get_or (span_bytes bytes r.path) 0 0 ≡ 47 → r.headers ≤ 64 → IsServedHead h
head_is_served bytes spans r h within at short slash few = record {
  valid = at.reads.0;
  path = target_path bytes spans r h at slash;
  size = omega (arith, at.len, within.section.len_fits, short);
  headers = omega (arith, field_count bytes spans r h within.section.count_fits at, few);
}
