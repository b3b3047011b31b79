-- From what the parser answers to one reply.
use Rattle.std.proofs.Common.{◌≡◌, ℕ, ◌+◌, ◌<◌, ◌≤◌, Bool, true, false, subst, List, [], ◌∷◌, ◌++◌, length, take, drop, get_or, map, refl, sym, ap, ◌∙◌, arith, Option, Some, None}
use Rattle.std.specs.List.{filter}
use Rattle.std.specs.Bool.{IsTrue}
use Rattle.std.proofs.lemmas.List.{take_more, map-append, append-nil, length-map, length-take-le}
use Rattle.std.proofs.lemmas.List.Elements.{filter-append}
use Rattle.httparse.specs.declared.spans.HeaderSpan.{HeaderSpan}
use Rattle.httparse.specs.declared.spans.ResponseSpans.{ResponseSpans}
use Rattle.httparse.specs.Grammar.{Field, ResponseHead, status_code}
use Rattle.httparse.specs.Spans.{IsResponseWithin, IsResponseOf, IsResponseAt, header_bytes, name_and_value}
use Rattle.httparse.proofs.GrammarLemmas.{response_unique}
use Rattle.http_wire.specs.declared.decimal.Decimal.{Decimal}
use Rattle.http_wire.specs.declared.decimal.Decimal.TheVariants.{Number, Other}
use Rattle.http_wire.specs.declared.head.Header.{Header}
use Rattle.http_wire.specs.Decimal.{number_in}
use Rattle.http_wire.specs.Due.{number_said, length_said}
use Rattle.http_wire.specs.Fields.{is_named, values_of}
use Rattle.http_wire.specs.Head.{header_of, header_at}
use Rattle.hub_link.specs.Replies.{IsReply, IsNoReply, IsLength, HasCome}

abbrev pub header : List ℕ → List ℕ → Header
header name value = record { name = name; value = value }

-- ---- the headers of a name

values_append : (name : List ℕ) (xs ys : List Header) → values_of name (xs ++ ys) ≡ values_of name xs ++ values_of name ys
values_append name xs ys =
    ap (map (λ (h : Header). h.value)) (filter-append (is_named name) xs ys) ∙ map-append _ (filter (is_named name) xs) (filter (is_named name) ys)

value_named : (name : List ℕ) (h : Header) → is_named name h ≡ true → values_of name (h ∷ []) ≡ h.value ∷ []
value_named name h named = rw named refl

value_other : (name : List ℕ) (h : Header) → is_named name h ≡ false → values_of name (h ∷ []) ≡ []
value_other name h other = rw other refl

pub more_named : (name : List ℕ) (xs : List Header) (h : Header) → is_named name h ≡ true → values_of name (xs ++ h ∷ []) ≡ values_of name xs ++ h.value ∷ []
more_named name xs h named = values_append name xs (h ∷ []) ∙ ap (λ vs. values_of name xs ++ vs) (value_named name h named)

pub more_other : (name : List ℕ) (xs : List Header) (h : Header) → is_named name h ≡ false → values_of name (xs ++ h ∷ []) ≡ values_of name xs
more_other name xs h other = values_append name xs (h ∷ []) ∙ (ap (λ vs. values_of name xs ++ vs) (value_other name h other) ∙ append-nil (values_of name xs))

-- ---- the number that values say

pub said_none : (values : List (List ℕ)) (value : List ℕ) → None ≡ number_said values → Some (number_in value) ≡ number_said (values ++ value ∷ [])
said_none [] value none = refl
said_none (a ∷ []) value none = absurd (cc none)
said_none (a ∷ b ∷ more) value none = absurd (cc none)

pub said_some : (values : List (List ℕ)) (value : List ℕ) (d : Decimal) → Some d ≡ number_said values → Some Other ≡ number_said (values ++ value ∷ [])
said_some [] value d some = absurd (cc some)
said_some (a ∷ []) value d some = refl
said_some (a ∷ b ∷ more) value d some = refl

-- one header more of those that the spans cover
pub headers_more : (bytes : List ℕ) (spans : List HeaderSpan) (i : ℕ) (d : HeaderSpan) → i < length spans
    → map (header_at bytes) (take (i + 1) spans) ≡ map (header_at bytes) (take i spans) ++ header_at bytes (get_or spans i d) ∷ []
headers_more bytes spans i d inside =
    ap (map (header_at bytes)) (take_more spans i d inside) ∙ map-append (header_at bytes) (take i spans) (get_or spans i d ∷ [])

-- a header of equal parts
pub same_header : {a a' b b' : List ℕ} → a ≡ a' → b ≡ b' → header a b ≡ header a' b'
same_header one two = let h = one in let k = two in cc

-- ---- the head

abbrev as_header : List ℕ × List ℕ → Header
as_header (name, value) = record { name = name; value = value }

header_map : {X : Type 0} (f : X → List ℕ × List ℕ) (g : X → Header) → ((x : X) → g x ≡ as_header (f x)) → (xs : List X) → map g xs ≡ map as_header (map f xs)
header_map f g same [] = refl
header_map f g same (x ∷ xs) = ap (λ h. h ∷ map g xs) (same x) ∙ ap (λ hs. as_header (f x) ∷ hs) (header_map f g same xs)

-- the headers that the spans cover are those of the head
pub same_headers : (bytes : List ℕ) (spans : List HeaderSpan) (fields : List Field) → map (header_bytes bytes) spans ≡ map name_and_value fields
    → map (header_at bytes) spans ≡ map header_of fields
same_headers bytes spans fields same =
    header_map (header_bytes bytes) (header_at bytes) (λ x. refl) spans
    ∙ (ap (map as_header) same ∙ sym (header_map name_and_value header_of (λ x. refl) fields))

pub reply_count : (bytes : List ℕ) (spans : List HeaderSpan) (r : ResponseSpans) (h : ResponseHead) → r.headers ≤ length spans
    → IsResponseAt bytes spans r h → r.headers ≡ length h.fields
reply_count bytes spans r h fits at =
    sym (length-take-le r.headers spans fits)
    ∙ (sym (length-map (take r.headers spans) (header_bytes bytes))
    ∙ (ap length at.fields ∙ length-map h.fields name_and_value))

pub one_reply : (bytes : List ℕ) (s t : ℕ) (a b : List ℕ) → IsReply bytes s a → IsReply bytes t b → (s ≡ t) × (a ≡ b)
one_reply bytes s t a b one two =
    let same = response_unique bytes one.head two.head a b (one.valid, one.whole) (two.valid, two.whole) in
    (one.code ∙ (ap (λ (h : ResponseHead). status_code h) same.0 ∙ sym two.code), same.1)

not_both : (b : Bool) → b ≡ false → IsTrue b → ⊥
not_both b off on = grind arith

-- a whole head and as many bytes as it says
pub whole_reply : (bytes : List ℕ) (spans : List HeaderSpan) (r : ResponseSpans) → IsResponseWithin bytes spans r → IsResponseOf bytes spans r → length spans ≡ 64
    → IsLength (length_said (map (header_at bytes) (take r.headers spans))) (drop r.len bytes) → IsReply bytes r.code (drop r.len bytes)
whole_reply bytes spans r within (h, at) room fits = record {
  head = h;
  valid = at.reads.0;
  headers = omega (arith, reply_count bytes spans r h within.section.count_fits at, within.section.count_fits, room);
  whole = at.reads.1;
  code = at.code;
  fits = subst (λ (hs : List Header). IsLength (length_said hs) (drop r.len bytes)) (same_headers bytes (take r.headers spans) h.fields at.fields) fits;
}

-- a whole head and as many bytes as it says, where it says a number
pub whole_by_length : (bytes : List ℕ) (spans : List HeaderSpan) (r : ResponseSpans) → IsResponseWithin bytes spans r → IsResponseOf bytes spans r → length spans ≡ 64
    → length_said (map (header_at bytes) (take r.headers spans)) ≡ Some (Number (length (drop r.len bytes))) → HasCome bytes
unfolding whole_reply
whole_by_length bytes spans r within (h, at) room said = record {
  status = r.code;
  body = drop r.len bytes;
  reply = whole_reply bytes spans r within (h, at) room (subst (λ (d : Option Decimal). IsLength d (drop r.len bytes)) (sym said) refl);
  said = ap length_said (sym (same_headers bytes (take r.headers spans) h.fields at.fields)) ∙ said;
}

-- a head whose lengths don't fit what stands behind it is no reply's
pub no_fit : (bytes : List ℕ) (spans : List HeaderSpan) (r : ResponseSpans) (fit : Bool) → IsResponseOf bytes spans r
    → (IsLength (length_said (map (header_at bytes) (take r.headers spans))) (drop r.len bytes) → IsTrue fit) → fit ≡ false → IsNoReply bytes
no_fit bytes spans r fit (h, at) fits off = λ status body is.
    let same = response_unique bytes h is.head (drop r.len bytes) body at.reads (is.valid, is.whole) in
    let as_head = subst (λ (k : ResponseHead). IsLength (length_said (map header_of k.fields)) body) (sym same.0) is.fits in
    let as_body = subst (λ (x : List ℕ). IsLength (length_said (map header_of h.fields)) x) (sym same.1) as_head in
    not_both fit off (fits (subst (λ (hs : List Header). IsLength (length_said hs) (drop r.len bytes)) (sym (same_headers bytes (take r.headers spans) h.fields at.fields)) as_body))

pub fits_as : (said there : Option Decimal) (body : List ℕ) → said ≡ there → IsLength said body → IsLength there body
fits_as said there body same fits = subst (λ (d : Option Decimal). IsLength d body) same fits
