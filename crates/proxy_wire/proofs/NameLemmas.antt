-- The values of a name.
use Rattle.std.proofs.Common.{◌≡◌, ℕ, ◌+◌, ◌<◌, true, List, [], ◌∷◌, ◌++◌, length, take, get_or, map, refl, ap, ◌∙◌}
use Rattle.std.specs.List.{filter}
use Rattle.std.proofs.lemmas.List.{take_more, map-append}
use Rattle.std.proofs.lemmas.List.Elements.{filter-append}
use Rattle.httparse.specs.declared.spans.HeaderSpan.{HeaderSpan}
use Rattle.http_wire.specs.declared.head.Header.{Header}
use Rattle.http_wire.specs.Fields.{is_named, values_of}
use Rattle.http_wire.specs.Head.{header_at}

abbrev pub header : List ℕ → List ℕ → Header
header name value = record { name = name; value = value }

pub value_named : (name : List ℕ) (h : Header) → is_named name h ≡ true → values_of name (h ∷ []) ≡ h.value ∷ []
value_named name h named = rw named refl

pub values_append : (name : List ℕ) (xs ys : List Header) → values_of name (xs ++ ys) ≡ values_of name xs ++ values_of name ys
values_append name xs ys =
    ap (map (λ (h : Header). h.value)) (filter-append (is_named name) xs ys) ∙ map-append _ (filter (is_named name) xs) (filter (is_named name) ys)

pub values_more : (name : List ℕ) (hs : List Header) (i : ℕ) (d : Header) → i < length hs
    → values_of name (take (i + 1) hs) ≡ values_of name (take i hs) ++ values_of name (get_or hs i d ∷ [])
values_more name hs i d inside =
    ap (values_of name) (take_more hs i d inside) ∙ values_append name (take i hs) (get_or hs i d ∷ [])

pub values_at : (name bytes : List ℕ) (spans : List HeaderSpan) (i : ℕ) (d : HeaderSpan) → i < length spans
    → values_of name (map (header_at bytes) (take (i + 1) spans)) ≡ values_of name (map (header_at bytes) (take i spans)) ++ values_of name (header_at bytes (get_or spans i d) ∷ [])
values_at name bytes spans i d inside =
    ap (λ (x : List HeaderSpan). values_of name (map (header_at bytes) x)) (take_more spans i d inside)
    ∙ (ap (values_of name) (map-append (header_at bytes) (take i spans) (get_or spans i d ∷ []))
    ∙ values_append name (map (header_at bytes) (take i spans)) (header_at bytes (get_or spans i d) ∷ []))

-- a header of equal parts
pub same_header : {a a' b b' : List ℕ} → a ≡ a' → b ≡ b' → header a b ≡ header a' b'
same_header one two = let h = one in let k = two in cc
