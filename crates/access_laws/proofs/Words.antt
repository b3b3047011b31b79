-- A token that a head gives is a word.
use Rattle.std.proofs.Common.{◌≡◌, ◌<◌, ℕ, Bool, true, false, not, ◌&&◌, cond, List, [], ◌∷◌, length, filter, map, nat_lt, codes, Option, Some, None, refl, ap, subst, if◌then◌else◌}
use Rattle.std.specs.List.{list_all, slice_split, onto_first, AllByRecursion}
use Rattle.std.specs.Str.{is_utf8}
use Rattle.std.proofs.lemmas.Bool.{ltb-true}
use Rattle.std.proofs.lemmas.List.Elements.{recursion_from_All}
use Rattle.std.proofs.lemmas.List.Sums.{list_all-from_AllPass}
use Rattle.httparse.specs.Grammar.{Field, IsField, is_value_byte, field_value, RequestHead, IsRequestHead}
use Rattle.httparse.proofs.TrimLemmas.{AllPass-trim_ows}
use Rattle.http_wire.specs.Fields.{is_named, values_of}
use Rattle.http_wire.specs.Head.{head_of, header_of}
use Rattle.http_wire.specs.Token.{token_of, token_in, token_said, is_scheme}
use Rattle.http_wire.specs.Words.{is_blank, words}
use Rattle.http_wire.specs.declared.head.Header.{Header}
use Rattle.access_laws.specs.Asks.{IsWord}

abbrev Passes : List ℕ → Type 0
Passes bytes = list_all is_value_byte bytes ≡ true

abbrev unbroken : ℕ → Bool
unbroken b = not (is_blank b)

abbrev IsPart : List ℕ → Type 0
IsPart part = Passes part × (list_all unbroken part ≡ true)

abbrev IsSome : List ℕ → Type 0
IsSome part = (0 < length part) × IsPart part

-- ---- values

abbrev chosen : Bool → Header → List Header → List Header
chosen b h hs = cond b (h ∷ hs) hs

chosen_pass : (b : Bool) (h : Header) (hs : List Header) → Passes h.value → AllByRecursion Passes (map (λ (x : Header). x.value) hs)
    → AllByRecursion Passes (map (λ (x : Header). x.value) (chosen b h hs))
chosen_pass true h hs one all = (one, all)
chosen_pass false h hs one all = all

values_pass : (name : List ℕ) (fs : List Field) → AllByRecursion IsField fs → AllByRecursion Passes (values_of name (map header_of fs))
values_pass name [] all = tt
values_pass name (f ∷ fs) all =
    chosen_pass (is_named name (header_of f)) (header_of f) (filter (is_named name) (map header_of fs))
    (list_all-from_AllPass is_value_byte (field_value f) (AllPass-trim_ows is_value_byte f.raw (all.0).raw))
    (values_pass name fs all.1)

-- ---- parts

both : (x y : Bool) → x ≡ true → y ≡ true → (x && y) ≡ true
both x y one two = rw one two

both_first : (x y : Bool) → (x && y) ≡ true → x ≡ true
both_first true y is = refl
both_first false y is = is

both_rest : (x y : Bool) → (x && y) ≡ true → y ≡ true
both_rest true y is = is
both_rest false y is = absurd (cc is)

onto : (b : ℕ) (parts : List (List ℕ)) → is_value_byte b ≡ true → unbroken b ≡ true → AllByRecursion IsPart parts → AllByRecursion IsPart (onto_first b parts)
onto b [] value whole all = ((both (is_value_byte b) true value refl, both (unbroken b) true whole refl), tt)
onto b (p ∷ ps) value whole all =
    ((both (is_value_byte b) (list_all is_value_byte p) value (all.0).0, both (unbroken b) (list_all unbroken p) whole (all.0).1), all.1)

parts_pass : (bytes : List ℕ) → Passes bytes → AllByRecursion IsPart (slice_split is_blank bytes)
parts_pass [] is = ((refl, refl), tt)
parts_pass (b ∷ bs) is =
    let later = parts_pass bs (both_rest (is_value_byte b) (list_all is_value_byte bs) is) in
    by (is_blank b) refl later
  where
    by : (blank : Bool) → is_blank b ≡ blank → AllByRecursion IsPart (slice_split is_blank bs)
        → AllByRecursion IsPart (cond blank ([] ∷ slice_split is_blank bs) (onto_first b (slice_split is_blank bs)))
    by true here later = ((refl, refl), later)
    by false here later =
        onto b (slice_split is_blank bs) (both_first (is_value_byte b) (list_all is_value_byte bs) is) (ap not here) later

some_parts : (parts : List (List ℕ)) → AllByRecursion IsPart parts → AllByRecursion IsSome (filter (λ part. nat_lt 0 (length part)) parts)
some_parts [] all = tt
some_parts (p ∷ ps) all =
    let later = some_parts ps all.1 in
    by (nat_lt 0 (length p)) refl later
  where
    by : (some : Bool) → nat_lt 0 (length p) ≡ some → AllByRecursion IsSome (filter (λ part. nat_lt 0 (length part)) ps)
        → AllByRecursion IsSome (cond some (p ∷ filter (λ part. nat_lt 0 (length part)) ps) (filter (λ part. nat_lt 0 (length part)) ps))
    by true here later = ((ltb-true 0 (length p) here, all.0), later)
    by false here later = later

words_pass : (value : List ℕ) → Passes value → AllByRecursion IsSome (words value)
words_pass value is = some_parts (slice_split is_blank value) (parts_pass value is)

-- ---- the token

token_here : (scheme text : Bool) (found token : List ℕ) → (if scheme && text then Some found else None) ≡ Some token → (found ≡ token) × (text ≡ true)
token_here true true found token is = (cc is, refl)
token_here true false found token is = absurd (cc is)
token_here false text found token is = absurd (cc is)

none_is : (token : List ℕ) (o : Option (List ℕ)) → o ≡ None → o ≡ Some token → ⊥
none_is token o one two = cc

in_words : (ws : List (List ℕ)) (token : List ℕ) → AllByRecursion IsSome ws → token_in ws ≡ Some token → IsWord token
in_words [] token all is = absurd (none_is token None refl is)
in_words (scheme ∷ []) token all is = absurd (none_is token None refl is)
in_words (scheme ∷ found ∷ []) token all is =
    let here = token_here (is_scheme scheme) (is_utf8 found) found token is in
    let part : IsSome found = (all.1).0 in
    subst (λ (t : List ℕ). IsWord t) here.0 (record { some = part.0; value = (part.1).0; unbroken = (part.1).1; text = here.1 })
in_words (scheme ∷ found ∷ more ∷ ws) token all is = absurd (none_is token None refl is)

in_values : (values : List (List ℕ)) (token : List ℕ) → AllByRecursion Passes values → token_said values ≡ Some token → IsWord token
in_values [] token all is = absurd (none_is token None refl is)
in_values (value ∷ []) token all is = in_words (words value) token (words_pass value all.0) is
in_values (value ∷ other ∷ values) token all is = absurd (none_is token None refl is)

pub token_is_word : (h : RequestHead) (token : List ℕ) → IsRequestHead h → token_of (head_of h).headers ≡ Some token → IsWord token
token_is_word h token valid is =
    in_values (values_of (codes "authorization") (map header_of h.fields)) token
    (values_pass (codes "authorization") h.fields (recursion_from_All IsField h.fields valid.fields)) is
