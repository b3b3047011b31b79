-- The head of a request that comes to a guard with a token.
use Rattle.std.proofs.Common.{◌≡◌, ◌<◌, ◌≤◌, arith, ℕ, Bool, true, false, not, List, [], ◌∷◌, ◌++◌, length, reverse, filter, nat_lt, codes, Some, None, All, append_assoc, length-append, refl, sym, ap, ◌∙◌, subst, if◌then◌else◌}
use Rattle.std.specs.List.{list_all}
use Rattle.std.proofs.lemmas.Bool.{lt-ltb}
use Rattle.std.proofs.lemmas.List.{reverse-append, length-reverse}
use Rattle.std.proofs.lemmas.List.Elements.{All-cons, All-nil}
use Rattle.std.proofs.lemmas.List.Splits.{slice_split_none}
use Rattle.std.proofs.lemmas.List.Sums.{AllPass-from_list_all, list_all-from_AllPass}
use Rattle.std.proofs.lemmas.Str.{IsUtf8-from_ascii}
use Rattle.std.proofs.lemmas.Str.Ascii.{IsAscii-from_all}
use Rattle.httparse.specs.Grammar.{Field, IsField, crlf, print_section, is_token_byte, is_uri_byte, is_value_byte, is_ows, skip_ows, trim_ows, RequestHead, IsRequestHead, print_request}
use Rattle.httparse.proofs.TrimLemmas.{AllPass-reverse, trim_ows_space}
use Rattle.http_wire.specs.Head.{head_of}
use Rattle.http_wire.specs.Token.{token_of, token_in}
use Rattle.http_wire.specs.Wire.{IsServedHead}
use Rattle.http_wire.specs.Words.{is_blank, words}
use Rattle.access_laws.specs.Asks.{IsWord}
use Rattle.load_asks.specs.Requests.{guarded_request}
use Rattle.hub_loading.proofs.BoolLemmas.{both_first, both_rest, off}

-- ---- the head

abbrev plain : List ℕ → List ℕ → Field
plain name value = record { name = name; raw = 32 ∷ value; end = crlf }

abbrev said : List ℕ → List ℕ
said token = codes "token " ++ token

abbrev fields : List ℕ → List Field
fields token =
    plain (codes "Host") (codes "hub") ∷ plain (codes "Authorization") (said token) ∷ plain (codes "Connection") (codes "close") ∷ []

abbrev pub head_for : List ℕ → RequestHead
head_for token = record {
  blank = [];
  method = codes "GET";
  target = codes "/";
  minor = 1;
  line_end = crlf;
  fields = fields token;
  last = crlf;
}

plain_is : (name value : List ℕ) → 0 < length name → list_all is_token_byte name ≡ true → list_all is_value_byte value ≡ true → IsField (plain name value)
plain_is name value long word passes = record {
  name = (long, AllPass-from_list_all is_token_byte name word);
  raw = AllPass-from_list_all is_value_byte (32 ∷ value) passes;
}

fields_are : (token : List ℕ) → list_all is_value_byte token ≡ true → All IsField (fields token)
unfolding is_token_byte
fields_are token passes =
    All-cons IsField (plain (codes "Host") (codes "hub")) (plain (codes "Authorization") (said token) ∷ plain (codes "Connection") (codes "close") ∷ [])
    (plain_is (codes "Host") (codes "hub") (omega arith) refl refl)
    (All-cons IsField (plain (codes "Authorization") (said token)) (plain (codes "Connection") (codes "close") ∷ [])
    (plain_is (codes "Authorization") (said token) (omega arith) refl passes)
    (All-cons IsField (plain (codes "Connection") (codes "close")) [] (plain_is (codes "Connection") (codes "close") (omega arith) refl refl) (All-nil IsField)))

head_is : (token : List ℕ) → IsWord token → IsRequestHead (head_for token)
unfolding is_token_byte
head_is token w = record {
  method = (omega arith, AllPass-from_list_all is_token_byte (codes "GET") refl);
  target = (omega arith, AllPass-from_list_all is_uri_byte (codes "/") refl);
  target_text = IsUtf8-from_ascii (codes "/") (IsAscii-from_all (codes "/") (All-cons (λ b. b < 128) 47 [] (omega arith) (All-nil (λ b. b < 128))));
  minor = omega arith;
  fields = fields_are token w.value;
}

-- ---- its bytes

behind : (token : List ℕ) → (((token ++ 13 ∷ 10 ∷ []) ++ (codes "Connection: close\r\n" ++ [])) ++ 13 ∷ 10 ∷ []) ≡ token ++ codes "\r\nConnection: close\r\n\r\n"
behind token =
    append_assoc (token ++ 13 ∷ 10 ∷ []) (codes "Connection: close\r\n") (13 ∷ 10 ∷ [])
    ∙ append_assoc token (13 ∷ 10 ∷ []) (codes "Connection: close\r\n\r\n")

three : (a b c d : List ℕ) → ((a ++ b) ++ c) ++ d ≡ a ++ (b ++ (c ++ d))
three a b c d = append_assoc (a ++ b) c d ∙ append_assoc a b (c ++ d)

pub printed : (token : List ℕ) → guarded_request token ≡ print_request (head_for token)
unfolding print_request
printed token =
    let front : List ℕ = codes "GET /" in
    three front (codes " HTTP/1.1\r\nHost: hub\r\nAuthorization: token ") token (codes "\r\nConnection: close\r\n\r\n")
    ∙ (ap (λ (t : List ℕ). front ++ (codes " HTTP/1.1\r\nHost: hub\r\nAuthorization: token " ++ t)) (sym (behind token))
    ∙ sym (three front (codes " HTTP/1.1") (13 ∷ 10 ∷ []) (print_section (fields token) crlf)))

size_of : (token : List ℕ) → length token ≤ 1000 → length (print_request (head_for token)) ≤ 16384
size_of token short = subst (λ (bytes : List ℕ). length bytes ≤ 16384) (printed token)
    (omega (arith, short, length-append token (codes "\r\nConnection: close\r\n\r\n")))

pub served : (token : List ℕ) → IsWord token → length token ≤ 1000 → IsServedHead (head_for token)
served token w short = record { valid = head_is token w; path = refl; size = size_of token short; headers = omega arith }

-- ---- its token

abbrev unbroken : ℕ → Bool
unbroken b = not (is_blank b)

-- no blank stands in front of a word
front_kept : (word rest : List ℕ) → 0 < length word → list_all unbroken word ≡ true → skip_ows (word ++ rest) ≡ word ++ rest
front_kept [] rest some is = absurd (omega (arith, some))
front_kept (b ∷ bs) rest some is =
    let here : is_ows b ≡ false = off (is_ows b) (both_first (unbroken b) (list_all unbroken bs) is) in
    ap (λ (t : Bool). if t then skip_ows (bs ++ rest) else b ∷ (bs ++ rest)) here

reversed : (word : List ℕ) → list_all unbroken word ≡ true → list_all unbroken (reverse word) ≡ true
reversed word is = list_all-from_AllPass unbroken (reverse word) (AllPass-reverse unbroken word (AllPass-from_list_all unbroken word is))

-- and none behind it
back_kept : (front word : List ℕ) → 0 < length word → list_all unbroken word ≡ true → skip_ows (reverse (front ++ word)) ≡ reverse (front ++ word)
back_kept front word some is =
    let turned : reverse (front ++ word) ≡ reverse word ++ reverse front = reverse-append front word in
    let long : 0 < length (reverse word) = subst (λ (n : ℕ). 0 < n) (sym (length-reverse word)) some in
    subst (λ (t : List ℕ). skip_ows t ≡ t) (sym turned) (front_kept (reverse word) (reverse front) long (reversed word is))

trimmed : (token : List ℕ) → IsWord token → trim_ows (32 ∷ said token) ≡ said token
trimmed token w = trim_ows_space (said token) refl (back_kept (codes "token ") token w.some w.unbroken)

none_blank : (word : List ℕ) → list_all unbroken word ≡ true → All (λ b. is_blank b ≡ false) word
none_blank [] is = All-nil (λ b. is_blank b ≡ false)
none_blank (b ∷ bs) is =
    All-cons (λ b. is_blank b ≡ false) b bs (off (is_blank b) (both_first (unbroken b) (list_all unbroken bs) is))
    (none_blank bs (both_rest (unbroken b) (list_all unbroken bs) is))

abbrev some_part : List ℕ → Bool
some_part part = nat_lt 0 (length part)

words_are : (token : List ℕ) → IsWord token → words (said token) ≡ codes "token" ∷ token ∷ []
words_are token w =
    ap (λ ps. filter some_part (codes "token" ∷ ps)) (slice_split_none is_blank token (none_blank token w.unbroken))
    ∙ ap (λ (t : Bool). codes "token" ∷ (if t then token ∷ [] else [])) (lt-ltb 0 (length token) w.some)

pub token_there : (token : List ℕ) → IsWord token → token_of (head_of (head_for token)).headers ≡ Some token
token_there token w =
    ap (λ v. token_in (words v)) (trimmed token w)
    ∙ (ap token_in (words_are token w) ∙ ap (λ (t : Bool). if t then Some token else None) w.text)
