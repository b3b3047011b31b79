-- A GET by a token is read as that alone.
use Rattle.std.proofs.Common.{◌≡◌, ◌<◌, ◌≤◌, arith, ℕ, Bool, true, false, not, ◌&&◌, List, [], ◌∷◌, ◌++◌, length, reverse, filter, map, nat_lt, codes, Option, Some, None, All, append_assoc, refl, sym, ap, ◌∙◌, subst, if◌then◌else◌}
use Rattle.std.specs.List.{list_all}
use Rattle.std.proofs.lemmas.Bool.{lt-ltb}
use Rattle.std.proofs.lemmas.List.{append-nil, reverse-append, length-reverse}
use Rattle.std.proofs.lemmas.List.Elements.{All-cons, All-nil}
use Rattle.std.proofs.lemmas.List.Splits.{slice_split_none}
use Rattle.std.proofs.lemmas.List.Sums.{AllPass-from_list_all, list_all-from_AllPass}
use Rattle.httparse.specs.Grammar.{Field, IsField, crlf, print_section, is_token_byte, is_uri_byte, is_value_byte, is_ows, skip_ows, trim_ows, RequestHead, IsRequestHead, print_request, ReadsRequest}
use Rattle.httparse.proofs.GrammarLemmas.{request_unique}
use Rattle.httparse.proofs.TrimLemmas.{AllPass-reverse, trim_ows_space}
use Rattle.http_wire.specs.Head.{head_of, header_of}
use Rattle.http_wire.specs.Request.{request_of, IsRequestText}
use Rattle.http_wire.specs.Token.{token_of, token_in}
use Rattle.http_wire.specs.Wire.{HasPath, head_limit}
use Rattle.http_wire.specs.Words.{is_blank, words}
use Rattle.access_laws.specs.Asks.{OnlyReads, get_text, get_of, IsWord, IsTarget}

-- ---- the head

abbrev plain : List ℕ → List ℕ → Field
plain name value = record { name = name; raw = 32 ∷ value; end = crlf }

abbrev said : List ℕ → List ℕ
said token = codes "token " ++ token

abbrev fields : List ℕ → List Field
fields token =
    plain (codes "Host") (codes "hub") ∷ plain (codes "Authorization") (said token) ∷ plain (codes "Connection") (codes "close") ∷ []

abbrev head_for : List ℕ → List ℕ → RequestHead
head_for target token = record {
  blank = [];
  method = codes "GET";
  target = target;
  minor = 1;
  line_end = crlf;
  fields = fields token;
  last = crlf;
}

plain_is : (name value : List ℕ) → 0 < length name → list_all is_token_byte name ≡ true → list_all is_value_byte value ≡ true → IsField (plain name value)
plain_is name value long word passes = record {
  name = (long, AllPass-from_list_all is_token_byte name word);
  raw = AllPass-from_list_all is_value_byte (32 ∷ value) passes;
}

fields_are : (token : List ℕ) → list_all is_value_byte token ≡ true → All IsField (fields token)
unfolding is_token_byte
fields_are token passes =
    All-cons IsField (plain (codes "Host") (codes "hub")) (plain (codes "Authorization") (said token) ∷ plain (codes "Connection") (codes "close") ∷ [])
    (plain_is (codes "Host") (codes "hub") (omega arith) refl refl)
    (All-cons IsField (plain (codes "Authorization") (said token)) (plain (codes "Connection") (codes "close") ∷ [])
    (plain_is (codes "Authorization") (said token) (omega arith) refl passes)
    (All-cons IsField (plain (codes "Connection") (codes "close")) [] (plain_is (codes "Connection") (codes "close") (omega arith) refl refl) (All-nil IsField)))

some_path : (target : List ℕ) → HasPath target → 0 < length target
some_path [] path = absurd path
some_path (b ∷ bs) path = omega arith

head_is : (target token : List ℕ) → IsTarget target → IsWord token → IsRequestHead (head_for target token)
unfolding is_token_byte
head_is target token t w = record {
  method = (omega arith, AllPass-from_list_all is_token_byte (codes "GET") refl);
  target = (some_path target t.path, AllPass-from_list_all is_uri_byte target t.bytes);
  target_text = t.text;
  minor = omega arith;
  fields = fields_are token w.value;
}

-- ---- its bytes

behind : (token : List ℕ) → (((token ++ 13 ∷ 10 ∷ []) ++ (codes "Connection: close\r\n" ++ [])) ++ 13 ∷ 10 ∷ []) ≡ token ++ codes "\r\nConnection: close\r\n\r\n"
behind token =
    append_assoc (token ++ 13 ∷ 10 ∷ []) (codes "Connection: close\r\n") (13 ∷ 10 ∷ [])
    ∙ append_assoc token (13 ∷ 10 ∷ []) (codes "Connection: close\r\n\r\n")

three : (a b c d : List ℕ) → ((a ++ b) ++ c) ++ d ≡ a ++ (b ++ (c ++ d))
three a b c d = append_assoc (a ++ b) c d ∙ append_assoc a b (c ++ d)

printed : (target token : List ℕ) → get_text target token ≡ print_request (head_for target token)
unfolding print_request
printed target token =
    let front : List ℕ = codes "GET " ++ target in
    three front (codes " HTTP/1.1\r\nHost: hub\r\nAuthorization: token ") token (codes "\r\nConnection: close\r\n\r\n")
    ∙ (ap (λ (t : List ℕ). front ++ (codes " HTTP/1.1\r\nHost: hub\r\nAuthorization: token " ++ t)) (sym (behind token))
    ∙ sym (three front (codes " HTTP/1.1") (13 ∷ 10 ∷ []) (print_section (fields token) crlf)))

-- ---- its token

off : (x : Bool) → not x ≡ true → x ≡ false
off true is = cc is
off false is = refl

both_first : (x y : Bool) → (x && y) ≡ true → x ≡ true
both_first true y is = refl
both_first false y is = is

both_rest : (x y : Bool) → (x && y) ≡ true → y ≡ true
both_rest true y is = is
both_rest false y is = absurd (cc is)

abbrev unbroken : ℕ → Bool
unbroken b = not (is_blank b)

-- no blank stands in front of a word
front_kept : (word rest : List ℕ) → 0 < length word → list_all unbroken word ≡ true → skip_ows (word ++ rest) ≡ word ++ rest
front_kept [] rest some is = absurd (omega (arith, some))
front_kept (b ∷ bs) rest some is =
    let here : is_ows b ≡ false = off (is_ows b) (both_first (unbroken b) (list_all unbroken bs) is) in
    ap (λ (t : Bool). if t then skip_ows (bs ++ rest) else b ∷ (bs ++ rest)) here

reversed : (word : List ℕ) → list_all unbroken word ≡ true → list_all unbroken (reverse word) ≡ true
reversed word is = list_all-from_AllPass unbroken (reverse word) (AllPass-reverse unbroken word (AllPass-from_list_all unbroken word is))

-- and none behind it
back_kept : (front word : List ℕ) → 0 < length word → list_all unbroken word ≡ true → skip_ows (reverse (front ++ word)) ≡ reverse (front ++ word)
back_kept front word some is =
    let turned : reverse (front ++ word) ≡ reverse word ++ reverse front = reverse-append front word in
    let long : 0 < length (reverse word) = subst (λ (n : ℕ). 0 < n) (sym (length-reverse word)) some in
    subst (λ (t : List ℕ). skip_ows t ≡ t) (sym turned) (front_kept (reverse word) (reverse front) long (reversed word is))

trimmed : (token : List ℕ) → IsWord token → trim_ows (32 ∷ said token) ≡ said token
trimmed token w = trim_ows_space (said token) refl (back_kept (codes "token ") token w.some w.unbroken)

none_blank : (word : List ℕ) → list_all unbroken word ≡ true → All (λ b. is_blank b ≡ false) word
none_blank [] is = All-nil (λ b. is_blank b ≡ false)
none_blank (b ∷ bs) is =
    All-cons (λ b. is_blank b ≡ false) b bs (off (is_blank b) (both_first (unbroken b) (list_all unbroken bs) is))
    (none_blank bs (both_rest (unbroken b) (list_all unbroken bs) is))

abbrev some_part : List ℕ → Bool
some_part part = nat_lt 0 (length part)

words_are : (token : List ℕ) → IsWord token → words (said token) ≡ codes "token" ∷ token ∷ []
words_are token w =
    ap (λ ps. filter some_part (codes "token" ∷ ps)) (slice_split_none is_blank token (none_blank token w.unbroken))
    ∙ ap (λ (t : Bool). codes "token" ∷ (if t then token ∷ [] else [])) (lt-ltb 0 (length token) w.some)

token_is : (token : List ℕ) → IsWord token → token_of (map header_of (fields token)) ≡ Some token
token_is token w =
    ap (λ v. token_in (words v)) (trimmed token w)
    ∙ (ap token_in (words_are token w) ∙ ap (λ (t : Bool). if t then Some token else None) w.text)

-- ---- the request

made : (target token : List ℕ) → IsWord token → request_of (head_of (head_for target token)) [] ≡ get_of target token
unfolding trim_ows
made target token w = ap (λ (t : Option (List ℕ)). record (get_of target token) { token = t }) (token_is token w)

front_empty : (a b : List ℕ) → a ++ b ≡ [] → a ≡ []
front_empty [] b is = refl
front_empty (x ∷ a) b is = cc is

pub gets_read : (target token : List ℕ) → IsTarget target → IsWord token → OnlyReads (get_text target token) (get_of target token)
gets_read target token t w other text more is same =
    let head = head_for target token in
    let here : ReadsRequest (get_text target token) is.head (other.body ++ more) =
    ((is.served).valid, same ∙ (ap (λ (b : List ℕ). b ++ more) is.printed ∙ append_assoc (print_request is.head) other.body more)) in
    let there : ReadsRequest (get_text target token) head [] = (head_is target token t w, printed target token ∙ sym (append-nil (print_request head))) in
    let one = request_unique (get_text target token) is.head head (other.body ++ more) [] here there in
    is.value
    ∙ (ap (λ (h : RequestHead). request_of (head_of h) other.body) one.0
    ∙ (ap (λ (b : List ℕ). request_of (head_of head) b) (front_empty other.body more one.1) ∙ made target token w))

-- ---- the bytes as a text of the request

pub gets_are_texts : (target token : List ℕ) → IsTarget target → IsWord token → length (get_text target token) ≤ head_limit
    → IsRequestText (get_of target token) (get_text target token)
unfolding trim_ows
gets_are_texts target token t w short =
    let head = head_for target token in record {
      head = head;
      served = record {
        valid = head_is target token t w;
        path = t.path;
        size = subst (λ (b : List ℕ). length b ≤ head_limit) (printed target token) short;
        headers = omega arith;
      };
      due = refl;
      value = sym (made target token w);
      printed = printed target token ∙ sym (append-nil (print_request head));
    }
