-- The status and the body of a reply of the hub.
use Rattle.std.proofs.Common.{◌≡◌, ◌<◌, ◌≤◌, ◌+◌, ◌^◌, arith, ℕ, zero, suc, ◌/◌, ◌%◌, ◌==◌, ◌&&◌, Bool, true, false, not, nat_lt, if◌then◌else◌, List, [], ◌∷◌, ◌++◌, length, map, reverse, decimal, codes, Option, Some, None, All, append_assoc, length-append, refl, sym, ap, ◌∙◌, subst}
use Rattle.std.specs.Char.{is_ascii_digit}
use Rattle.std.specs.Fmt.{digits, digits_onto, digit_glyph}
use Rattle.std.specs.List.{list_all}
use Rattle.std.specs.Str.Parse.{digits_value}
use Rattle.std.proofs.lemmas.List.Elements.{All-cons, All-nil}
use Rattle.std.proofs.lemmas.Bool.{lt-ltb}
use Rattle.std.proofs.lemmas.Fmt.{decimal_is_IsNumeral, decimal_nonempty}
use Rattle.std.proofs.lemmas.List.Sums.{AllPass-from_list_all, list_all-from_AllPass}
use Rattle.httparse.specs.Grammar.{Field, IsField, crlf, print_section, is_token_byte, is_value_byte, is_ows, skip_ows, trim_ows, ResponseHead, IsResponseHead, print_response, status_code}
use Rattle.httparse.proofs.GrammarLemmas.{response_unique}
use Rattle.httparse.proofs.TrimLemmas.{AllPass-reverse, trim_ows_space}
use Rattle.http_wire.specs.Decimal.{number_in}
use Rattle.http_wire.specs.Due.{number_said, length_said}
use Rattle.http_wire.specs.Head.{header_of}
use Rattle.http_wire.specs.Wire.{header_limit}
use Rattle.http_wire.specs.declared.decimal.Decimal.{Decimal}
use Rattle.http_wire.specs.declared.decimal.Decimal.TheVariants.{Number, Past, Other}
use Rattle.json.specs.Print.{print}
use Rattle.hub_link.specs.Replies.{IsReply, IsLength}
use Rattle.hub_view.specs.Json.{Json}
use Rattle.hub_machine.specs.Replies.{Reply}
use Rattle.reply_texts.specs.ReplyText.{reply_text, has_body, phrase, status_line, header, revision_header, close_header}
use Rattle.reply_texts.specs.ReplyText as text

-- ---- digits

value_glyph : (d : ℕ) → d < 10 → is_value_byte (digit_glyph false d) ≡ true
value_glyph zero h = refl
value_glyph (suc zero) h = refl
value_glyph (suc (suc zero)) h = refl
value_glyph (suc (suc (suc zero))) h = refl
value_glyph (suc (suc (suc (suc zero)))) h = refl
value_glyph (suc (suc (suc (suc (suc zero))))) h = refl
value_glyph (suc (suc (suc (suc (suc (suc zero)))))) h = refl
value_glyph (suc (suc (suc (suc (suc (suc (suc zero))))))) h = refl
value_glyph (suc (suc (suc (suc (suc (suc (suc (suc zero)))))))) h = refl
value_glyph (suc (suc (suc (suc (suc (suc (suc (suc (suc zero))))))))) h = refl
value_glyph (suc (suc (suc (suc (suc (suc (suc (suc (suc (suc d)))))))))) h = absurd (omega (arith, h))

all_both : (a b : Bool) → a ≡ true → b ≡ true → (a && b) ≡ true
all_both a b one two = rw one two

last_digit : (n : ℕ) → n % 10 < 10
last_digit n = omega arith

last_passes : (p : ℕ → Bool) (b : Bool) (xs ys : List ℕ) → list_all p xs ≡ true → list_all p ys ≡ true → list_all p (if b then xs else ys) ≡ true
last_passes p true xs ys one two = one
last_passes p false xs ys one two = two

digits_pass : (p : ℕ → Bool) → ((d : ℕ) → d < 10 → p (digit_glyph false d) ≡ true) → (k n : ℕ) (acc : List ℕ) → list_all p acc ≡ true
    → list_all p (digits_onto k 10 false n acc) ≡ true
digits_pass p each zero n acc is = is
digits_pass p each (suc k) n acc is =
    let more : list_all p (digit_glyph false (n % 10) ∷ acc) ≡ true =
    all_both (p (digit_glyph false (n % 10))) (list_all p acc) (each (n % 10) (last_digit n)) is in
    last_passes p (n / 10 == 0) (digit_glyph false (n % 10) ∷ acc) (digits_onto k 10 false (n / 10) (digit_glyph false (n % 10) ∷ acc)) more
    (digits_pass p each k (n / 10) (digit_glyph false (n % 10) ∷ acc) more)

pub decimal_passes : (n : ℕ) → list_all is_value_byte (decimal n) ≡ true
unfolding digits
decimal_passes n = digits_pass is_value_byte value_glyph 64 n [] refl

-- a digit, and so no blank
abbrev is_plain : ℕ → Bool
is_plain b = is_ascii_digit b && not (is_ows b)

plain_glyph : (d : ℕ) → d < 10 → is_plain (digit_glyph false d) ≡ true
plain_glyph zero h = refl
plain_glyph (suc zero) h = refl
plain_glyph (suc (suc zero)) h = refl
plain_glyph (suc (suc (suc zero))) h = refl
plain_glyph (suc (suc (suc (suc zero)))) h = refl
plain_glyph (suc (suc (suc (suc (suc zero))))) h = refl
plain_glyph (suc (suc (suc (suc (suc (suc zero)))))) h = refl
plain_glyph (suc (suc (suc (suc (suc (suc (suc zero))))))) h = refl
plain_glyph (suc (suc (suc (suc (suc (suc (suc (suc zero)))))))) h = refl
plain_glyph (suc (suc (suc (suc (suc (suc (suc (suc (suc zero))))))))) h = refl
plain_glyph (suc (suc (suc (suc (suc (suc (suc (suc (suc (suc d)))))))))) h = absurd (omega (arith, h))

decimal_plain : (n : ℕ) → list_all is_plain (decimal n) ≡ true
unfolding digits
decimal_plain n = digits_pass is_plain plain_glyph 64 n [] refl

both_first : (x y : Bool) → (x && y) ≡ true → x ≡ true
both_first true y is = refl
both_first false y is = is

both_rest : (x y : Bool) → (x && y) ≡ true → y ≡ true
both_rest true y is = is
both_rest false y is = absurd (cc is)

off : (x : Bool) → not x ≡ true → x ≡ false
off true is = cc is
off false is = refl

are_digits : (bytes : List ℕ) → list_all is_plain bytes ≡ true → list_all is_ascii_digit bytes ≡ true
are_digits [] is = refl
are_digits (b ∷ bs) is =
    all_both (is_ascii_digit b) (list_all is_ascii_digit bs)
    (both_first (is_ascii_digit b) (not (is_ows b)) (both_first (is_plain b) (list_all is_plain bs) is))
    (are_digits bs (both_rest (is_plain b) (list_all is_plain bs) is))

unblank : (bytes : List ℕ) → list_all is_plain bytes ≡ true → skip_ows bytes ≡ bytes
unblank [] is = refl
unblank (b ∷ bs) is =
    let here : is_ows b ≡ false = off (is_ows b) (both_rest (is_ascii_digit b) (not (is_ows b)) (both_first (is_plain b) (list_all is_plain bs) is)) in
    ap (λ (t : Bool). if t then skip_ows bs else b ∷ bs) here

trimmed : (n : ℕ) → trim_ows (32 ∷ decimal n) ≡ decimal n
trimmed n =
    trim_ows_space (decimal n) (unblank (decimal n) (decimal_plain n))
    (unblank (reverse (decimal n))
    (list_all-from_AllPass is_plain (reverse (decimal n))
    (AllPass-reverse is_plain (decimal n) (AllPass-from_list_all is_plain (decimal n) (decimal_plain n)))))

number_is : (n : ℕ) → n < 2 ^ 64 → number_in (decimal n) ≡ Number n
number_is n small =
    let numeral = decimal_is_IsNumeral n small in
    ap (λ (t : Bool). if t then (if nat_lt (digits_value 10 (decimal n)) (2 ^ 64) then Number (digits_value 10 (decimal n)) else Past) else Other)
    (all_both (nat_lt 0 (length (decimal n))) (list_all is_ascii_digit (decimal n)) (lt-ltb 0 (length (decimal n)) (decimal_nonempty n small))
    (are_digits (decimal n) (decimal_plain n)))
    ∙ (ap (λ (m : ℕ). if nat_lt m (2 ^ 64) then Number m else Past) numeral.1
    ∙ ap (λ (t : Bool). if t then Number n else Past) (lt-ltb n (2 ^ 64) small))

-- ---- the head

abbrev pub plain : List ℕ → List ℕ → Field
plain name value = record { name = name; raw = 32 ∷ value; end = crlf }

plain_is : (name value : List ℕ) → 0 < length name → list_all is_token_byte name ≡ true → list_all is_value_byte value ≡ true → IsField (plain name value)
plain_is name value long word passes = record {
  name = (long, AllPass-from_list_all is_token_byte name word);
  raw = AllPass-from_list_all is_value_byte (32 ∷ value) passes;
}

abbrev revision_fields : Option ℕ → List Field
revision_fields None = []
revision_fields (Some n) = plain (codes "X-Hub-Revision") (decimal n) ∷ []

abbrev fields : ℕ → Option ℕ → List Field
fields size revision =
    plain (codes "Content-Type") (codes "application/json")
    ∷ plain (codes "Content-Length") (decimal size)
    ∷ (revision_fields revision ++ plain (codes "Connection") (codes "close") ∷ [])

abbrev head_for : ℕ → ℕ → Option ℕ → ResponseHead
head_for status size revision = record {
  blank = [];
  minor = 1;
  digits = decimal status;
  reason = Some (phrase status);
  line_end = crlf;
  fields = fields size revision;
  last = crlf;
}

-- the status has three digits, and a phrase that may stand in a head
pub record IsStatus (status : ℕ) : Type 0 where
  pub three : length (decimal status) ≡ 3
  pub digits : list_all is_ascii_digit (decimal status) ≡ true
  pub phrase : list_all is_value_byte (phrase status) ≡ true
  pub value : digits_value 10 (decimal status) ≡ status

fields_are : (size : ℕ) (revision : Option ℕ) → All IsField (fields size revision)
unfolding is_token_byte
fields_are size None =
    let close : Field = plain (codes "Connection") (codes "close") in
    let length_of : Field = plain (codes "Content-Length") (decimal size) in
    let type_of : Field = plain (codes "Content-Type") (codes "application/json") in
    All-cons IsField type_of (length_of ∷ close ∷ []) (plain_is (codes "Content-Type") (codes "application/json") (omega arith) refl refl)
    (All-cons IsField length_of (close ∷ []) (plain_is (codes "Content-Length") (decimal size) (omega arith) refl (decimal_passes size))
    (All-cons IsField close [] (plain_is (codes "Connection") (codes "close") (omega arith) refl refl) (All-nil IsField)))
fields_are size (Some n) =
    let close : Field = plain (codes "Connection") (codes "close") in
    let revision : Field = plain (codes "X-Hub-Revision") (decimal n) in
    let length_of : Field = plain (codes "Content-Length") (decimal size) in
    let type_of : Field = plain (codes "Content-Type") (codes "application/json") in
    All-cons IsField type_of (length_of ∷ revision ∷ close ∷ []) (plain_is (codes "Content-Type") (codes "application/json") (omega arith) refl refl)
    (All-cons IsField length_of (revision ∷ close ∷ []) (plain_is (codes "Content-Length") (decimal size) (omega arith) refl (decimal_passes size))
    (All-cons IsField revision (close ∷ []) (plain_is (codes "X-Hub-Revision") (decimal n) (omega arith) refl (decimal_passes n))
    (All-cons IsField close [] (plain_is (codes "Connection") (codes "close") (omega arith) refl refl) (All-nil IsField))))

head_is : (status size : ℕ) (revision : Option ℕ) → IsStatus status → IsResponseHead (head_for status size revision)
head_is status size revision known = record {
  minor = omega arith;
  digits = (known.three, AllPass-from_list_all is_ascii_digit (decimal status) known.digits);
  reason = AllPass-from_list_all is_value_byte (phrase status) known.phrase;
  fields = fields_are size revision;
}

-- ---- its bytes

line_is : (status : ℕ) → status_line status ≡ (codes "HTTP/1.1 " ++ decimal status) ++ 32 ∷ phrase status ++ text.crlf
line_is status = ap (λ (t : List ℕ). t ++ text.crlf) (append_assoc (codes "HTTP/1.1 " ++ decimal status) (32 ∷ []) (phrase status))

arranged : (l a b o e : List ℕ) → ((l ++ (a ++ b)) ++ o) ++ e ≡ l ++ ((a ++ (b ++ o)) ++ e)
arranged l a b o e =
    ap (λ (t : List ℕ). t ++ e) (append_assoc l (a ++ b) o ∙ ap (λ (t : List ℕ). l ++ t) (append_assoc a b o))
    ∙ append_assoc l (a ++ (b ++ o)) e

abbrev typed : List ℕ
typed = header (codes "Content-Type") (codes "application/json")

abbrev sized : ℕ → List ℕ
sized size = header (codes "Content-Length") (decimal size)

section_is : (size : ℕ) (revision : Option ℕ)
    → (typed ++ (sized size ++ (revision_header revision ++ close_header true))) ++ text.crlf ≡ print_section (fields size revision) crlf
section_is size None = refl
section_is size (Some n) = refl

whole : (status size : ℕ) (revision : Option ℕ)
    → ((status_line status ++ (typed ++ sized size)) ++ (revision_header revision ++ close_header true)) ++ text.crlf
    ≡ print_response (head_for status size revision)
unfolding print_response
whole status size revision =
    arranged (status_line status) typed (sized size) (revision_header revision ++ close_header true) text.crlf
    ∙ (ap (λ (l : List ℕ). l ++ ((typed ++ (sized size ++ (revision_header revision ++ close_header true))) ++ text.crlf)) (line_is status)
    ∙ ap (λ (t : List ℕ). ((codes "HTTP/1.1 " ++ decimal status) ++ 32 ∷ phrase status ++ text.crlf) ++ t) (section_is size revision))

-- the status, a body, and maybe a revision
abbrev pub short : ℕ → Json → Option ℕ → Reply
short status body revision = record { status = status; body = body; location = None; no_store = false; revision = revision }

short_text : (status : ℕ) (body : Json) (revision : Option ℕ) → has_body body ≡ true
    → reply_text (short status body revision) true ≡ print_response (head_for status (length (print body)) revision) ++ print body
short_text status [] revision none = absurd (cc none)
short_text status (t ∷ ts) revision there = ap (λ (h : List ℕ). h ++ print (t ∷ ts)) (whole status (length (print (t ∷ ts))) revision)

-- a reply is read as what it says
pub read_as : (status : ℕ) (body : Json) (revision : Option ℕ) (bytes : List ℕ) (said : ℕ) (text : List ℕ)
    → has_body body ≡ true → IsStatus status → bytes ≡ reply_text (short status body revision) true → IsReply bytes said text
    → (said ≡ status) × (text ≡ print body)
read_as status body revision bytes said text there known is reply =
    let head = head_for status (length (print body)) revision in
    let one = response_unique bytes reply.head head text (print body) (reply.valid, reply.whole)
    (head_is status (length (print body)) revision known, is ∙ short_text status body revision there) in
    (reply.code ∙ (ap status_code one.0 ∙ known.value), one.1)

-- ---- and its bytes are one

few_fields : (size : ℕ) (revision : Option ℕ) → length (fields size revision) ≤ header_limit
few_fields size None = omega arith
few_fields size (Some n) = omega arith

length_is : (size : ℕ) (revision : Option ℕ) → size < 2 ^ 64 → length_said (map header_of (fields size revision)) ≡ Some (Number size)
length_is size None small = ap (λ (v : List ℕ). number_said (v ∷ [])) (trimmed size) ∙ ap (λ (d : Decimal). Some d) (number_is size small)
length_is size (Some n) small = ap (λ (v : List ℕ). number_said (v ∷ [])) (trimmed size) ∙ ap (λ (d : Decimal). Some d) (number_is size small)

pub reply_is : (status : ℕ) (body : Json) (revision : Option ℕ) (bytes : List ℕ) → has_body body ≡ true → IsStatus status
    → bytes ≡ reply_text (short status body revision) true → length bytes < 2 ^ 64 → IsReply bytes status (print body)
reply_is status body revision bytes there known is fits =
    let head : ResponseHead = head_for status (length (print body)) revision in
    let whole : bytes ≡ print_response head ++ print body = is ∙ short_text status body revision there in
    let counted : length bytes ≡ length (print_response head) + length (print body) =
    ap length whole ∙ length-append (print_response head) (print body) in
    let small : length (print body) < 2 ^ 64 = omega (arith, counted, fits) in record {
      head = head;
      valid = head_is status (length (print body)) revision known;
      headers = few_fields (length (print body)) revision;
      whole = whole;
      code = sym known.value;
      fits = subst (λ (d : Option Decimal). IsLength d (print body)) (sym (length_is (length (print body)) revision small)) refl;
    }

-- ---- the statuses

pub is_200 : IsStatus 200
unfolding digits
is_200 = record { three = refl; digits = refl; phrase = refl; value = refl }

pub is_403 : IsStatus 403
unfolding digits
is_403 = record { three = refl; digits = refl; phrase = refl; value = refl }

pub is_404 : IsStatus 404
unfolding digits
is_404 = record { three = refl; digits = refl; phrase = refl; value = refl }

pub is_400 : IsStatus 400
unfolding digits
is_400 = record { three = refl; digits = refl; phrase = refl; value = refl }

pub is_413 : IsStatus 413
unfolding digits
is_413 = record { three = refl; digits = refl; phrase = refl; value = refl }

pub is_501 : IsStatus 501
unfolding digits
is_501 = record { three = refl; digits = refl; phrase = refl; value = refl }
