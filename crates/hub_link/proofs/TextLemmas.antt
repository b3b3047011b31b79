-- The text of a reply by its length is one.
use Rattle.std.proofs.Common.{◌≡◌, ◌<◌, ◌≤◌, ◌^◌, arith, ℕ, zero, suc, ◌/◌, ◌%◌, ◌==◌, ◌&&◌, Bool, true, false, not, nat_lt, if◌then◌else◌, List, [], ◌∷◌, ◌++◌, length, map, reverse, decimal, codes, Option, Some, None, append_assoc, refl, sym, ap, ◌∙◌, subst}
use Rattle.std.specs.Char.{is_ascii_digit}
use Rattle.std.specs.Fmt.{digits, digits_onto, digit_glyph}
use Rattle.std.specs.List.{list_all}
use Rattle.std.specs.Str.Parse.{digits_value}
use Rattle.std.proofs.lemmas.List.Elements.{All-cons, All-nil}
use Rattle.std.proofs.lemmas.Bool.{lt-ltb, eqb-true, eqb-false}
use Rattle.std.proofs.lemmas.Fmt.{decimal_is_IsNumeral, decimal_nonempty}
use Rattle.std.proofs.lemmas.List.Sums.{AllPass-from_list_all, list_all-from_AllPass}
use Rattle.httparse.specs.Grammar.{Field, IsField, crlf, is_token_byte, is_value_byte, is_ows, skip_ows, trim_ows, ResponseHead, IsResponseHead, print_response}
use Rattle.std.proofs.lemmas.List.{append-nil}
use Rattle.httparse.proofs.TrimLemmas.{AllPass-reverse, trim_ows_space}
use Rattle.http_wire.specs.Decimal.{number_in}
use Rattle.http_wire.specs.Due.{number_said, length_said}
use Rattle.http_wire.specs.Head.{header_of}
use Rattle.http_wire.specs.declared.decimal.Decimal.{Decimal}
use Rattle.http_wire.specs.declared.decimal.Decimal.TheVariants.{Number, Past, Other}
use Rattle.hub_link.specs.Replies.{IsReply, IsLength}

-- ---- digits

all_both : (a b : Bool) → a ≡ true → b ≡ true → (a && b) ≡ true
all_both a b one two = rw one two

last_digit : (n : ℕ) → n % 10 < 10
last_digit n = omega arith

last_passes : (p : ℕ → Bool) (b : Bool) (xs ys : List ℕ) → list_all p xs ≡ true → list_all p ys ≡ true → list_all p (if b then xs else ys) ≡ true
last_passes p true xs ys one two = one
last_passes p false xs ys one two = two

digits_pass : (p : ℕ → Bool) → ((d : ℕ) → d < 10 → p (digit_glyph false d) ≡ true) → (k n : ℕ) (acc : List ℕ) → list_all p acc ≡ true
    → list_all p (digits_onto k 10 false n acc) ≡ true
digits_pass p each zero n acc is = is
digits_pass p each (suc k) n acc is =
    let more : list_all p (digit_glyph false (n % 10) ∷ acc) ≡ true =
    all_both (p (digit_glyph false (n % 10))) (list_all p acc) (each (n % 10) (last_digit n)) is in
    last_passes p (n / 10 == 0) (digit_glyph false (n % 10) ∷ acc) (digits_onto k 10 false (n / 10) (digit_glyph false (n % 10) ∷ acc)) more
    (digits_pass p each k (n / 10) (digit_glyph false (n % 10) ∷ acc) more)

-- a digit, which may stand in a value and is no blank
abbrev is_plain : ℕ → Bool
is_plain b = is_ascii_digit b && (is_value_byte b && not (is_ows b))

plain_glyph : (d : ℕ) → d < 10 → is_plain (digit_glyph false d) ≡ true
plain_glyph zero h = refl
plain_glyph (suc zero) h = refl
plain_glyph (suc (suc zero)) h = refl
plain_glyph (suc (suc (suc zero))) h = refl
plain_glyph (suc (suc (suc (suc zero)))) h = refl
plain_glyph (suc (suc (suc (suc (suc zero))))) h = refl
plain_glyph (suc (suc (suc (suc (suc (suc zero)))))) h = refl
plain_glyph (suc (suc (suc (suc (suc (suc (suc zero))))))) h = refl
plain_glyph (suc (suc (suc (suc (suc (suc (suc (suc zero)))))))) h = refl
plain_glyph (suc (suc (suc (suc (suc (suc (suc (suc (suc zero))))))))) h = refl
plain_glyph (suc (suc (suc (suc (suc (suc (suc (suc (suc (suc d)))))))))) h = absurd (omega (arith, h))

decimal_plain : (n : ℕ) → list_all is_plain (decimal n) ≡ true
unfolding digits
decimal_plain n = digits_pass is_plain plain_glyph 64 n [] refl

both_first : (x y : Bool) → (x && y) ≡ true → x ≡ true
both_first true y is = refl
both_first false y is = is

both_rest : (x y : Bool) → (x && y) ≡ true → y ≡ true
both_rest true y is = is
both_rest false y is = absurd (cc is)

off : (x : Bool) → not x ≡ true → x ≡ false
off true is = cc is
off false is = refl

all_as : (p q : ℕ → Bool) → ((b : ℕ) → p b ≡ true → q b ≡ true) → (bytes : List ℕ) → list_all p bytes ≡ true → list_all q bytes ≡ true
all_as p q each [] is = is
all_as p q each (b ∷ bs) is =
    all_both (q b) (list_all q bs) (each b (both_first (p b) (list_all p bs) is)) (all_as p q each bs (both_rest (p b) (list_all p bs) is))

is_digit : (b : ℕ) → is_plain b ≡ true → is_ascii_digit b ≡ true
is_digit b is = both_first (is_ascii_digit b) (is_value_byte b && not (is_ows b)) is

is_value : (b : ℕ) → is_plain b ≡ true → is_value_byte b ≡ true
is_value b is = both_first (is_value_byte b) (not (is_ows b)) (both_rest (is_ascii_digit b) (is_value_byte b && not (is_ows b)) is)

is_dark : (b : ℕ) → is_plain b ≡ true → is_ows b ≡ false
is_dark b is =
    off (is_ows b) (both_rest (is_value_byte b) (not (is_ows b)) (both_rest (is_ascii_digit b) (is_value_byte b && not (is_ows b)) is))

unblank : (bytes : List ℕ) → list_all is_plain bytes ≡ true → skip_ows bytes ≡ bytes
unblank [] is = refl
unblank (b ∷ bs) is =
    ap (λ (t : Bool). if t then skip_ows bs else b ∷ bs) (is_dark b (both_first (is_plain b) (list_all is_plain bs) is))

trimmed : (n : ℕ) → trim_ows (32 ∷ decimal n) ≡ decimal n
trimmed n =
    trim_ows_space (decimal n) (unblank (decimal n) (decimal_plain n))
    (unblank (reverse (decimal n))
    (list_all-from_AllPass is_plain (reverse (decimal n))
    (AllPass-reverse is_plain (decimal n) (AllPass-from_list_all is_plain (decimal n) (decimal_plain n)))))

number_is : (n : ℕ) → n < 2 ^ 64 → number_in (decimal n) ≡ Number n
number_is n small =
    let numeral = decimal_is_IsNumeral n small in
    ap (λ (t : Bool). if t then (if nat_lt (digits_value 10 (decimal n)) (2 ^ 64) then Number (digits_value 10 (decimal n)) else Past) else Other)
    (all_both (nat_lt 0 (length (decimal n))) (list_all is_ascii_digit (decimal n)) (lt-ltb 0 (length (decimal n)) (decimal_nonempty n small))
    (all_as is_plain is_ascii_digit is_digit (decimal n) (decimal_plain n)))
    ∙ (ap (λ (m : ℕ). if nat_lt m (2 ^ 64) then Number m else Past) numeral.1
    ∙ ap (λ (t : Bool). if t then Number n else Past) (lt-ltb n (2 ^ 64) small))

-- from 100 to 999 a number has three digits
three_digits : (n : ℕ) (a b c : Bool) → (n / 10 == 0) ≡ a → (n / 10 / 10 == 0) ≡ b → (n / 10 / 10 / 10 == 0) ≡ c → a ≡ false → b ≡ false → c ≡ true
    → length (decimal n) ≡ 3
unfolding digits
three_digits n a b c one two three isa isb isc = rw one (rw isa (rw two (rw isb (rw three (rw isc refl)))))

off_if : (b : Bool) (n : ℕ) → (n == 0) ≡ b → 0 < n → b ≡ false
off_if true n is some = absurd (omega (arith, eqb-true n 0 is, some))
off_if false n is some = refl

on_if : (b : Bool) (n : ℕ) → (n == 0) ≡ b → n ≡ 0 → b ≡ true
on_if true n is none = refl
on_if false n is none = absurd (eqb-false n 0 is none)

has_three : (n : ℕ) → 100 ≤ n → n < 1000 → length (decimal n) ≡ 3
has_three n least most =
    three_digits n (n / 10 == 0) (n / 10 / 10 == 0) (n / 10 / 10 / 10 == 0) refl refl refl (off_if _ (n / 10) refl (omega (arith, least)))
    (off_if _ (n / 10 / 10) refl (omega (arith, least))) (on_if _ (n / 10 / 10 / 10) refl (omega (arith, most)))

-- ---- the head

abbrev size_field : ℕ → Field
size_field size = record { name = codes "Content-Length"; raw = 32 ∷ decimal size; end = crlf }

abbrev head_for : ℕ → ℕ → ResponseHead
head_for status size = record {
  blank = [];
  minor = 1;
  digits = decimal status;
  reason = None;
  line_end = crlf;
  fields = size_field size ∷ [];
  last = crlf;
}

size_is : (size : ℕ) → IsField (size_field size)
unfolding is_token_byte
size_is size = record {
  name = (omega arith, AllPass-from_list_all is_token_byte (codes "Content-Length") refl);
  raw = AllPass-from_list_all is_value_byte (32 ∷ decimal size) (all_as is_plain is_value_byte is_value (decimal size) (decimal_plain size));
}

head_is : (status size : ℕ) → 100 ≤ status → status < 1000 → IsResponseHead (head_for status size)
head_is status size least most = record {
  minor = omega arith;
  digits = (
    has_three status least most,
    AllPass-from_list_all is_ascii_digit (decimal status) (all_as is_plain is_ascii_digit is_digit (decimal status) (decimal_plain status)),
  );
  reason = AllPass-from_list_all is_value_byte [] refl;
  fields = All-cons IsField (size_field size) [] (size_is size) (All-nil IsField);
}

-- the bytes of such a reply
abbrev pub text_of : ℕ → List ℕ → List ℕ
text_of status body =
    ((((codes "HTTP/1.1 " ++ decimal status) ++ codes "\r\nContent-Length: ") ++ decimal (length body)) ++ codes "\r\n\r\n") ++ body

arranged : (v d w n e body : List ℕ) → (((((v ++ d) ++ (e ++ w)) ++ n) ++ (e ++ e)) ++ body) ≡ ((((v ++ d) ++ []) ++ e) ++ (((w ++ (n ++ e)) ++ []) ++ e)) ++ body
arranged v d w n e body = simp (append_assoc, append-nil) refl

whole : (status : ℕ) (body : List ℕ) → text_of status body ≡ print_response (head_for status (length body)) ++ body
unfolding print_response
whole status body = arranged (codes "HTTP/1.1 ") (decimal status) (codes "Content-Length: ") (decimal (length body)) (13 ∷ 10 ∷ []) body

length_is : (size : ℕ) → size < 2 ^ 64 → length_said (map header_of (size_field size ∷ [])) ≡ Some (Number size)
length_is size small = ap (λ (v : List ℕ). number_said (v ∷ [])) (trimmed size) ∙ ap (λ (d : Decimal). Some d) (number_is size small)

-- one piece more of a text
pub piece_more : (text before piece built : List ℕ) → text ≡ before ++ piece → before ≡ built → text ≡ built ++ piece
piece_more text before piece built is was = is ∙ ap (λ (x : List ℕ). x ++ piece) was

pub text_is : (status : ℕ) (body text : List ℕ) → 100 ≤ status → status < 1000 → length body < 2 ^ 64 → text ≡ text_of status body → IsReply text status body
text_is status body text least most small is = record {
  head = head_for status (length body);
  valid = head_is status (length body) least most;
  headers = omega arith;
  whole = is ∙ whole status body;
  code = sym (decimal_is_IsNumeral status (omega (arith, most))).1;
  fits = subst (λ (d : Option Decimal). IsLength d body) (sym (length_is (length body) small)) refl;
}
