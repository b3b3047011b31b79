-- The text of a target reads as itself.
use Rattle.std.proofs.Common.{◌≡◌, ℕ, ◌+◌, ◌-◌, ◌^◌, ◌<◌, Bool, true, false, cond, not, ltb, ◌&&◌, ◌||◌, ◌==◌, List, [], ◌∷◌, ◌++◌, length, take, drop, Some, None, Ok, Err, All, sym, refl, ap, ◌∙◌, subst, inr, append_assoc, append-nil, arith, length-append, take_all, take_at, drop_at, lit<, lt-ltb}
use Rattle.std.specs.Prelude.{Option, codes, decimal, reverse, unwrap_or, option_map}
use Rattle.std.specs.List.{prefix_len}
use Rattle.std.specs.Char.{is_ascii_digit}
use Rattle.std.specs.Int.{IsInRange}
use Rattle.std.proofs.lemmas.Bool.{cond-false, lt-leb, and_parts, and_left}
use Rattle.std.proofs.lemmas.Bool.Decides.{nat_tests}
use Rattle.std.proofs.lemmas.List.{get_or-reverse, length-reverse, drop_all}
use Rattle.std.proofs.lemmas.List.Elements.{All-nil, All-cons, All-append, All-weaker, All-from_get_or}
use Rattle.std.proofs.lemmas.Slice.Eq.{bytes_eq-Decides}
use Rattle.std.proofs.lemmas.Str.{IsUtf8-from_ascii}
use Rattle.std.proofs.lemmas.Str.Ascii.{IsAscii-from_all}
use Rattle.std.proofs.lemmas.Fmt.{decimal_is_IsNumeral}
use Rattle.percent_encoding.proofs.PercentLemmas.{percent_encode-nil}
use Rattle.url.specs.declared.sets.TheConstants.{USERINFO, PATH}
use Rattle.url.specs.declared.error.ParseError.TheVariants.{EmptyHost}
use Rattle.url.specs.declared.host.Host.{Host}
use Rattle.url.specs.declared.host.Host.TheVariants.{Domain, Ipv4, Ipv6}
use Rattle.url.specs.declared.scheme.SchemeType.TheVariants.{SpecialNotFile}
use Rattle.url.specs.Input.{is_c0_control_or_space, is_tab_or_new_line, trim_c0_control_and_space, strip_tabs_and_new_lines, split_once}
use Rattle.url.specs.Scheme.{IsScheme, scheme_type, default_port, scheme_len, is_special, is_slash}
use Rattle.url.specs.Host.{parse_host, host_text, is_empty_host, IsHostOf}
use Rattle.url.specs.Path.{parse_path_start, segment_len, push_segment, dot_count, parse_segments}
use Rattle.url.specs.Parts.{Parts, kind_of, host_or_empty, IsPortOf, IsValid}
use Rattle.url.specs.Head.{with_authority}
use Rattle.url.specs.Parser.{Parsed, and_then, lacks_host, split_port, parse_port, without_default_port, parse_authority, skip_slashes, after_double_slash, with_path, parse_body, with_tail, before_tail, parse_parts, parse_by_scheme, split_scheme, parse_url}
use Rattle.url.proofs.InputLemmas.{IsNot, Passes, StopsAt, split_once_none, rsplit_once_none, prefix_len_at, filter_all, list_all_from_All, All_from_list_all, is_empty_nonempty}
use Rattle.url.proofs.HostRoundTrip.{IsHostByte, host_text_plain, parse_special_host-host_text, host_len-host_text, All-decimal}
use Rattle.url.proofs.RoundTrip.{split_own_scheme, host_nonempty}
use Rattle.url.proofs.SetterLemmas.{own_host, host_is_some}
use Rattle.url.proofs.ValidLemmas.{special_has_authority}
use Rattle.hub_kit.proofs.TargetLemmas.{target_of_parsed}
use Rattle.hub_kit.specs.Targets.{port_of, is_a_target, target_text, IsTarget}

abbrev pub http : List ℕ
http = 104 ∷ 116 ∷ 116 ∷ 112 ∷ []

-- the host, the `:` and the port
abbrev pub authority : Host (List ℕ) → ℕ → List ℕ
authority host port = host_text host ++ 58 ∷ decimal port

abbrev pub text : Host (List ℕ) → ℕ → List ℕ
text host port = http ++ 58 ∷ 47 ∷ 47 ∷ authority host port

-- ---- its bytes

-- a visible ASCII byte that begins neither a fragment nor a query
abbrev is_plain : ℕ → Bool
is_plain b = ltb 32 b && ltb b 127 && not (b == 35 || b == 63)

abbrev IsPlain : ℕ → Type 0
IsPlain b = is_plain b ≡ true

plain_host_byte : (b : ℕ) → IsHostByte b → IsPlain b
plain_host_byte b h =
    let above = h.above in
    let below = h.below in
    let hash = h.no_hash in
    let question = h.no_question in
    grind (arith, nat_tests)

above_space : (b : ℕ) → IsPlain b → 32 < b
above_space b h = grind (arith, nat_tests)

digit_byte : (b : ℕ) → IsInRange 48 57 b → IsHostByte b
digit_byte b digit = record { above = omega arith; below = omega arith; no_hash = λ e. omega arith; no_slash = λ e. omega arith; no_question = λ e. omega arith; no_at = λ e. omega arith; no_backslash = λ e. omega arith }

colon_byte : IsHostByte 58
colon_byte = record { above = omega arith; below = omega arith; no_hash = λ e. omega arith; no_slash = λ e. omega arith; no_question = λ e. omega arith; no_at = λ e. omega arith; no_backslash = λ e. omega arith }

authority_bytes : (host : Host (List ℕ)) (port : ℕ) → IsHostOf SpecialNotFile host → port < 2 ^ 16 → All IsHostByte (authority host port)
authority_bytes host port valid fits =
    All-append IsHostByte (host_text host) (58 ∷ decimal port) (host_text_plain SpecialNotFile host valid)
    (All-cons IsHostByte 58 (decimal port) colon_byte (All-weaker (IsInRange 48 57) IsHostByte digit_byte (decimal port) (All-decimal port (omega arith))))

text_bytes : (host : Host (List ℕ)) (port : ℕ) → IsHostOf SpecialNotFile host → port < 2 ^ 16 → All IsPlain (text host port)
text_bytes host port valid fits =
    let rest = All-weaker IsHostByte IsPlain plain_host_byte (authority host port) (authority_bytes host port valid fits) in
    let front = All_from_list_all is_plain (http ++ 58 ∷ 47 ∷ 47 ∷ []) refl in
    All-append IsPlain (http ++ 58 ∷ 47 ∷ 47 ∷ []) (authority host port) front rest

-- ---- nothing is trimmed, stripped or cut off

none_at_front : (xs : List ℕ) → All IsPlain xs → prefix_len is_c0_control_or_space xs ≡ 0
none_at_front [] each = refl
none_at_front (x ∷ xs) each = cond-false _ _ _ (lt-leb x 32 (above_space x (each 0 0 (omega arith))))

reversed : (xs : List ℕ) → All IsPlain xs → All IsPlain (reverse xs)
reversed xs each =
    All-from_get_or IsPlain (reverse xs) 0 (λ i inside.
    let len = length-reverse xs in
    let within : i < length xs = omega arith in
    subst IsPlain (sym (get_or-reverse xs i 0 within)) (each (length xs - 1 - i) 0 (omega arith)))

untrimmed : (xs : List ℕ) → All IsPlain xs → trim_c0_control_and_space xs ≡ xs
unfolding trim_c0_control_and_space
untrimmed xs each =
    let start = none_at_front xs each in
    let end = none_at_front (reverse xs) (reversed xs each) in
    rw (start, end) (take_all _ xs (omega arith))

unstripped : (xs : List ℕ) → All IsPlain xs → strip_tabs_and_new_lines xs ≡ xs
unfolding strip_tabs_and_new_lines
unstripped xs each =
    filter_all _ xs (All-weaker IsPlain (Passes (λ b. not (is_tab_or_new_line b))) (λ b h. let above = above_space b h in grind (arith, nat_tests)) xs each)

-- ---- the authority

port_reads : (port : ℕ) → port < 2 ^ 16 → parse_port http (decimal port) ≡ Ok (without_default_port http (Some port))
unfolding parse_port
port_reads port fits =
    let small : port < 2 ^ 64 = omega arith in
    let numeral = (decimal_is_IsNumeral port small).0 in
    let value = (decimal_is_IsNumeral port small).1 in
    let digits = list_all_from_All is_ascii_digit (decimal port) (All-weaker (IsInRange 48 57) (Passes is_ascii_digit) (λ b h. grind (arith, nat_tests)) (decimal port) (All-decimal port small)) in
    rw (is_empty_nonempty (decimal port) numeral.0, digits, value, lt-ltb port _ fits)

port_splits : (host : Host (List ℕ)) (port : ℕ) → IsHostOf SpecialNotFile host → split_port (authority host port) ≡ (host_text host, Some (decimal port))
port_splits host port valid =
    let front = host_text host in
    let rest = decimal port in
    let len = host_len-host_text SpecialNotFile host (58 ∷ rest) valid (inr refl) in
    let long : ltb (length front) (length (front ++ 58 ∷ rest)) ≡ true = simp length-append (grind (arith, nat_tests)) in
    let after = ap (drop (length front + 1)) (sym (append_assoc front (58 ∷ []) rest)) ∙ drop_at (front ++ 58 ∷ []) rest _ (length-append front (58 ∷ [])) in
    rw (len, long) (λ i. (take_at front (58 ∷ rest) _ refl i, Some (after i)))

abbrev pub head_of : Host (List ℕ) → ℕ → Parts
head_of host port = with_authority http [] [] host (without_default_port http (Some port))

pub authority_reads : (host : Host (List ℕ)) (port : ℕ) → IsHostOf SpecialNotFile host → port < 2 ^ 16 → parse_authority http (authority host port) ≡ Ok (head_of host port)
unfolding parse_authority split_once scheme_type default_port
authority_reads host port valid fits =
    let bytes = authority host port in
    let each = All-weaker IsHostByte (IsNot 64) (λ b h. h.no_at) bytes (authority_bytes host port valid fits) in
    let at = rsplit_once_none 64 bytes each in
    let cut = ap (λ r. split_port r.1) at ∙ port_splits host port valid in
    let user = ap (λ r. split_once 58 (unwrap_or r.0 [])) at in
    let some = is_empty_nonempty (host_text host) (host_nonempty host valid) in
    let head : List ℕ → Option (List ℕ) → Host (List ℕ) → Option ℕ → Parsed Parts = λ name password h p. Ok (with_authority http name (unwrap_or password []) h p) in
    (λ i. cond (lacks_host (at i).0 (cut i).0 (cut i).1) (Err EmptyHost) (and_then (parse_host SpecialNotFile (cut i).0) (λ h. and_then (parse_port http (unwrap_or (cut i).1 [])) (head (user i).0 (user i).1 h))))
    ∙ cond-false _ (Err EmptyHost) _ (and_left _ _ some)
    ∙ ap (λ r. and_then r (λ h. and_then (parse_port http (decimal port)) (head [] None h))) (parse_special_host-host_text host valid)
    ∙ ap (λ r. and_then r (head [] None host)) (port_reads port fits)

-- ---- the whole

http_scheme : IsScheme http
unfolding scheme_len
http_scheme = record { nonempty = lit< tt; whole = refl; lower = refl }

abbrev slashed : Host (List ℕ) → ℕ → List ℕ
slashed host port = 47 ∷ 47 ∷ authority host port

slashes_skipped : (host : Host (List ℕ)) (port : ℕ) → IsHostOf SpecialNotFile host → port < 2 ^ 16 → skip_slashes (slashed host port) ≡ authority host port
slashes_skipped host port valid fits =
    let test = λ (b : ℕ). b == 47 || b == 92 in
    let nonempty : 0 < length (authority host port) = simp length-append (omega arith) in
    let each = authority_bytes host port valid fits in
    let none : (xs : List ℕ) → All IsHostByte xs → StopsAt test xs = λ xs. elim xs as (λ (ys : List ℕ). All IsHostByte ys → StopsAt test ys) [ [] ↦ λ h. tt | b ∷ bs ↦ λ h. let slash = (h 0 0 (omega arith)).no_slash in let back = (h 0 0 (omega arith)).no_backslash in grind (arith, nat_tests) ] in
    let len = prefix_len_at test (47 ∷ 47 ∷ []) (authority host port) (All-cons (Passes test) 47 (47 ∷ []) refl (All-cons (Passes test) 47 [] refl (All-nil (Passes test)))) (none (authority host port) each) in
    ap (λ n. drop n (slashed host port)) len

abbrev pub url_of : Host (List ℕ) → ℕ → Parts
url_of host port = with_path (head_of host port) (47 ∷ [])

body_reads : (host : Host (List ℕ)) (port : ℕ) → IsHostOf SpecialNotFile host → port < 2 ^ 16 → after_double_slash http (authority host port) ≡ Ok (url_of host port)
unfolding after_double_slash parse_path_start scheme_type default_port parse_segments push_segment dot_count
body_reads host port valid fits =
    let test = λ (b : ℕ). not (is_slash SpecialNotFile b) in
    let each = All-weaker IsHostByte (Passes test) (λ b h. let slash = h.no_slash in let back = h.no_backslash in grind (arith, nat_tests)) (authority host port) (authority_bytes host port valid fits) in
    let len : segment_len SpecialNotFile (authority host port) ≡ length (authority host port) = ap (segment_len SpecialNotFile) (sym (append-nil (authority host port))) ∙ prefix_len_at test (authority host port) [] each tt in
    let bytes = authority host port in
    let front = take_all (length bytes) bytes (omega arith) in
    let back = drop_all (length bytes) bytes (omega arith) in
    let rest : List ℕ → List ℕ → Parsed Parts = λ xs ys. and_then (parse_authority http xs) (λ head. Ok (with_path head (parse_path_start SpecialNotFile [] ys))) in
    ap (λ n. rest (take n bytes) (drop n bytes)) len ∙ (λ i. rest (front i) (back i)) ∙ ap (λ r. and_then r (λ head. Ok (with_path head (parse_path_start SpecialNotFile [] [])))) (authority_reads host port valid fits)
    ∙ ap (λ path. Ok (with_path (head_of host port) (47 ∷ path))) (percent_encode-nil PATH)

reads : (host : Host (List ℕ)) (port : ℕ) → IsHostOf SpecialNotFile host → port < 2 ^ 16 → parse_url None (text host port) ≡ Ok (url_of host port)
unfolding parse_url parse_parts parse_body scheme_type default_port
reads host port valid fits =
    let bytes = text host port in
    let each = text_bytes host port valid fits in
    let clean = ap strip_tabs_and_new_lines (untrimmed bytes each) ∙ unstripped bytes each in
    let hash = ap (split_once 35) clean ∙ split_once_none 35 bytes (All-weaker IsPlain (IsNot 35) (λ b h e. grind (arith, nat_tests)) bytes each) in
    let question = ap (λ r. split_once 63 r.0) hash ∙ split_once_none 63 bytes (All-weaker IsPlain (IsNot 63) (λ b h e. grind (arith, nat_tests)) bytes each) in
    let scheme = ap (λ r. split_scheme r.0) question ∙ split_own_scheme http (slashed host port) http_scheme in
    let body = ap (after_double_slash http) (slashes_skipped host port valid fits) ∙ body_reads host port valid fits in
    (λ i. parse_by_scheme (scheme i) None (question i).0 (question i).1 (hash i).1)
    ∙ ap (λ r. and_then r (λ url. Ok (with_tail (before_tail url None None) None None))) body

kept_port : (port : ℕ) → unwrap_or (without_default_port http (Some port)) 80 ≡ port
unfolding default_port
kept_port port = grind (arith, nat_tests)

not_empty : (host : Host (List ℕ)) → IsHostOf SpecialNotFile host → is_empty_host host ≡ false
not_empty (Domain domain) valid = is_empty_nonempty domain valid.1
not_empty (Ipv4 address) valid = refl
not_empty (Ipv6 address) valid = refl

fits_target : (host : Host (List ℕ)) (port : ℕ) → 0 < port → is_a_target (url_of host port) ≡ true
fits_target host port positive =
    rw (percent_encode-nil USERINFO, kept_port port) (grind (arith, nat_tests))

-- the text of a target, by its host and its port
spelled : (own : Host (List ℕ)) (host : Option (Host (List ℕ))) (port kept : ℕ) → IsHostOf SpecialNotFile own → host ≡ Some own → kept ≡ port → codes "http://" ++ unwrap_or (option_map host_text (cond (not (is_empty_host own)) host None)) [] ++ codes ":" ++ decimal kept ≡ text own port
spelled own host port kept valid some same =
    (λ i. codes "http://" ++ unwrap_or (option_map host_text (cond (not (not_empty own valid i)) (some i) None)) [] ++ codes ":" ++ decimal (same i))
    ∙ ap (λ xs. http ++ 58 ∷ 47 ∷ 47 ∷ xs) (append_assoc (host_text own) (58 ∷ []) (decimal port))

pub is_target : (host : Host (List ℕ)) (port : ℕ) → IsHostOf SpecialNotFile host → 0 < port → port < 2 ^ 16 → IsTarget (text host port)
is_target host port valid positive fits =
    let ascii = All-weaker IsPlain (λ b. b < 128) (λ b h. grind (arith, nat_tests)) (text host port) (text_bytes host port valid fits) in
    let utf8 = IsUtf8-from_ascii (text host port) (IsAscii-from_all (text host port) ascii) in
    target_of_parsed (text host port) (url_of host port) utf8 (reads host port valid fits) (fits_target host port positive) ∙ ap Some (spelled host (Some host) port _ valid refl (kept_port port))

-- ---- the text of a URL that is a target's

port_fits : (scheme : List ℕ) (port : Option ℕ) → IsPortOf scheme port → unwrap_or port 80 < 2 ^ 16
port_fits scheme None valid = omega arith
port_fits scheme (Some n) valid = valid.0

pub target_reads : (url : Parts) → IsValid url → is_a_target url ≡ true → IsTarget (target_text url)
unfolding scheme_type default_port
target_reads url valid fits =
    let parts6 = and_parts _ _ fits in
    let parts5 = and_parts _ _ parts6.0 in
    let parts4 = and_parts _ _ parts5.0 in
    let parts3 = and_parts _ _ parts4.0 in
    let parts2 = and_parts _ _ parts3.0 in
    let parts1 = and_parts _ _ parts2.0 in
    let scheme : url.scheme ≡ http = (bytes_eq-Decides url.scheme http).0 parts1.0 in
    let kind : kind_of url ≡ SpecialNotFile = ap scheme_type scheme in
    let port = port_of url in
    let positive : 0 < port = grind (arith, nat_tests) in
    let authority = special_has_authority url valid.head (ap is_special kind) in
    let host = host_or_empty url in
    let is_host = subst (λ k. IsHostOf k host) kind (own_host url valid.head authority) in
    let same : target_text url ≡ text host port = spelled host url.host port port is_host (host_is_some url authority) refl in
    subst IsTarget (sym same) (is_target host port is_host positive (port_fits url.scheme url.port valid.head.port))
