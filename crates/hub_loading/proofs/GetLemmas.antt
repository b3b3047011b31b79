-- How the hub reads the ask for a user.
use Rattle.std.proofs.Common.{◌≡◌, ◌≢◌, ◌==◌, ◌+◌, ◌<◌, arith, nat_eq, nat_lt, ℕ, Bool, true, false, not, cond, List, [], ◌∷◌, ◌++◌, length, take, take_all, codes, All, Option, Some, None, Result, Ok, ok_or, append_assoc, if◌then◌else◌, refl, sym, ap, ◌∙◌, subst}
use Rattle.std.specs.List.{list_all, prefix_len, before_first, find, starts_with}
use Rattle.std.specs.Cmp.Lexicographic.{pointwise}
use Rattle.std.specs.Result.{result_ok}
use Rattle.std.proofs.lemmas.Bool.{lt-ltb}
use Rattle.std.proofs.lemmas.Bool.Decides.{nat_tests}
use Rattle.std.proofs.lemmas.List.Elements.{All-weaker}
use Rattle.std.proofs.lemmas.List.Splits.{slice_split_none}
use Rattle.std.proofs.lemmas.List.Sums.{AllPass-from_list_all}
use Rattle.std.proofs.lemmas.Str.{IsUtf8-from_ascii}
use Rattle.std.proofs.lemmas.Str.Ascii.{IsAscii-from_all}
use Rattle.percent_encoding.specs.Percent.{percent_decode}
use Rattle.percent_encoding.proofs.PercentLemmas.{percent_decode-nil, percent_decode_not_percent}
use Rattle.httparse.specs.Grammar.{is_uri_byte}
use Rattle.http_wire.specs.Target.{path_of as path_in}
use Rattle.http_wire.specs.declared.request.Request.{Request}
use Rattle.hub_kit.specs.Names.{IsName}
use Rattle.hub_kit.specs.declared.names.NameError.{NameError}
use Rattle.hub_kit.proofs.NameTexts.{server_of_name, name_is_text}
use Rattle.request_parts.specs.Names.{name_of}
use Rattle.request_parts.specs.Paths.{segment, read_in_path}
use Rattle.request_parts.specs.Steps.{◌>>=◌}
use Rattle.request_parts.proofs.Texts.{segment_is_text}
use Rattle.hub_paths.specs.Paths.{path_of, every_path, fits_part, segments, text_of}
use Rattle.hub_paths.specs.declared.paths.Path.{Path}
use Rattle.hub_paths.specs.declared.paths.Path.TheVariants.{User}
use Rattle.hub_api.specs.Calls.{call_read, call_of, asked, method_of}
use Rattle.hub_api.specs.Names.{read_at}
use Rattle.hub_api.specs.declared.refusal.ApiRefusal.{ApiRefusal}
use Rattle.hub_api.specs.declared.refusal.ApiRefusal.TheVariants.{BadName}
use Rattle.hub_machine.specs.declared.call.Asked.{Asked}
use Rattle.hub_machine.specs.declared.call.Call.{Call}
use Rattle.hub_machine.specs.declared.call.Call.TheVariants.{GetUser}
use Rattle.access_laws.specs.Asks.{IsTarget, get_text, get_of}
use Rattle.access_laws.proofs.Names.{EachByte, name_passes}
use Rattle.load_asks.specs.Numbers.{name}
use Rattle.load_asks.specs.Requests.{get_request, user_front}
use Rattle.hub_loading.proofs.BoolLemmas.{both_first, both_rest, off}

abbrev pub user_target : List ℕ → List ℕ
user_target user = codes "/hub/api/users/" ++ user

-- ---- its bytes

pub same_text : (token : List ℕ) (k : ℕ) → get_text (user_target (name k)) token ≡ get_request token k
same_text token k =
    let front : List ℕ = user_front (codes "GET") k in
    let header : List ℕ = codes " HTTP/1.1\r\nHost: hub\r\nAuthorization: token " in
    let last : List ℕ = codes "\r\nConnection: close\r\n\r\n" in
    ap (λ (t : List ℕ). t ++ last) (append_assoc front header token) ∙ append_assoc front (header ++ token) last

-- ---- the bytes of a name

pub visible : EachByte is_uri_byte
visible b h = grind (arith, nat_tests)

pub no_slash : EachByte (λ b. not (b == 47))
no_slash b h = grind (arith, nat_tests)

pub no_mark : EachByte (λ b. not (b == 63))
no_mark b h = grind (arith, nat_tests)

pub no_percent : EachByte (λ b. not (b == 37))
no_percent b h = grind (arith, nat_tests)

abbrev pub is_ascii : ℕ → Bool
is_ascii b = nat_lt b 128

pub ascii : EachByte is_ascii
ascii b h = grind (arith, nat_tests)

pub passes : (p : ℕ → Bool) (user : List ℕ) → EachByte p → IsName user → list_all p user ≡ true
passes p user each is = name_passes p each user (server_of_name user is)

pub some_bytes : (user : List ℕ) → IsName user → nat_lt 0 (length user) ≡ true
some_bytes [] is = absurd (cc is)
some_bytes (b ∷ bs) is = lt-ltb 0 (length (b ∷ bs)) (omega arith)

-- ---- the whole, where nothing stops it

all_prefix : (p : ℕ → Bool) (bs : List ℕ) → list_all p bs ≡ true → prefix_len p bs ≡ length bs
all_prefix p [] is = refl
all_prefix p (b ∷ bs) is =
    let rest : prefix_len p bs ≡ length bs = all_prefix p bs (both_rest (p b) (list_all p bs) is) in
    ap (λ (t : Bool). cond t (1 + prefix_len p bs) 0) (both_first (p b) (list_all p bs) is) ∙ omega (arith, rest)

pub whole_before : (p : ℕ → Bool) (bs : List ℕ) → list_all (λ b. not (p b)) bs ≡ true → before_first p bs ≡ bs
whole_before p bs is = ap (λ (n : ℕ). take n bs) (all_prefix (λ b. not (p b)) bs is) ∙ take_all (length bs) bs (omega arith)

not_percent : (b : ℕ) → not (b == 37) ≡ true → b ≢ 37
not_percent b test is = no (subst (λ (c : ℕ). not (c == 37) ≡ true) is test)
  where
    no : not (37 == 37) ≡ true → ⊥
    no e = cc e

pub undecoded : (bs : List ℕ) → list_all (λ b. not (b == 37)) bs ≡ true → percent_decode bs ≡ bs
undecoded [] is = percent_decode-nil
undecoded (b ∷ bs) is =
    percent_decode_not_percent b bs (not_percent b (both_first (not (b == 37)) (list_all (λ b. not (b == 37)) bs) is))
    ∙ ap (λ (t : List ℕ). b ∷ t) (undecoded bs (both_rest (not (b == 37)) (list_all (λ b. not (b == 37)) bs) is))

pub no_cut : (p : ℕ → Bool) (bs : List ℕ) → list_all (λ b. not (p b)) bs ≡ true → All (λ b. p b ≡ false) bs
no_cut p bs is = All-weaker (λ b. not (p b) ≡ true) (λ b. p b ≡ false) (λ b test. off (p b) test) bs (AllPass-from_list_all (λ b. not (p b)) bs is)

-- ---- the target

pub target_is : (user : List ℕ) → IsName user → IsTarget (user_target user)
target_is user is = record {
  path = refl;
  bytes = passes is_uri_byte user visible is;
  text = IsUtf8-from_ascii (user_target user)
      (IsAscii-from_all (user_target user)
      (All-weaker (λ b. is_ascii b ≡ true) (λ b. b < 128) (λ b good. grind (arith, nat_tests)) (user_target user)
      (AllPass-from_list_all is_ascii (user_target user) (passes is_ascii user ascii is))));
}

pub path_is : (user : List ℕ) → IsName user → path_in (user_target user) ≡ user_target user
path_is user is = whole_before (λ b. b == 63) (user_target user) (passes (λ b. not (b == 63)) user no_mark is)

-- the path, by whether the name has a byte
abbrev fitting : List ℕ → Bool → Option Path
fitting user t =
    find (λ path.
    pointwise (λ part segment. if starts_with nat_eq part (codes "{") then t else pointwise nat_eq part segment) (segments (text_of path))
    ([] ∷ codes "hub" ∷ codes "api" ∷ codes "users" ∷ user ∷ []))
    every_path

abbrev pub slash : ℕ → Bool
slash b = b == 47

cut_is : (user : List ℕ) → IsName user → segments (user_target user) ≡ [] ∷ codes "hub" ∷ codes "api" ∷ codes "users" ∷ user ∷ []
cut_is user is =
    ap (λ (parts : List (List ℕ)). [] ∷ codes "hub" ∷ codes "api" ∷ codes "users" ∷ parts)
    (slice_split_none slash user (no_cut slash user (passes (λ b. not (b == 47)) user no_slash is)))

pub named_is : (user : List ℕ) → IsName user → path_of (user_target user) ≡ Some User
unfolding path_of every_path
named_is user is =
    ap (λ (parts : List (List ℕ)). find (λ path. pointwise fits_part (segments (text_of path)) parts) every_path) (cut_is user is)
    ∙ ap (fitting user) (some_bytes user is)

pub read_is : (user : List ℕ) → IsName user → read_in_path name_of 4 (user_target user) ≡ Some user
unfolding segment
read_is user is =
    sym (segment_is_text name_of 4 (user_target user) user
    (sym (ap percent_decode (whole_before slash user (passes (λ b. not (b == 47)) user no_slash is)) ∙ undecoded user (passes (λ b. not (b == 37)) user no_percent is)))
    (name_is_text user (server_of_name user is)))
    ∙ ap (λ (r : Result (List ℕ) NameError). result_ok r) is

-- ---- the call

abbrev pub see : List ℕ → List ℕ → Asked
see token user = record { token = Some token; seen = None; call = GetUser user }

abbrev pub then_asked : Request → Result Call ApiRefusal → Result Asked ApiRefusal
then_asked q r = r >>= (λ call. Ok (asked q call))

abbrev then_get : Result (List ℕ) ApiRefusal → Result Call ApiRefusal
then_get r = r >>= (λ user. Ok (GetUser user))

pub call_is : (user token : List ℕ) → IsName user → call_read (get_of (user_target user) token) ≡ Ok (see token user)
unfolding call_read read_at method_of
call_is user token is =
    let q : Request = get_of (user_target user) token in
    ap (λ (p : List ℕ). then_asked q (call_of (path_of p) q)) (path_is user is)
    ∙ (ap (λ (o : Option Path). then_asked q (call_of o q)) (named_is user is)
    ∙ (ap (λ (p : List ℕ). then_asked q (then_get (ok_or (read_in_path name_of 4 p) (BadName 4)))) (path_is user is)
    ∙ ap (λ (o : Option (List ℕ)). then_asked q (then_get (ok_or o (BadName 4)))) (read_is user is)))
