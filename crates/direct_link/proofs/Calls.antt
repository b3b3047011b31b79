-- The call that a guard asks.
use Rattle.std.proofs.Common.{◌≡◌, ◌==◌, ◌<◌, ◌&&◌, arith, nat_lt, ℕ, Bool, true, false, not, List, [], ◌∷◌, ◌++◌, length, map, filter, bytes_eq, codes, All, Option, Some, None, Result, Ok, IsUtf8, option_map, ok_or, if◌then◌else◌, refl, ap, ◌∙◌, subst}
use Rattle.std.specs.List.{list_all}
use Rattle.std.specs.Result.{result_ok}
use Rattle.std.specs.Str.Lossy.{utf8_lossy}
use Rattle.std.proofs.lemmas.Bool.{lt-ltb}
use Rattle.std.proofs.lemmas.Bool.Decides.{nat_tests}
use Rattle.std.proofs.lemmas.List.Elements.{All-weaker}
use Rattle.std.proofs.lemmas.List.Sums.{AllPass-from_list_all}
use Rattle.std.proofs.lemmas.Str.{utf8_lossy-IsUtf8, IsUtf8-from_ascii}
use Rattle.std.proofs.lemmas.Str.Ascii.{IsAscii-from_all}
use Rattle.form_urlencoded.specs.Form.{IsPlain, split, raw_pairs, onto_first, split_pair, is_nonempty}
use Rattle.form_urlencoded.proofs.FormLemmas.{decode_plain}
use Rattle.http_wire.specs.Target.{query_of}
use Rattle.http_wire.specs.declared.request.Request.{Request}
use Rattle.access_laws.specs.Asks.{get_of, access_target}
use Rattle.access_laws.proofs.Names.{EachByte, key_passes}
use Rattle.hub_api.specs.Calls.{call_read, asked, method_of}
use Rattle.hub_api.specs.Queries.{server_in, server_of}
use Rattle.hub_api.specs.Readings.{get_identity}
use Rattle.hub_api.specs.declared.refusal.ApiRefusal.{ApiRefusal}
use Rattle.hub_api.specs.declared.refusal.ApiRefusal.TheVariants.{BadQuery}
use Rattle.hub_kit.specs.Names.{IsName, IsServerName}
use Rattle.hub_kit.specs.declared.names.NameError.{NameError}
use Rattle.hub_kit.specs.declared.names.ServerKey.{ServerKey}
use Rattle.hub_kit.proofs.NameTexts.{key_reads}
use Rattle.hub_machine.specs.declared.call.Asked.{Asked}
use Rattle.hub_machine.specs.declared.call.Call.TheVariants.{GetIdentity}
use Rattle.hub_paths.specs.Paths.{path_of, every_path}
use Rattle.request_parts.specs.Queries.{query_value, value_of, text_of}
use Rattle.request_parts.specs.Steps.{◌>>=◌}
use Rattle.direct_link.proofs.Judging.{ask}

-- ---- bytes that stand for themselves

abbrev is_plain : ℕ → Bool
is_plain b = not (b == 43) && not (b == 37)

abbrev is_ascii : ℕ → Bool
is_ascii b = nat_lt b 128

abbrev is_joined : ℕ → Bool
is_joined b = not (b == 38)

plain_byte : EachByte is_plain
plain_byte b h = grind (arith, nat_tests)

ascii_byte : EachByte is_ascii
ascii_byte b h = grind (arith, nat_tests)

joined_byte : EachByte is_joined
joined_byte b h = grind (arith, nat_tests)

no_plus : is_plain 43 ≡ true → ⊥
no_plus is = cc is

no_percent : is_plain 37 ≡ true → ⊥
no_percent is = cc is

plain_is : (b : ℕ) → is_plain b ≡ true → IsPlain b
plain_is b h = (
  λ is. no_plus (subst (λ (c : ℕ). is_plain c ≡ true) is h),
  λ is. no_percent (subst (λ (c : ℕ). is_plain c ≡ true) is h),
)

all_plain : (bytes : List ℕ) → list_all is_plain bytes ≡ true → All IsPlain bytes
all_plain bytes is = All-weaker (λ b. is_plain b ≡ true) IsPlain (λ b h. plain_is b h) bytes (AllPass-from_list_all is_plain bytes is)

all_text : (bytes : List ℕ) → list_all is_ascii bytes ≡ true → IsUtf8 bytes
all_text bytes is =
    IsUtf8-from_ascii bytes (IsAscii-from_all bytes
    (All-weaker (λ b. is_ascii b ≡ true) (λ b. b < 128) (λ b good. grind (arith, nat_tests)) bytes (AllPass-from_list_all is_ascii bytes is)))

text_is : (bytes : List ℕ) → list_all is_plain bytes ≡ true → list_all is_ascii bytes ≡ true → text_of bytes ≡ bytes
text_is bytes plain ascii = ap utf8_lossy (decode_plain bytes (all_plain bytes plain)) ∙ utf8_lossy-IsUtf8 bytes (all_text bytes ascii)

-- ---- the query

both_first : (x y : Bool) → (x && y) ≡ true → x ≡ true
both_first true y is = refl
both_first false y is = is

both_rest : (x y : Bool) → (x && y) ≡ true → y ≡ true
both_rest true y is = is
both_rest false y is = absurd (cc is)

off : (x : Bool) → not x ≡ true → x ≡ false
off true is = cc is
off false is = refl

one_piece : (bytes : List ℕ) → list_all is_joined bytes ≡ true → split 38 bytes ≡ bytes ∷ []
unfolding split
one_piece [] is = refl
one_piece (b ∷ bs) is =
    ap (λ (t : Bool). if t then [] ∷ split 38 bs else onto_first b (split 38 bs)) (off (b == 38) (both_first (is_joined b) (list_all is_joined bs) is))
    ∙ ap (onto_first b) (one_piece bs (both_rest (is_joined b) (list_all is_joined bs) is))

abbrev key_text : ServerKey → List ℕ
key_text key = key.user ++ codes "/" ++ key.server

abbrev query : ServerKey → List ℕ
query key = codes "for=" ++ key_text key

kept : (bytes : List ℕ) → 0 < length bytes → filter is_nonempty (bytes ∷ []) ≡ bytes ∷ []
kept bytes some = ap (λ (t : Bool). if t then bytes ∷ [] else []) (lt-ltb 0 (length bytes) some)

one_pair : (key : ServerKey) → IsName key.user → IsServerName key.server → raw_pairs (query_of (access_target key)) ≡ (codes "for", key_text key) ∷ []
unfolding raw_pairs split
one_pair key user server =
    ap (λ pieces. map split_pair (filter is_nonempty (onto_first 102 (onto_first 111 (onto_first 114 (onto_first 61 pieces))))))
    (one_piece (key_text key) (key_passes is_joined joined_byte key refl user server))
    ∙ ap (map split_pair) (kept (query key) (omega arith))

server_said : (key : ServerKey) → IsName key.user → IsServerName key.server → query_value (codes "for") (query_of (access_target key)) ≡ Some (key_text key)
unfolding query_value
server_said key user server =
    ap (λ pairs. value_of (codes "for") pairs) (one_pair key user server)
    ∙ (ap (λ (t : List ℕ). if bytes_eq t (codes "for") then Some (text_of (key_text key)) else None) (text_is (codes "for") refl refl)
    ∙ ap (λ (t : List ℕ). Some t)
    (text_is (key_text key) (key_passes is_plain plain_byte key refl user server) (key_passes is_ascii ascii_byte key refl user server)))

server_is : (key : ServerKey) → IsName key.user → IsServerName key.server → server_in (query_value (codes "for") (query_of (access_target key))) ≡ Ok (Some key)
server_is key user server =
    ap server_in (server_said key user server)
    ∙ ap (λ (r : Result ServerKey NameError). ok_or (option_map (λ (k : ServerKey). Some k) (result_ok r)) BadQuery) (key_reads key.user key.server user server)

abbrev then_asked : Request → Result (Option ServerKey) ApiRefusal → Result Asked ApiRefusal
then_asked q r = (r >>= (λ server. Ok (GetIdentity server))) >>= (λ call. Ok (asked q call))

pub call_is : (key : ServerKey) (token : List ℕ) → IsName key.user → IsServerName key.server → call_read (get_of (access_target key) token) ≡ Ok (ask token key)
unfolding call_read path_of every_path method_of get_identity server_of
call_is key token user server = ap (then_asked (get_of (access_target key) token)) (server_is key user server)
