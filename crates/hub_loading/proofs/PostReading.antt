-- The posts of a job are read as those alone.
use Rattle.std.proofs.Common.{◌≡◌, ◌<◌, ◌+◌, arith, ℕ, Bool, true, List, [], ◌∷◌, ◌++◌, length, codes, Option, Some, None, Result, Ok, All, IsUtf8, append_assoc, refl, sym, ap, ◌∙◌, if◌then◌else◌}
use Rattle.std.specs.List.{list_all}
use Rattle.std.specs.Str.{is_utf8}
use Rattle.std.proofs.lemmas.List.{append-nil}
use Rattle.std.proofs.lemmas.List.Elements.{All-cons, All-nil}
use Rattle.std.proofs.lemmas.List.Sums.{AllPass-from_list_all}
use Rattle.std.proofs.lemmas.Str.{is_utf8-from_IsUtf8}
use Rattle.httparse.specs.Grammar.{Field, IsField, crlf, print_section, is_token_byte, is_uri_byte, is_value_byte, trim_ows, RequestHead, IsRequestHead, print_request, ReadsRequest}
use Rattle.httparse.proofs.GrammarLemmas.{request_unique}
use Rattle.http_wire.specs.Head.{head_of}
use Rattle.http_wire.specs.Request.{request_of, body_due_of}
use Rattle.http_wire.specs.declared.error.WireError.{WireError}
use Rattle.http_wire.specs.declared.request.Request.{Request}
use Rattle.hub_kit.specs.Names.{IsName}
use Rattle.access_laws.specs.Asks.{OnlyReads}
use Rattle.load_asks.specs.Numbers.{name}
use Rattle.load_asks.specs.Requests.{user_front, user_request, token_request}
use Rattle.hub_loading.proofs.GetLemmas.{user_target, target_is, visible, ascii, is_ascii}
use Rattle.hub_loading.proofs.PostCalls.{root, post_of, text_of}
use Rattle.hub_loading.proofs.PostTargets.{tokens_target, all_pass}

-- ---- bytes that are a head, and a body as long as it says

front_whole : (a b c : List ℕ) → a ++ b ≡ c → length a ≡ length c → a ≡ c
front_whole [] b [] is long = refl
front_whole [] b (y ∷ c) is long = absurd (omega (arith, long))
front_whole (x ∷ a) b [] is long = absurd (cc is)
front_whole (x ∷ a) b (y ∷ c) is long =
    let same : x ≡ y = first x y (a ++ b) c is in
    let rest : a ≡ c = front_whole a b c (behind x y (a ++ b) c is) (omega (arith, long)) in
    cc (same, rest)
  where
    first : (x y : ℕ) (a c : List ℕ) → x ∷ a ≡ y ∷ c → x ≡ y
    first x y a c e = cc

    behind : (x y : ℕ) (a c : List ℕ) → x ∷ a ≡ y ∷ c → a ≡ c
    behind x y a c e = cc

same_due : (m n : ℕ) (r : Result ℕ WireError) → r ≡ Ok m → r ≡ Ok n → m ≡ n
same_due m n r one two = cc

only_head : (bytes : List ℕ) (h : RequestHead) (body : List ℕ) (q : Request) → IsRequestHead h → bytes ≡ print_request h ++ body → body_due_of h ≡ Ok (length body)
    → request_of (head_of h) body ≡ q → OnlyReads bytes q
only_head bytes h body q valid printed due made other text more is same =
    let here : ReadsRequest bytes is.head (other.body ++ more) =
    ((is.served).valid, same ∙ (ap (λ (b : List ℕ). b ++ more) is.printed ∙ append_assoc (print_request is.head) other.body more)) in
    let one = request_unique bytes is.head h (other.body ++ more) body here (valid, printed) in
    let long : length other.body ≡ length body =
    same_due (length other.body) (length body) (body_due_of h) (ap body_due_of (sym one.0) ∙ is.due) due in
    is.value
    ∙ (ap (λ (g : RequestHead). request_of (head_of g) other.body) one.0
    ∙ (ap (λ (b : List ℕ). request_of (head_of h) b) (front_whole other.body more body one.1 long) ∙ made))

-- ---- the heads

abbrev plain : List ℕ → List ℕ → Field
plain name value = record { name = name; raw = 32 ∷ value; end = crlf }

plain_is : (name value : List ℕ) → 0 < length name → list_all is_token_byte name ≡ true → list_all is_value_byte value ≡ true → IsField (plain name value)
plain_is name value long word passed = record {
  name = (long, AllPass-from_list_all is_token_byte name word);
  raw = AllPass-from_list_all is_value_byte (32 ∷ value) passed;
}

abbrev said : Field
said = plain (codes "Authorization") (codes "token load-admin-token")

abbrev close : Field
close = plain (codes "Connection") (codes "close")

abbrev host : Field
host = plain (codes "Host") (codes "hub")

abbrev size : Field
size = plain (codes "Content-Length") (codes "2")

abbrev head_with : List ℕ → List Field → RequestHead
head_with target fields = record {
  blank = [];
  method = codes "POST";
  target = target;
  minor = 1;
  line_end = crlf;
  fields = fields;
  last = crlf;
}

host_is : IsField host
unfolding is_token_byte
host_is = plain_is (codes "Host") (codes "hub") (omega arith) refl refl

said_is : IsField said
unfolding is_token_byte
said_is = plain_is (codes "Authorization") (codes "token load-admin-token") (omega arith) refl refl

size_is : IsField size
unfolding is_token_byte
size_is = plain_is (codes "Content-Length") (codes "2") (omega arith) refl refl

close_is : IsField close
unfolding is_token_byte
close_is = plain_is (codes "Connection") (codes "close") (omega arith) refl refl

-- a target that may stand in a head
pub record IsPlace (target : List ℕ) : Type 0 where
  pub some : 0 < length target
  pub bytes : list_all is_uri_byte target ≡ true
  pub text : IsUtf8 target

some_bytes : (b : ℕ) (bs : List ℕ) → 0 < length (b ∷ bs)
some_bytes b bs = omega arith

head_is : (target : List ℕ) (fields : List Field) → IsPlace target → All IsField fields → IsRequestHead (head_with target fields)
unfolding is_token_byte
head_is target fields place each = record {
  method = (omega arith, AllPass-from_list_all is_token_byte (codes "POST") refl);
  target = (place.some, AllPass-from_list_all is_uri_byte target place.bytes);
  target_text = place.text;
  minor = omega arith;
  fields = each;
}

root_text : is_utf8 root ≡ true
root_text = is_utf8-from_IsUtf8 root (text_of root refl)

abbrev with_token : List ℕ → List ℕ → Option (List ℕ) → Request
with_token target body token = record (post_of target body) { token = token }

abbrev if_text : Bool → Option (List ℕ)
if_text t = if t then Some root else None

-- the end of a line
abbrev ended : List ℕ
ended = 13 ∷ 10 ∷ []

-- ---- a user

abbrev user_fields : List Field
user_fields = host ∷ said ∷ close ∷ []

user_place : (user : List ℕ) → IsName user → IsPlace (user_target user)
user_place user is = record { some = some_bytes 47 (codes "hub/api/users/" ++ user); bytes = (target_is user is).bytes; text = (target_is user is).text }

user_printed : (k : ℕ) → user_request k ≡ print_request (head_with (user_target (name k)) user_fields) ++ []
unfolding print_request
user_printed k =
    let front : List ℕ = user_front (codes "POST") k in
    sym (append_assoc (front ++ codes " HTTP/1.1") ended (print_section user_fields crlf)
    ∙ append_assoc front (codes " HTTP/1.1") (ended ++ print_section user_fields crlf))
    ∙ sym (append-nil (print_request (head_with (user_target (name k)) user_fields)))

user_due : (target : List ℕ) → body_due_of (head_with target user_fields) ≡ Ok 0
unfolding trim_ows
user_due target = refl

user_made : (target : List ℕ) → request_of (head_of (head_with target user_fields)) [] ≡ post_of target []
unfolding trim_ows
user_made target = ap (λ (t : Bool). with_token target [] (if_text t)) root_text

pub user_reads : (k : ℕ) → IsName (name k) → OnlyReads (user_request k) (post_of (user_target (name k)) [])
user_reads k is =
    let target : List ℕ = user_target (name k) in
    let each : All IsField user_fields = All-cons IsField host (said ∷ close ∷ []) host_is (All-cons IsField said (close ∷ []) said_is (All-cons IsField close [] close_is (All-nil IsField))) in
    only_head (user_request k) (head_with target user_fields) [] (post_of target []) (head_is target user_fields (user_place (name k) is) each)
    (user_printed k) (user_due target) (user_made target)

-- ---- a token

abbrev token_fields : List Field
token_fields = host ∷ said ∷ size ∷ close ∷ []

tokens_place : (user : List ℕ) → IsName user → IsPlace (tokens_target user)
tokens_place user is = record {
  some = some_bytes 47 (codes "hub/api/users/" ++ (user ++ codes "/tokens"));
  bytes = all_pass is_uri_byte user visible is refl;
  text = text_of (tokens_target user) (all_pass is_ascii user ascii is refl);
}

abbrev behind_path : List ℕ
behind_path = codes " HTTP/1.1" ++ (ended ++ (print_section token_fields crlf ++ codes "{}"))

token_printed : (k : ℕ) → token_request k ≡ print_request (head_with (tokens_target (name k)) token_fields) ++ codes "{}"
unfolding print_request
token_printed k =
    let front : List ℕ = user_front (codes "POST") k in
    let path : List ℕ = front ++ codes "/tokens" in
    let section : List ℕ = print_section token_fields crlf in
    append_assoc front (codes "/tokens HTTP/1.1\r\nHost: hub\r\nAuthorization: token load-admin-token")
    (codes "\r\nContent-Length: 2\r\nConnection: close\r\n\r\n{}")
    ∙ (sym (append_assoc front (codes "/tokens") behind_path)
    ∙ sym (append_assoc ((path ++ codes " HTTP/1.1") ++ ended) section (codes "{}")
    ∙ (append_assoc (path ++ codes " HTTP/1.1") ended (section ++ codes "{}")
    ∙ append_assoc path (codes " HTTP/1.1") (ended ++ (section ++ codes "{}")))))

token_due : (target : List ℕ) → body_due_of (head_with target token_fields) ≡ Ok 2
unfolding trim_ows
token_due target = refl

token_made : (target : List ℕ) → request_of (head_of (head_with target token_fields)) (codes "{}") ≡ post_of target (codes "{}")
unfolding trim_ows
token_made target = ap (λ (t : Bool). with_token target (codes "{}") (if_text t)) root_text

pub token_reads : (k : ℕ) → IsName (name k) → OnlyReads (token_request k) (post_of (tokens_target (name k)) (codes "{}"))
token_reads k is =
    let target : List ℕ = tokens_target (name k) in
    let each : All IsField token_fields =
    All-cons IsField host (said ∷ size ∷ close ∷ []) host_is
    (All-cons IsField said (size ∷ close ∷ []) said_is
    (All-cons IsField size (close ∷ []) size_is (All-cons IsField close [] close_is (All-nil IsField)))) in
    only_head (token_request k) (head_with target token_fields) (codes "{}") (post_of target (codes "{}"))
    (head_is target token_fields (tokens_place (name k) is) each) (token_printed k) (token_due target) (token_made target)
