-- How the hub reads the posts of a job.
use Rattle.std.proofs.Common.{◌≡◌, ◌<◌, arith, ℕ, true, false, List, [], codes, IsUtf8, Option, Some, None, Result, Ok, ok_or, option_and_then, refl, ap, ◌∙◌}
use Rattle.std.specs.List.{list_all}
use Rattle.std.proofs.lemmas.Bool.Decides.{nat_tests}
use Rattle.std.proofs.lemmas.List.Elements.{All-weaker}
use Rattle.std.proofs.lemmas.List.Sums.{AllPass-from_list_all}
use Rattle.std.proofs.lemmas.Str.{IsUtf8-from_ascii}
use Rattle.std.proofs.lemmas.Str.Ascii.{IsAscii-from_all}
use Rattle.json.specs.Json.{value, members}
use Rattle.json.specs.Lex.{lex, punctuate}
use Rattle.serde_json.specs.Data.{Data, object, no_members}
use Rattle.serde_json.specs.Read.{read}
use Rattle.http_wire.specs.Target.{path_of as path_in, query_of}
use Rattle.http_wire.specs.declared.request.Request.{Request}
use Rattle.hub_api.specs.Bodies.{body_of, list, note, scope_texts, scopes, seconds}
use Rattle.hub_api.specs.Calls.{call_read, call_of, asked, method_of}
use Rattle.hub_api.specs.Names.{read_at}
use Rattle.hub_api.specs.Readings.{post_token}
use Rattle.hub_api.specs.declared.refusal.ApiRefusal.{ApiRefusal}
use Rattle.hub_api.specs.declared.refusal.ApiRefusal.TheVariants.{BadBody, BadName}
use Rattle.hub_kit.specs.Names.{IsName}
use Rattle.hub_machine.specs.declared.call.Asked.{Asked}
use Rattle.hub_machine.specs.declared.call.Call.{Call}
use Rattle.hub_machine.specs.declared.call.Call.TheVariants.{PostUser, PostToken}
use Rattle.hub_paths.specs.Paths.{path_of}
use Rattle.hub_paths.specs.declared.paths.Path.{Path}
use Rattle.request_parts.specs.Bodies.{body_object, if_object, list_at, number_at, optional_at}
use Rattle.request_parts.specs.Names.{name_of}
use Rattle.request_parts.specs.Paths.{read_in_path}
use Rattle.request_parts.specs.Scopes.{scopes_read}
use Rattle.request_parts.specs.Steps.{◌>>=◌}
use Rattle.request_parts.proofs.Texts.{object_of_text}
use Rattle.token_store.specs.declared.issuing.TokenAsk.{TokenAsk}
use Rattle.hub_loading.proofs.GetLemmas.{user_target, path_is, named_is, read_is, then_asked, is_ascii}
use Rattle.hub_loading.proofs.PostTargets.{tokens_target, tokens_path, tokens_named, tokens_owner}

abbrev pub root : List ℕ
root = codes "load-admin-token"

-- a post by root's token, after which the connection is closed
abbrev pub post_of : (target body : List ℕ) → Request
post_of target body = record {
  method = codes "POST";
  path = path_in target;
  query = query_of target;
  token = Some root;
  seen = None;
  paged = false;
  close = true;
  body = body;
}

pub text_of : (bytes : List ℕ) → list_all is_ascii bytes ≡ true → IsUtf8 bytes
text_of bytes is =
    IsUtf8-from_ascii bytes (IsAscii-from_all bytes
    (All-weaker (λ b. is_ascii b ≡ true) (λ b. b < 128) (λ b good. grind (arith, nat_tests)) bytes (AllPass-from_list_all is_ascii bytes is)))

-- ---- a user

abbrev pub add : List ℕ → Asked
add user = record { token = Some root; seen = None; call = PostUser user }

abbrev then_post : Result (List ℕ) ApiRefusal → Result Call ApiRefusal
then_post r = r >>= (λ user. Ok (PostUser user))

pub add_is : (user : List ℕ) → IsName user → call_read (post_of (user_target user) []) ≡ Ok (add user)
unfolding call_read read_at method_of
add_is user is =
    let q : Request = post_of (user_target user) [] in
    ap (λ (p : List ℕ). then_asked q (call_of (path_of p) q)) (path_is user is)
    ∙ (ap (λ (o : Option Path). then_asked q (call_of o q)) (named_is user is)
    ∙ (ap (λ (p : List ℕ). then_asked q (then_post (ok_or (read_in_path name_of 4 p) (BadName 4)))) (path_is user is)
    ∙ ap (λ (o : Option (List ℕ)). then_asked q (then_post (ok_or o (BadName 4)))) (read_is user is)))

-- ---- a token

abbrev pub ask_for : List ℕ → TokenAsk
ask_for owner = record { owner = owner; scopes = []; note = []; expires_in = None }

abbrev pub issue : List ℕ → Asked
issue owner = record { token = Some root; seen = None; call = PostToken (ask_for owner) }

abbrev empty : Data
empty = object no_members

-- no member of the body is there
read_empty : read (codes "{}") ≡ Some empty
unfolding value members lex punctuate
read_empty = refl

body_is : body_object (codes "{}") ≡ Some empty
unfolding body_object
body_is = object_of_text (codes "{}") (text_of (codes "{}") refl) ∙ ap (λ (o : Option Data). option_and_then if_object o) read_empty

abbrev from_body : List ℕ → Data → Result Call ApiRefusal
from_body owner body =
    scope_texts body >>= (λ texts. note (codes "note") body >>= (λ words. seconds (codes "expires_in") body >>= (λ life. scopes texts >>= (λ asked.
    Ok (PostToken (record { owner = owner; scopes = asked; note = words; expires_in = life }))))))

nothing_said : (owner : List ℕ) → from_body owner empty ≡ Ok (PostToken (ask_for owner))
unfolding scope_texts list list_at note optional_at seconds number_at scopes scopes_read
nothing_said owner = refl

abbrev then_body : List ℕ → Result Data ApiRefusal → Result Call ApiRefusal
then_body owner r = r >>= (λ body. from_body owner body)

abbrev then_token : Request → Result (List ℕ) ApiRefusal → Result Call ApiRefusal
then_token q r = r >>= (λ owner. then_body owner (body_of q))

body_read : (target : List ℕ) → body_of (post_of target (codes "{}")) ≡ Ok empty
unfolding body_of
body_read target = ap (λ (o : Option Data). ok_or o BadBody) body_is

pub issue_is : (user : List ℕ) → IsName user → call_read (post_of (tokens_target user) (codes "{}")) ≡ Ok (issue user)
unfolding call_read read_at method_of post_token
issue_is user is =
    let q : Request = post_of (tokens_target user) (codes "{}") in
    ap (λ (p : List ℕ). then_asked q (call_of (path_of p) q)) (tokens_path user is)
    ∙ (ap (λ (o : Option Path). then_asked q (call_of o q)) (tokens_named user is)
    ∙ (ap (λ (p : List ℕ). then_asked q (then_token q (ok_or (read_in_path name_of 4 p) (BadName 4)))) (tokens_path user is)
    ∙ (ap (λ (o : Option (List ℕ)). then_asked q (then_token q (ok_or o (BadName 4)))) (tokens_owner user is)
    ∙ (ap (λ (r : Result Data ApiRefusal). then_asked q (then_body user r)) (body_read (tokens_target user))
    ∙ ap (λ (r : Result Call ApiRefusal). then_asked q r) (nothing_said user)))))
