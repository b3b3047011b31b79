-- The requests that have a path and a token, and nothing else.
use Rattle.std.specs.Prelude.{◌≡◌, ◌<◌, ◌≤◌, ◌+◌, ℕ, true, false, not, List, [], ◌++◌, length, codes, Some, None, IsUtf8}
use Rattle.std.specs.List.{list_all}
use Rattle.std.specs.Str.{is_utf8}
use Rattle.guard.specs.Access.{access_request}
use Rattle.httparse.specs.Grammar.{is_uri_byte, is_value_byte, RequestHead, IsRequestHead}
use Rattle.http_wire.specs.Head.{head_of}
use Rattle.http_wire.specs.Request.{IsRequestText}
use Rattle.http_wire.specs.Target.{path_of, query_of}
use Rattle.http_wire.specs.Token.{token_of}
use Rattle.http_wire.specs.Wire.{HasPath, head_limit}
use Rattle.http_wire.specs.Words.{is_blank}
use Rattle.http_wire.specs.declared.request.Request.{Request}
use Rattle.hub_kit.specs.Names.{IsName, IsServerName}
use Rattle.hub_kit.specs.declared.names.ServerKey.{ServerKey}

-- no request but this one stands at the front of the bytes
abbrev pub OnlyReads : List ℕ → Request → Type 0
OnlyReads bytes q = (other : Request) (text more : List ℕ) → IsRequestText other text → bytes ≡ text ++ more → other ≡ q

-- a GET of a target by a token, after which the connection is closed
abbrev pub get_text : (target token : List ℕ) → List ℕ
get_text target token =
    codes "GET " ++ target ++ codes " HTTP/1.1\r\nHost: hub\r\nAuthorization: token " ++ token ++ codes "\r\nConnection: close\r\n\r\n"

abbrev pub get_of : (target token : List ℕ) → Request
get_of target token = record {
  method = codes "GET";
  path = path_of target;
  query = query_of target;
  token = Some token;
  seen = None;
  paged = false;
  close = true;
  body = [];
}

-- a word that may stand in a head
pub record IsWord (token : List ℕ) : Type 0 where
  pub some : 0 < length token
  pub value : list_all is_value_byte token ≡ true
  pub unbroken : list_all (λ b. not (is_blank b)) token ≡ true
  pub text : is_utf8 token ≡ true

-- a target that may stand in a head
pub record IsTarget (target : List ℕ) : Type 0 where
  pub path : HasPath target
  pub bytes : list_all is_uri_byte target ≡ true
  pub text : IsUtf8 target

-- such bytes read as that request alone
abbrev pub GetsRead : Type 0
GetsRead = (target token : List ℕ) → IsTarget target → IsWord token → OnlyReads (get_text target token) (get_of target token)

-- and where they are no more than a head may be, they are a text of that request
abbrev pub GetsAreTexts : Type 0
GetsAreTexts =
    (target token : List ℕ) → IsTarget target → IsWord token → length (get_text target token) ≤ head_limit
    → IsRequestText (get_of target token) (get_text target token)

-- ---- the ask of a guard

abbrev pub access_target : ServerKey → List ℕ
access_target key = codes "/hub/api/user?for=" ++ key.user ++ codes "/" ++ key.server

-- its ask for the token that a head gives is a GET of this target by the token, and nothing else
abbrev pub AccessIsAsked : Type 0
AccessIsAsked =
    (key : ServerKey) (head : RequestHead) (token : List ℕ) → IsName key.user → IsServerName key.server → IsRequestHead head
    → token_of (head_of head).headers ≡ Some token → OnlyReads (access_request key token) (get_of (access_target key) token)

-- so many bytes its head has beside the names and the token
abbrev pub ask_size : ℕ
ask_size = 89

-- where it is no more than a head may be, it is a text of that request
abbrev pub AccessIsText : Type 0
AccessIsText =
    (key : ServerKey) (head : RequestHead) (token : List ℕ) → IsName key.user → IsServerName key.server → IsRequestHead head
    → token_of (head_of head).headers ≡ Some token → ask_size + length key.user + length key.server + length token ≤ head_limit
    → IsRequestText (get_of (access_target key) token) (access_request key token)
