-- A request: a head, and as many bytes as its `Content-Length` says.
use Rattle.std.specs.Prelude.{◌≡◌, ℕ, List, ◌++◌, length, Result, Ok}
use Rattle.httparse.specs.Grammar.{RequestHead, print_request}
use Rattle.http_wire.specs.declared.error.WireError.{WireError}
use Rattle.http_wire.specs.declared.head.Head.{Head}
use Rattle.http_wire.specs.declared.request.Request.{Request}
use Rattle.http_wire.specs.Head.{head_of}
use Rattle.http_wire.specs.Wire.{IsServedHead}
use Rattle.http_wire.specs.Token.{token_of}
use Rattle.http_wire.specs.Due.{as_seen, seen_said, body_due}
use Rattle.http_wire.specs.Connection.{closes, asks_pages}
use Rattle.http_wire.specs.Target.{path_of, query_of}

-- the request of a head and a body
abbrev pub request_of : Head → List ℕ → Request
request_of head body = record {
  method = head.method;
  path = path_of head.target;
  query = query_of head.target;
  token = token_of head.headers;
  seen = as_seen (seen_said head.headers);
  paged = asks_pages head.headers;
  close = closes head.minor head.headers;
  body = body;
}

-- how long a body follows the head, or why it is refused
abbrev pub body_due_of : RequestHead → Result ℕ WireError
body_due_of h = body_due (head_of h).headers

-- the bytes are a text of the request
pub record IsRequestText (request : Request) (bytes : List ℕ) : Type 0 where
  pub head : RequestHead
  pub served : IsServedHead head
  pub due : body_due_of head ≡ Ok (length request.body)
  pub value : request ≡ request_of (head_of head) request.body
  pub printed : bytes ≡ print_request head ++ request.body
