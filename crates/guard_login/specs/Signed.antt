-- What a guard that lets browsers sign in asks and answers.
use Rattle.std.specs.Prelude.{◌≡◌, ℕ, ◌==◌, Bool, ◌&&◌, true, false, List, take, bytes_eq, codes, Option, Some, None, option_map, Result}
use Rattle.std.specs.Prelude.{Ok, Err, if◌then◌else◌}
use Rattle.std.specs.Option.{is_some}
use Rattle.hex.specs.Hex.{encode_lower}
use Rattle.http_wire.specs.declared.head.Head.{Head}
use Rattle.http_wire.specs.Target.{path_of, query_of}
use Rattle.http_wire.specs.Token.{token_of}
use Rattle.hub_link.specs.Replies.{Says}
use Rattle.request_parts.specs.Bodies.{◌>>=◌, body_object}
use Rattle.request_parts.specs.Queries.{query_value}
use Rattle.guard.specs.Access.{access_request, access_of}
use Rattle.guard.specs.declared.access.Access.{Access}
use Rattle.guard.specs.declared.access.Access.TheVariants as access
use Rattle.guard.specs.declared.denials.Denial.{Denial}
use Rattle.guard.specs.declared.denials.Denial.TheVariants.{NoToken, NoAccess, BadHub, Hub, BadQuery, BadState, BadNext, SignIn, Random}
use Rattle.guard_login.specs.Cookies.{cookie_of, first_some, in_form}
use Rattle.guard_login.specs.Nexts.{base_of, next_of, next_in}
use Rattle.guard_login.specs.Queries.{text_at}
use Rattle.guard_login.specs.Texts.{callback_of, trade_text}
use Rattle.guard_login.specs.declared.cookies.Cookie.TheVariants.{Token, State}
use Rattle.guard_login.specs.declared.door.Door.{Door}
use Rattle.guard_login.specs.declared.steps.Called.{Called}
use Rattle.guard_login.specs.declared.steps.Step.{Step}
use Rattle.guard_login.specs.declared.steps.Step.TheVariants.{Pass, Deny, Start, Give}

-- what an ask came to: what the reply's bytes say, if they are a reply, or a failed link
pub data Given : Type 0 where
  said : Option (ℕ × List ℕ) → Given
  failed : Given

-- the token of the header, else of the cookie
abbrev pub token_given : Head → Option (List ℕ)
token_given head = first_some (token_of head.headers) (cookie_of Token head.headers)

-- The request's method is GET
abbrev pub is_get : Head → Bool
is_get head = bytes_eq head.method (codes "GET")

-- a GET of the path that the hub sends browsers back to
abbrev pub is_callback : Door → Head → Bool
is_callback door head = is_get head && bytes_eq (path_of head.target) (callback_of door.key)

-- ---- the callback

-- A callback with this code, where the cookie has a place for the browser to go on to that is allowed
abbrev pub with_next : List ℕ → Option (List ℕ) → Result Called Denial
with_next code None = Err BadNext
with_next code (Some next) = Ok (record { code = code; next = next })

-- What a callback asks for, by the base of the server's paths, the query's code and state, and the cookie of the sign-in, where each of
-- these is there: the code to trade and where the browser goes on. The query has to have both, and the state has to be that of the
-- browser's own cookie
abbrev pub checked : List ℕ → Option (List ℕ) → Option (List ℕ) → Option (List ℕ) → Result Called Denial
checked base None state cookie = Err BadQuery
checked base (Some code) None cookie = Err BadQuery
checked base (Some code) (Some state) None = Err BadState
checked base (Some code) (Some state) (Some cookie) =
    if bytes_eq (take 32 cookie) state then with_next code (next_in base cookie) else Err BadState

-- the code to trade and where the browser goes on, or why the callback is refused
unfoldable pub called : Door → Head → Result Called Denial
called door head =
    checked (base_of door.key) (query_value (codes "code") (query_of head.target)) (query_value (codes "state") (query_of head.target))
    (cookie_of State head.headers)

-- the access token in a body, where it has the form of a cookie
abbrev pub token_in : List ℕ → Option (List ℕ)
token_in body = in_form Token (body_object body >>= text_at (codes "access_token"))

-- The body has a text at `error`
abbrev pub has_error : List ℕ → Bool
has_error body = is_some (body_object body >>= text_at (codes "error"))

-- The token in a good reply, or that the hub's reply is a bad one
abbrev pub by_token_said : Option (List ℕ) → Result (List ℕ) Denial
by_token_said None = Err BadHub
by_token_said (Some token) = Ok token

-- Why a code wasn't traded, by whether the reply says an error: the sign-in is refused, or the hub's reply is a bad one
abbrev pub by_error_said : Bool → Denial
by_error_said true = SignIn
by_error_said false = BadHub

-- The token that a reply of this status and this body gives for a code, or why there is none: 200 gives a token, 400 an error, and anything
-- else is a bad reply
abbrev pub by_trade : ℕ → List ℕ → Result (List ℕ) Denial
by_trade status body =
    if status == 200 then by_token_said (token_in body) else Err (if status == 400 then by_error_said (has_error body) else BadHub)

-- the token that a code was traded for, or why there is none
abbrev pub traded : Given → Result (List ℕ) Denial
traded (said None) = Err BadHub
traded (said (Some (status, body))) = by_trade status body
traded failed = Err Hub

-- These bytes of a reply give this token for a code, or this reason why there is none
abbrev pub IsTradedBy : List ℕ → Result (List ℕ) Denial → Type 0
IsTradedBy bytes token = (reply : Option (ℕ × List ℕ)) × Says bytes reply × (token ≡ traded (said reply))

-- The step after a trade: the browser gets the token and goes on to `next`, or is refused
abbrev pub sent_back : List ℕ → Result (List ℕ) Denial → Step
sent_back next (Ok token) = Give token next
sent_back next (Err denial) = Deny denial

-- The step of a callback that asks for this, or is refused, where the trade came to `given`
abbrev pub by_called : Result Called Denial → Given → Step
by_called (Err denial) given = Deny denial
by_called (Ok call) given = sent_back call.next (traded given)

-- ---- any other request

-- The step of a request that no token admits: a GET is sent to sign in, and any other request is refused
abbrev pub unsigned : Head → Step
unsigned head = if is_get head then Start else Deny NoToken

-- The step of a request of whose token the hub said this
abbrev pub step_of : Head → Access → Step
step_of head access.Yes = Pass
step_of head access.No = Deny NoAccess
step_of head access.NoToken = unsigned head
step_of head access.BadReply = Deny BadHub

-- The step of a request with a token, where the ask about it came to `given`
abbrev pub by_access : Head → Given → Step
by_access head (said reply) = step_of head (access_of reply)
by_access head failed = Deny Hub

-- The step of a request that is no callback, by its token, if it has one
abbrev pub by_token : Head → Option (List ℕ) → Given → Step
by_token head None given = unsigned head
by_token head (Some token) given = by_access head given

-- ---- both

-- What the hub is asked for a callback, if it is: to trade the code
abbrev pub asks_trade : Door → Result Called Denial → Option (List ℕ)
asks_trade door (Err denial) = None
asks_trade door (Ok call) = Some (trade_text door call.code)

-- What the hub is asked for a request that is no callback, if it is: whether the token that came with it admits to the server
abbrev pub asks_access : Door → Option (List ℕ) → Option (List ℕ)
asks_access door token = option_map (access_request door.key) token

-- What the hub is asked for a request with this head, at most once
abbrev pub asked : Door → Head → Option (List ℕ)
asked door head = if is_callback door head then asks_trade door (called door head) else asks_access door (token_given head)

-- What is done with a request, where that ask came to `given`
abbrev pub stepped : Door → Head → Given → Step
stepped door head given = if is_callback door head then by_called (called door head) given else by_token head (token_given head) given

-- What is done in the end: the request is passed on, or refused; or the browser is sent to sign in, with a state and the place where it
-- goes on then; or it is given a token, and goes on to a place
pub data Answer : Type 0 where
  passes : Answer
  refuses : Denial → Answer
  sends : List ℕ → List ℕ → Answer
  gives : List ℕ → List ℕ → Answer

-- The answer that sends a browser to sign in, by a draw, or the refusal where none came. It tells in hex where the browser goes on then:
-- what it asked for, where that is allowed, and else the base of the server's paths
abbrev pub started : Door → Head → Option (List ℕ) → Answer
started door head None = refuses Random
started door head (Some draw) = sends (encode_lower draw) (encode_lower (next_of (base_of door.key) head.target))

-- The answer to a step; `draw` is what was drawn, if a draw was taken and came
abbrev pub answered : Door → Head → Step → Option (List ℕ) → Answer
answered door head Pass draw = passes
answered door head (Deny denial) draw = refuses denial
answered door head Start draw = started door head draw
answered door head (Give token next) draw = gives token next

-- The ask of a request at the hub, if there is one, and its answer
pub record Signing : Type 0 where
  pub ask : Option (List ℕ)
  pub answer : Answer

-- The one function of these rules: what a guard of this door asks for a request with this head, and what it answers where the ask came to
-- `given` and the draw, if one is taken, to `draw`
abbrev pub signed : Door → Head → Given → Option (List ℕ) → Signing
signed door head given draw = record { ask = asked door head; answer = answered door head (stepped door head given) draw }
