-- What the rules of a sign-in come to.
use Rattle.std.specs.Prelude.{◌≡◌, ℕ, true, List, take, bytes_eq, codes, Option, Some, Ok}
use Rattle.http_wire.specs.declared.head.Head.{Head}
use Rattle.http_wire.specs.Target.{query_of}
use Rattle.request_parts.specs.Queries.{query_value}
use Rattle.guard.specs.Access.{access_request, access_in}
use Rattle.guard_login.specs.Cookies.{cookie_of}
use Rattle.guard_login.specs.Nexts.{base_of, is_next}
use Rattle.guard_login.specs.Signed.{Given, said, signed, passes, gives, token_given, called, token_in}
use Rattle.guard_login.specs.Texts.{trade_text}
use Rattle.guard_login.specs.declared.cookies.Cookie.TheVariants.{State}
use Rattle.guard_login.specs.declared.door.Door.{Door}
use Rattle.guard_login.specs.declared.steps.Called.{Called}

-- The hub said in this call that it admits the request's token: it was asked just that, and its reply says yes
pub record Admitted (door : Door) (head : Head) (given : Given) (ask : Option (List ℕ)) : Type 0 where
  pub token : List ℕ
  pub body : List ℕ
  pub given_token : token_given head ≡ Some token
  pub asks : ask ≡ Some (access_request door.key token)
  pub says : given ≡ said (Some (200, body))
  pub admits : access_in body ≡ Some true

-- the state that a callback brings is that of the browser's cookie
pub record SameState (head : Head) : Type 0 where
  pub state : List ℕ
  pub cookie : List ℕ
  pub brought : query_value (codes "state") (query_of head.target) ≡ Some state
  pub kept : cookie_of State head.headers ≡ Some cookie
  pub same : bytes_eq (take 32 cookie) state ≡ true

-- A code that came with the browser's own state was traded in this call for this token, and `next` is the place that the browser's cookie
-- has
pub record Traded (door : Door) (head : Head) (given : Given) (ask : Option (List ℕ)) (token next : List ℕ) : Type 0 where
  pub own : SameState head
  pub call : Called
  pub body : List ℕ
  pub calls : called door head ≡ Ok call
  pub asks : ask ≡ Some (trade_text door call.code)
  pub says : given ≡ said (Some (200, body))
  pub has : token_in body ≡ Some token
  pub goes : next ≡ call.next

-- A request is passed on only where the hub said in the same call that it admits the request's token
abbrev pub PassesOnlyAdmitted : Type 0
PassesOnlyAdmitted =
    (door : Door) (head : Head) (given : Given) (draw : Option (List ℕ)) → (signed door head given draw).answer ≡ passes
    → Admitted door head given (signed door head given draw).ask

-- A browser gets a token only where a code that came with its own state was traded for that token in the same call
abbrev pub GivesOnlyTraded : Type 0
GivesOnlyTraded =
    (door : Door) (head : Head) (given : Given) (draw : Option (List ℕ)) (token next : List ℕ)
    → (signed door head given draw).answer ≡ gives token next → Traded door head given (signed door head given draw).ask token next

-- A browser that gets its token goes on to a place that begins with the base of the server's paths. Behind the base it may have `..`, by
-- which a browser leaves the base
abbrev pub GoesOnlyWithin : Type 0
GoesOnlyWithin =
    (door : Door) (head : Head) (given : Given) (draw : Option (List ℕ)) (token next : List ℕ)
    → (signed door head given draw).answer ≡ gives token next → is_next (base_of door.key) next ≡ true
