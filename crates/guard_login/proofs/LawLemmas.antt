-- From an answer to what the hub said.
use Rattle.std.proofs.Common.{◌≡◌, ℕ, ◌==◌, Bool, true, false, List, take, drop, Option, Some, None, Result, Ok, Err, codes, if◌then◌else◌, refl, sym, ap, subst, arith}
use Rattle.std.proofs.lemmas.Bool.Decides.{nat_tests}
use Rattle.std.specs.Prelude.{bytes_eq}
use Rattle.hex.specs.Hex.{decode_of}
use Rattle.hex.specs.declared.error.FromHexError.{FromHexError}
use Rattle.http_wire.specs.declared.head.Head.{Head}
use Rattle.http_wire.specs.Target.{query_of}
use Rattle.request_parts.specs.Queries.{query_value}
use Rattle.guard.specs.Access.{access_in, access_said}
use Rattle.guard.specs.declared.access.Access.TheVariants.{NoToken, BadReply}
use Rattle.guard.specs.declared.denials.Denial.{Denial}
use Rattle.guard.specs.declared.denials.Denial.TheVariants as denial
use Rattle.guard_login.specs.Cookies.{cookie_of}
use Rattle.guard_login.specs.Laws.{Admitted, Traded, SameState}
use Rattle.guard_login.specs.Nexts.{base_of, is_next, allowed}
use Rattle.guard_login.specs.Signed.{Given, said, failed, passes, gives, answered, with_next, checked, called, by_called, sent_back, traded, by_trade, by_token_said, by_error_said, by_token, step_of, is_get, token_given, token_in, has_error, asks_trade, asks_access}
use Rattle.guard_login.specs.declared.cookies.Cookie.TheVariants.{State}
use Rattle.guard_login.specs.declared.door.Door.{Door}
use Rattle.guard_login.specs.declared.steps.Called.{Called}
use Rattle.guard_login.specs.declared.steps.Step.{Step}
use Rattle.guard_login.specs.declared.steps.Step.TheVariants.{Pass, Deny, Start, Give}

-- ---- a request that is passed on

pub step_passes : (door : Door) (head : Head) (s : Step) (draw : Option (List ℕ)) → answered door head s draw ≡ passes → s ≡ Pass
step_passes door head Pass draw e = refl
step_passes door head (Deny d) draw e = cc
step_passes door head Start None e = cc
step_passes door head Start (Some d) e = cc
step_passes door head (Give t n) draw e = cc

never_sent : (next : List ℕ) (token : Result (List ℕ) Denial) → sent_back next token ≡ Pass → ⊥
never_sent next (Ok t) h = cc
never_sent next (Err d) h = cc

never_called : (call : Result Called Denial) (given : Given) → by_called call given ≡ Pass → ⊥
never_called (Err d) given h = cc
never_called (Ok c) given h = never_sent c.next (traded given) h

never_unsigned : (get : Bool) → (if get then Start else Deny denial.NoToken) ≡ Pass → ⊥
never_unsigned true h = cc
never_unsigned false h = cc

yes_said : (head : Head) (a b : Bool) (access : Option Bool)
    → step_of head (if a then access_said access else (if b then NoToken else BadReply)) ≡ Pass → (a ≡ true) × (access ≡ Some true)
yes_said head true b None h = cc
yes_said head true b (Some true) h = (refl, refl)
yes_said head true b (Some false) h = cc
yes_said head false true access h = absurd (never_unsigned (is_get head) h)
yes_said head false false access h = cc

equal_of : (a b : ℕ) → (a == b) ≡ true → a ≡ b
equal_of a b h = grind (arith, nat_tests)

by_token_passes : (door : Door) (head : Head) (token : Option (List ℕ)) (given : Given) → token_given head ≡ token → by_token head token given ≡ Pass
    → Admitted door head given (asks_access door token)
by_token_passes door head None given is h = absurd (never_unsigned (is_get head) h)
by_token_passes door head (Some token) (said (Some (status, body))) is h =
    let yes = yes_said head (status == 200) (status == 403) (access_in body) h in record {
      token = token;
      body = body;
      given_token = is;
      asks = refl;
      says = ap (λ (s : ℕ). said (Some (s, body))) (equal_of status 200 yes.0);
      admits = yes.1;
    }
by_token_passes door head (Some token) (said None) is h = cc
by_token_passes door head (Some token) failed is h = cc

-- by whether the request is a callback
pub admitted : (door : Door) (head : Head) (given : Given) (back : Bool)
    → (if back then by_called (called door head) given else by_token head (token_given head) given) ≡ Pass
    → Admitted door head given (if back then asks_trade door (called door head) else asks_access door (token_given head))
admitted door head given true h = absurd (never_called (called door head) given h)
admitted door head given false h = by_token_passes door head (token_given head) given refl h

-- ---- a callback that is no refusal

ok_of : (a b : Called) (r : Result Called Denial) → r ≡ Ok a → r ≡ Ok b → a ≡ b
ok_of a b r one two = cc

next_test : (code base target : List ℕ) (b : Bool) (call : Called) → is_next base target ≡ b
    → with_next code (if b then Some target else None) ≡ Ok call → is_next base call.next ≡ true
next_test code base target true call is h =
    subst (λ (c : Called). is_next base c.next ≡ true) (ok_of (record { code = code; next = target }) call (Ok (record { code = code; next = target })) refl h) is
next_test code base target false call is h = cc

state_test : (code base : List ℕ) (same : Bool) (next : Result (List ℕ) FromHexError) (call : Called)
    → (if same then with_next code (allowed base next) else Err denial.BadState) ≡ Ok call → (same ≡ true) × (is_next base call.next ≡ true)
state_test code base true (Ok target) call h = (refl, next_test code base target (is_next base target) call refl h)
state_test code base true (Err e) call h = cc
state_test code base false next call h = cc

-- the state and the cookie of a callback that is checked, and where it goes on
checked_test : (base : List ℕ) (code state cookie : Option (List ℕ)) (call : Called) → checked base code state cookie ≡ Ok call
    → ((s k : List ℕ) × (state ≡ Some s) × (cookie ≡ Some k) × (bytes_eq (take 32 k) s ≡ true)) × (is_next base call.next ≡ true)
checked_test base None state cookie call h = cc
checked_test base (Some code) None cookie call h = cc
checked_test base (Some code) (Some state) None call h = cc
checked_test base (Some code) (Some state) (Some cookie) call h =
    let both = state_test code base (bytes_eq (take 32 cookie) state) (decode_of (drop 33 cookie)) call h in
    ((state, cookie, refl, refl, both.0), both.1)

called_test : (door : Door) (head : Head) (call : Called) → called door head ≡ Ok call
    → ((s k : List ℕ) × (query_value (codes "state") (query_of head.target) ≡ Some s) × (cookie_of State head.headers ≡ Some k)
    × (bytes_eq (take 32 k) s ≡ true)) × (is_next (base_of door.key) call.next ≡ true)
unfolding called
called_test door head call h =
    checked_test (base_of door.key) (query_value (codes "code") (query_of head.target)) (query_value (codes "state") (query_of head.target))
    (cookie_of State head.headers) call h

called_state : (door : Door) (head : Head) (call : Called) → called door head ≡ Ok call → SameState head
called_state door head call h =
    let own = (called_test door head call h).0 in
    record { state = own.0; cookie = own.1; brought = own.2; kept = own.3; same = own.4 }

-- ---- a token that is given

pub step_gives : (door : Door) (head : Head) (s : Step) (draw : Option (List ℕ)) (token next : List ℕ)
    → answered door head s draw ≡ gives token next → s ≡ Give token next
step_gives door head Pass draw token next e = cc
step_gives door head (Deny d) draw token next e = cc
step_gives door head Start None token next e = cc
step_gives door head Start (Some d) token next e = cc
step_gives door head (Give t n) draw token next e = cc

sent_gives : (goes : List ℕ) (r : Result (List ℕ) Denial) (token next : List ℕ) → sent_back goes r ≡ Give token next → (r ≡ Ok token) × (next ≡ goes)
sent_gives goes (Ok t) token next h = (cc, cc)
sent_gives goes (Err d) token next h = cc

trade_gives : (a b : Bool) (t : Option (List ℕ)) (e : Bool) (token : List ℕ)
    → (if a then by_token_said t else Err (if b then by_error_said e else denial.BadHub)) ≡ Ok token → (a ≡ true) × (t ≡ Some token)
trade_gives true b None e token h = cc
trade_gives true b (Some t) e token h = (refl, cc)
trade_gives false b t e token h = cc

called_gives : (door : Door) (head : Head) (call : Result Called Denial) (given : Given) (token next : List ℕ) → called door head ≡ call
    → by_called call given ≡ Give token next → Traded door head given (asks_trade door call) token next
called_gives door head (Err d) given token next is h = cc
called_gives door head (Ok c) (said (Some (status, body))) token next is h =
    let sent = sent_gives c.next (by_trade status body) token next h in
    let gave = trade_gives (status == 200) (status == 400) (token_in body) (has_error body) token sent.0 in record {
      own = called_state door head c is;
      call = c;
      body = body;
      calls = is;
      asks = refl;
      says = ap (λ (s : ℕ). said (Some (s, body))) (equal_of status 200 gave.0);
      has = gave.1;
      goes = sent.1;
    }
called_gives door head (Ok c) (said None) token next is h = cc
called_gives door head (Ok c) failed token next is h = cc

unsigned_gives : (get : Bool) (token next : List ℕ) → (if get then Start else Deny denial.NoToken) ≡ Give token next → ⊥
unsigned_gives true token next h = cc
unsigned_gives false token next h = cc

access_gives : (head : Head) (a b : Bool) (access : Option Bool) (token next : List ℕ)
    → step_of head (if a then access_said access else (if b then NoToken else BadReply)) ≡ Give token next → ⊥
access_gives head true b None token next h = cc
access_gives head true b (Some true) token next h = cc
access_gives head true b (Some false) token next h = cc
access_gives head false true access token next h = unsigned_gives (is_get head) token next h
access_gives head false false access token next h = cc

by_token_gives : (head : Head) (t : Option (List ℕ)) (given : Given) (token next : List ℕ) → by_token head t given ≡ Give token next → ⊥
by_token_gives head None given token next h = unsigned_gives (is_get head) token next h
by_token_gives head (Some t) (said (Some (status, body))) token next h =
    access_gives head (status == 200) (status == 403) (access_in body) token next h
by_token_gives head (Some t) (said None) token next h = cc
by_token_gives head (Some t) failed token next h = cc

pub traded_for : (door : Door) (head : Head) (given : Given) (back : Bool) (token next : List ℕ)
    → (if back then by_called (called door head) given else by_token head (token_given head) given) ≡ Give token next
    → Traded door head given (if back then asks_trade door (called door head) else asks_access door (token_given head)) token next
traded_for door head given true token next h = called_gives door head (called door head) given token next refl h
traded_for door head given false token next h = absurd (by_token_gives head (token_given head) given token next h)

-- it goes on within the server's paths
pub within : (door : Door) (head : Head) (given : Given) (ask : Option (List ℕ)) (token next : List ℕ) → Traded door head given ask token next
    → is_next (base_of door.key) next ≡ true
within door head given ask token next traded =
    subst (λ (n : List ℕ). is_next (base_of door.key) n ≡ true) (sym traded.goes) (called_test door head traded.call traded.calls).1
