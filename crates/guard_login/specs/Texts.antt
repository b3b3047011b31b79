-- The texts of a sign-in.
use Rattle.std.specs.Prelude.{Bool, ℕ, List, [], ◌++◌, length, codes, decimal, if◌then◌else◌}
use Rattle.form_urlencoded.specs.Form.{append_pair}
use Rattle.hub_kit.specs.declared.names.ServerKey.{ServerKey}
use Rattle.guard_login.specs.Nexts.{base_of}
use Rattle.guard_login.specs.declared.door.Door.{Door}

-- the client of a server: `server:U/S`
abbrev pub client_of : ServerKey → List ℕ
client_of key = codes "server:" ++ (key.user ++ (codes "/" ++ key.server))

-- where the hub sends a browser back
abbrev pub callback_of : ServerKey → List ℕ
callback_of key = base_of key ++ codes "oauth_callback"

-- the query of the sign-in at the hub
unfoldable pub authorize_pairs : List ℕ → List ℕ → List ℕ → List ℕ
authorize_pairs client callback state =
    append_pair (append_pair (append_pair (append_pair [] (codes "client_id") client) (codes "redirect_uri") callback)
    (codes "response_type") (codes "code")) (codes "state") state

-- That query for the server's client, with this state
abbrev pub authorize_form : ServerKey → List ℕ → List ℕ
authorize_form key state = authorize_pairs (client_of key) (callback_of key) state

-- where a browser signs in
unfoldable pub authorize_url : Door → List ℕ → List ℕ
authorize_url door state = door.hub ++ codes "/hub/api/oauth2/authorize?" ++ authorize_form door.key state

-- The fields of a trade: the client with its secret, the code, and where the hub sent the browser back
unfoldable pub trade_pairs : List ℕ → List ℕ → List ℕ → List ℕ → List ℕ
trade_pairs client secret code callback =
    append_pair (append_pair (append_pair (append_pair (append_pair [] (codes "client_id") client) (codes "client_secret") secret)
    (codes "code") code) (codes "grant_type") (codes "authorization_code")) (codes "redirect_uri") callback

-- the body of a trade
unfoldable pub trade_form : Door → List ℕ → List ℕ
trade_form door code = trade_pairs (client_of door.key) door.secret code (callback_of door.key)

-- the request that trades a code
unfoldable pub trade_text : Door → List ℕ → List ℕ
trade_text door code =
    codes "POST /hub/api/oauth2/token HTTP/1.1\r\nHost: hub\r\nContent-Type: application/x-www-form-urlencoded\r\nContent-Length: "
    ++ decimal (length (trade_form door code)) ++ codes "\r\nConnection: close\r\n\r\n" ++ trade_form door code

-- sends a browser to a place, with lines of cookies
unfoldable pub found_text : List ℕ → List ℕ → List ℕ
found_text location lines =
    codes "HTTP/1.1 302 Found\r\nContent-Length: 0\r\nLocation: " ++ location ++ codes "\r\n" ++ lines ++ codes "Connection: close\r\n\r\n"

-- how a line ends that sets a cookie: no script reads it, no form of another site sends it, and a secure one goes over TLS alone
abbrev pub cookie_end : Bool → List ℕ
cookie_end secure = if secure then codes "; HttpOnly; SameSite=Lax; Secure\r\n" else codes "; HttpOnly; SameSite=Lax\r\n"

-- the cookie of a sign-in: STATE.NEXT
unfoldable pub state_line : Bool → List ℕ → List ℕ → List ℕ → List ℕ
state_line secure base state next =
    codes "Set-Cookie: hub-guard-state=" ++ state ++ codes "." ++ next ++ codes "; Path=" ++ base ++ cookie_end secure

-- the cookie of a token
unfoldable pub token_line : Bool → List ℕ → List ℕ → List ℕ
token_line secure base token = codes "Set-Cookie: hub-guard=" ++ token ++ codes "; Path=" ++ base ++ cookie_end secure

-- the same, and the end of the cookie of its sign-in
unfoldable pub token_lines : Bool → List ℕ → List ℕ → List ℕ
token_lines secure base token =
    token_line secure base token ++ codes "Set-Cookie: hub-guard-state=; Path=" ++ base ++ codes "; Max-Age=0\r\n"

-- to the hub, where the browser signs in
unfoldable pub sends_text : Door → List ℕ → List ℕ → List ℕ
sends_text door state next = found_text (authorize_url door state) (state_line door.secure_cookies (base_of door.key) state next)

-- back to where it wanted to go, with its token
unfoldable pub gives_text : Door → List ℕ → List ℕ → List ℕ
gives_text door token next = found_text next (token_lines door.secure_cookies (base_of door.key) token)
