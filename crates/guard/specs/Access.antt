-- Whether a hub admits a token: what it is asked, and what its reply says.
use Rattle.std.specs.Prelude.{◌≡◌, ◌⊎◌, ◌==◌, ℕ, Bool, true, false, List, [], ◌∷◌, ◌++◌, Option, Some, None, Result, Ok, Err, if◌then◌else◌}
use Rattle.std.specs.Prelude.{codes}
use Rattle.hub_devices.specs.declared.link_error.LinkError.{LinkError}
use Rattle.hub_devices.specs.declared.link_error.LinkError.TheVariants.{Failed, Memory}
use Rattle.hub_kit.specs.declared.names.ServerKey.{ServerKey}
use Rattle.hub_link.specs.Links.{Exchange}
use Rattle.hub_link.specs.Replies.{Says}
use Rattle.request_parts.specs.Bodies.{◌>>=◌, body_object, truth_at}
use Rattle.guard.specs.declared.access.Access.{Access}
use Rattle.guard.specs.declared.access.Access.TheVariants.{Yes, No, NoToken, BadReply}

-- the request that asks whether a token admits to a server
unfoldable pub access_request : ServerKey → List ℕ → List ℕ
access_request key token =
    codes "GET /hub/api/user?for=" ++ key.user ++ codes "/" ++ key.server
    ++ codes " HTTP/1.1\r\nHost: hub\r\nAuthorization: token " ++ token ++ codes "\r\nConnection: close\r\n\r\n"

-- the truth value at `access` in a body, if one is there
abbrev pub access_in : List ℕ → Option Bool
access_in body = body_object body >>= truth_at (codes "access")

-- What a hub says of a token, by the truth value in the body of its reply, if one is there
abbrev pub access_said : Option Bool → Access
access_said None = BadReply
access_said (Some true) = Yes
access_said (Some false) = No

-- What a hub says of a token, by its reply's status and body
abbrev pub access_by : ℕ → List ℕ → Access
access_by status body =
    if status == 200 then access_said (access_in body) else if status == 403 then NoToken else BadReply

-- What a hub says of a token, by what the bytes of its reply say, if they are a reply
abbrev pub access_of : Option (ℕ × List ℕ) → Access
access_of None = BadReply
access_of (Some (status, body)) = access_by status body

-- what the bytes of a reply say of a token
abbrev pub IsAccessOf : List ℕ → Access → Type 0
IsAccessOf bytes access = (said : Option (ℕ × List ℕ)) × Says bytes said × (access ≡ access_of said)

-- The request was asked once and nothing else, and the bytes that came say this of the token
abbrev pub IsAnswered : List ℕ → List Exchange → Access → Type 0
IsAnswered request asks access = (bytes : List ℕ) × (asks ≡ (request, Ok bytes) ∷ []) × IsAccessOf bytes access

-- The request was asked once and failed; or there was no memory, and it was asked once or not at all
abbrev pub IsUnanswered : List ℕ → List Exchange → LinkError → Type 0
IsUnanswered request asks Failed = asks ≡ (request, Err Failed) ∷ []
IsUnanswered request asks Memory = (asks ≡ []) ⊎ ((given : Result (List ℕ) LinkError) × (asks ≡ (request, given) ∷ []))
