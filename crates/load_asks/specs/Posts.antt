-- The posts of a job.
use Rattle.std.specs.Prelude.{◌≡◌, ℕ, zero, suc, List, [], ◌∷◌, ◌++◌, map, All, Option, Result, Ok, Err}
use Rattle.hub_devices.specs.declared.link_error.LinkError.{LinkError}
use Rattle.hub_link.specs.Links.{Exchange, Asks}
use Rattle.hub_link.specs.Replies.{IsReply}
use Rattle.load_asks.specs.Requests.{user_request, token_request}

-- the requests that post the first n users, each with a token
abbrev pub posts : ℕ → List (List ℕ)
posts zero = []
posts (suc n) = posts n ++ (user_request n ∷ token_request n ∷ [])

-- the reply is a 201
abbrev pub IsAccepted : Exchange → Type 0
IsAccepted (request, Ok bytes) = (body : List ℕ) × IsReply bytes 201 body
IsAccepted (request, Err e) = ⊥

abbrev pub request_of : Exchange → List ℕ
request_of (request, given) = request

-- the link was asked exactly these requests, in this order, and each was accepted
pub record Accepted {L : Type 0} (asked : L → Option (List (List ℕ × Option (List ℕ))))
    (does : L → List ℕ → Result (List ℕ) LinkError → L → Type 0) (old : L) (requests : List (List ℕ)) (new : L) : Type 0 where
  pub asks : List Exchange
  pub chain : Asks asked does old asks new
  pub are : map request_of asks ≡ requests
  pub accepted : All IsAccepted asks

-- the link was asked something, or nothing
abbrev pub Reached : {L : Type 0} → (L → Option (List (List ℕ × Option (List ℕ)))) → (L → List ℕ → Result (List ℕ) LinkError → L → Type 0)
    → L → L → Type 0
Reached asked does old new = (asks : List Exchange) × Asks asked does old asks new
