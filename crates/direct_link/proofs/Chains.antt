-- What a chain of asks is by what is seen of the link.
use Rattle.std.proofs.Common.{◌≡◌, ℕ, List, [], ◌∷◌, Result, ap, ◌∙◌}
use Rattle.hub_devices.specs.declared.link_error.LinkError.{LinkError}
use Rattle.hub_link.specs.Links.{Exchange, Chain}

pub chain_seen : {L V : Type 0} (old new : L) (asks : List Exchange) (view : L → V) (seen : V → List ℕ → Result (List ℕ) LinkError → V → Type 0)
    (does : L → List ℕ → Result (List ℕ) LinkError → L → Type 0)
    → ((a b : L) (request : List ℕ) (given : Result (List ℕ) LinkError) → does a request given b → seen (view a) request given (view b))
    → Chain does old asks new → Chain seen (view old) asks (view new)
chain_seen old new [] view seen does is same = ap view same
chain_seen old new ((request, given) ∷ asks) view seen does is (next, one, more) =
    (view next, is old next request given one, chain_seen next new asks view seen does is more)

pub chain_keeps : {L N : Type 0} (old new : L) (asks : List Exchange) (name : L → N)
    (does : L → List ℕ → Result (List ℕ) LinkError → L → Type 0)
    → ((a b : L) (request : List ℕ) (given : Result (List ℕ) LinkError) → does a request given b → name b ≡ name a)
    → Chain does old asks new → name new ≡ name old
chain_keeps old new [] name does is same = ap name same
chain_keeps old new ((request, given) ∷ asks) name does is (next, one, more) =
    chain_keeps next new asks name does is more ∙ is old next request given one
