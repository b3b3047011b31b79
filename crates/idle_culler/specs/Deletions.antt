-- The deletions of a round, and what a hub answered.
use Rattle.std.specs.Prelude.{◌≡◌, ◌⊎◌, ℕ, ◌==◌, ◌&&◌, ◌||◌, Bool, true, false, not, List, [], ◌∷◌, ◌++◌, length, filter, Option, Some}
use Rattle.std.specs.Prelude.{None, Result, Ok, Err}
use Rattle.hub_devices.specs.declared.link_error.LinkError.{LinkError}
use Rattle.hub_devices.specs.declared.link_error.LinkError.TheVariants as Link
use Rattle.hub_link.specs.Links.{Exchange}
use Rattle.hub_link.specs.Replies.{IsReply, IsNoReply}
use Rattle.idle_culler.specs.Requests.{deletion_request, removal_request}
use Rattle.idle_culler.specs.declared.rules.Cull.{Cull}
use Rattle.idle_culler.specs.declared.rules.Cull.TheVariants as Of
use Rattle.idle_culler.specs.declared.pages.CullFault.{CullFault}
use Rattle.idle_culler.specs.declared.pages.CullFault.TheVariants.{LinkFault, BadReply, Memory}

-- the status of a reply, if the bytes are one
abbrev pub HasStatus : List ℕ → Option ℕ → Type 0
HasStatus bytes (Some status) = (body : List ℕ) × IsReply bytes status body
HasStatus bytes None = IsNoReply bytes

-- accepted: done, or under way
abbrev pub is_done : Option ℕ → Bool
is_done (Some status) = (status == 202) || (status == 204)
is_done None = false

abbrev pub is_named_server : Cull → Bool
is_named_server (Of.Server key) = not (length key.server == 0)
is_named_server (Of.User user) = false

abbrev pub is_gone : Option ℕ → Bool
is_gone (Some status) = status == 204
is_gone None = false

-- a named server is removed once its stop is done, where that is wished
abbrev pub is_removed : Bool → Cull → Option ℕ → Bool
is_removed remove cull status = remove && is_named_server cull && is_gone status

-- the second ask, where there is one to be
abbrev pub Removes : List ℕ → Cull → Bool → List Exchange → Type 0
Removes token cull true asks = (bytes : List ℕ) × (asks ≡ (removal_request token cull, Ok bytes) ∷ [])
Removes token cull false asks = asks ≡ []

-- all that is asked for one entry, and whether the hub accepted it
pub record Deletes (token : List ℕ) (remove : Bool) (cull : Cull) (asks : List Exchange) (done : Bool) : Type 0 where
  pub bytes : List ℕ
  pub status : Option ℕ
  pub second : List Exchange
  pub asked : asks ≡ (deletion_request token cull, Ok bytes) ∷ second
  pub says : HasStatus bytes status
  pub removes : Removes token cull (is_removed remove cull status) second
  pub is : done ≡ is_done status

-- the same of all entries, one after the other
abbrev pub DeletesAll : List ℕ → Bool → List Cull → List Exchange → List Bool → Type 0
DeletesAll token remove [] asks outcomes = (asks ≡ []) × (outcomes ≡ [])
DeletesAll token remove (cull ∷ culls) asks outcomes =
    (here : List Exchange) × (rest : List Exchange) × (done : Bool) × (others : List Bool)
    × (asks ≡ here ++ rest) × (outcomes ≡ done ∷ others)
    × Deletes token remove cull here done × DeletesAll token remove culls rest others

abbrev pub culled_count : List Bool → ℕ
culled_count outcomes = length (filter (λ done. done) outcomes)

abbrev pub refused_count : List Bool → ℕ
refused_count outcomes = length (filter not outcomes)

-- ---- what was asked till a fault

-- nothing was asked, or this was, whatever came of it
abbrev pub IsAtMost : List ℕ → List Exchange → Type 0
IsAtMost request asks = (asks ≡ []) ⊎ ((given : Result (List ℕ) LinkError) × (asks ≡ (request, given) ∷ []))

-- the removal was asked behind an answer that calls for it
pub record BeginsRemoval (token : List ℕ) (remove : Bool) (cull : Cull) (asks : List Exchange) : Type 0 where
  pub bytes : List ℕ
  pub status : Option ℕ
  pub second : List Exchange
  pub asked : asks ≡ (deletion_request token cull, Ok bytes) ∷ second
  pub says : HasStatus bytes status
  pub due : is_removed remove cull status ≡ true
  pub begins : IsAtMost (removal_request token cull) second

-- a beginning of what is asked for one entry
abbrev pub BeginsDeletion : List ℕ → Bool → Cull → List Exchange → Type 0
BeginsDeletion token remove cull asks = IsAtMost (deletion_request token cull) asks ⊎ BeginsRemoval token remove cull asks

abbrev pub BeginsNext : List ℕ → Bool → List Cull → List Exchange → Type 0
BeginsNext token remove [] asks = asks ≡ []
BeginsNext token remove (cull ∷ culls) asks = BeginsDeletion token remove cull asks

-- a beginning of what is asked for all entries
pub record BeginsDeletions (token : List ℕ) (remove : Bool) (culls : List Cull) (asks : List Exchange) : Type 0 where
  pub front : List Cull
  pub left : List Cull
  pub whole : List Exchange
  pub last : List Exchange
  pub outcomes : List Bool
  pub split : culls ≡ front ++ left
  pub deletes : DeletesAll token remove front whole outcomes
  pub next : BeginsNext token remove left last
  pub asked : asks ≡ whole ++ last

-- the last ask failed
abbrev pub EndsInFault : List Exchange → Type 0
EndsInFault asks = (front : List Exchange) × (request : List ℕ) × (asks ≡ front ++ (request, Err Link.Failed) ∷ [])

-- a fault of the link is its last ask's, and want of memory is free
abbrev pub IsLinkFault : List Exchange → CullFault → Type 0
IsLinkFault asks LinkFault = EndsInFault asks
IsLinkFault asks (BadReply status) = ⊥
IsLinkFault asks Memory = Unit {0}
