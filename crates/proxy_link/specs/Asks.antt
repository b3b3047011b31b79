-- What is asked of a proxy, and what its replies come to.
use Rattle.std.specs.Prelude.{◌≡◌, ◌⊎◌, ℕ, ◌==◌, ◌||◌, Bool, true, false, if◌then◌else◌, List, [], ◌∷◌, Option, Some, None, Result, Ok, Err}
use Rattle.hub_devices.specs.FailingCalls.{one_more}
use Rattle.hub_devices.specs.declared.calls.ListedRoute.{ListedRoute}
use Rattle.hub_devices.specs.declared.link_error.LinkError.{LinkError}
use Rattle.hub_devices.specs.declared.link_error.LinkError.TheVariants as Link
use Rattle.hub_devices.specs.declared.source.Failed.{Failed}
use Rattle.hub_link.specs.Links.{Exchange}
use Rattle.hub_link.specs.Replies.{IsReply, IsNoReply}
use Rattle.proxy_link.specs.Readings.{IsListedBy}

-- the status of a reply, if the bytes are one
abbrev pub HasStatus : List ℕ → Option ℕ → Type 0
HasStatus bytes (Some status) = (body : List ℕ) × IsReply bytes status body
HasStatus bytes None = IsNoReply bytes

abbrev pub is_added : Option ℕ → Bool
is_added (Some status) = status == 201
is_added None = false

-- deleted, not there, or added later
abbrev pub is_deleted : Option ℕ → Bool
is_deleted (Some status) = status == 204 || status == 404 || status == 409
is_deleted None = false

-- ---- one change of a route

-- The request was asked once, and the status of the reply says whether the change is done. Of a text that is no path nothing is asked, and
-- it isn't done
abbrev pub Changes : (is_path : Bool) → (Option ℕ → Bool) → (request : List ℕ) → List Exchange → (done : Bool) → Type 0
Changes true is_done request asks done =
    (bytes : List ℕ) × (status : Option ℕ) × (asks ≡ (request, Ok bytes) ∷ []) × HasStatus bytes status × (done ≡ is_done status)
Changes false is_done request asks done = (asks ≡ []) × (done ≡ false)

-- nothing was asked, or this was, whatever came of it
abbrev pub IsAtMost : List ℕ → List Exchange → Type 0
IsAtMost request asks = (asks ≡ []) ⊎ ((given : Result (List ℕ) LinkError) × (asks ≡ (request, given) ∷ []))

-- the link failed at the request; want of memory is free, and asks nothing else
abbrev pub Fails : List ℕ → List Exchange → LinkError → Type 0
Fails request asks Link.Failed = asks ≡ (request, Err Link.Failed) ∷ []
Fails request asks Link.Memory = IsAtMost request asks

-- ---- the list

-- the request was asked once, and the reply lists these routes, or none
abbrev pub Lists : List ℕ → List Exchange → Option (List ListedRoute) → Type 0
Lists request asks routes = (bytes : List ℕ) × (asks ≡ (request, Ok bytes) ∷ []) × IsListedBy bytes routes

-- ---- a route link

-- a change that the link tells as done, or as failed: a reply that says so, a link that failed, or want of memory
abbrev pub ChangeTold : Bool → (Option ℕ → Bool) → List ℕ → List Exchange → Result Unit Failed → Type 0
ChangeTold is_path is_done request asks (Ok done) = Changes is_path is_done request asks true
ChangeTold is_path is_done request asks (Err e) =
    Changes is_path is_done request asks false ⊎ ((e : LinkError) × Fails request asks e)

-- the list is one that a call couldn't give: the reply lists none, or the link failed; or memory was wanting
abbrev pub ListFails : List ℕ → List Exchange → LinkError → Type 0
ListFails request asks Link.Failed = Lists request asks None ⊎ Fails request asks Link.Failed
ListFails request asks Link.Memory = Fails request asks Link.Memory

abbrev pub is_told_done : Result Bool LinkError → Bool
is_told_done (Ok done) = done
is_told_done (Err e) = false

-- a count of faults rises exactly where a call has failed
abbrev pub counted : Bool → ℕ → ℕ
counted failed faults = if failed then one_more faults else faults
