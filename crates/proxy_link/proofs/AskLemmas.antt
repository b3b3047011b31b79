-- What was asked of a proxy by one call.
use Rattle.std.proofs.Common.{◌≡◌, ℕ, Bool, true, false, List, [], ◌∷◌, Option, Result, Ok, Err, IfOk, IfErr, is_ok, inl, inr, refl, sym, subst, ◌∙◌}
use Rattle.hub_devices.specs.declared.link_error.LinkError.{LinkError}
use Rattle.hub_devices.specs.declared.link_error.LinkError.TheVariants as Link
use Rattle.hub_devices.specs.declared.source.Failed.{Failed}
use Rattle.hub_devices.specs.declared.calls.ListedRoute.{ListedRoute}
use Rattle.hub_devices.specs.Calls.{Grows}
use Rattle.hub_link.specs.Links.{Exchange, Asks, reply_of}
use Rattle.hub_link.proofs.AskLemmas.{no_ask, one_ask}
use Rattle.proxy_link.specs.Asks.{HasStatus, Changes, Fails, Lists, ChangeTold, is_told_done}
use Rattle.std.proofs.lemmas.Result.{IfOk-weaker}
use Rattle.hub_link.specs.Replies.{Says}
use Rattle.proxy_link.specs.Readings.{IsListedBy, listed_in}

-- of a path, and of a text that is none
pub changed : (path : Bool) (is_done : Option ℕ → Bool) (request bytes : List ℕ) (status : Option ℕ) (done : Bool) → path ≡ true → HasStatus bytes status
    → done ≡ is_done status → Changes path is_done request ((request, Ok bytes) ∷ []) done
changed true is_done request bytes status done is says told = (bytes, status, refl, says, told)
changed false is_done request bytes status done is says told = absurd (cc is)

pub unchanged : (path : Bool) (is_done : Option ℕ → Bool) (request : List ℕ) → path ≡ false → Changes path is_done request [] false
unchanged true is_done request is = absurd (cc is)
unchanged false is_done request is = (refl, refl)

-- a reply that was read
pub listed : {E : Type 0} (bytes : List ℕ) (said : Option (ℕ × List ℕ)) (result : Result (Option (List ListedRoute)) E) → Says bytes said
    → IfOk result (λ routes. routes ≡ listed_in said) → IfOk result (IsListedBy bytes)
listed bytes said result says found = IfOk-weaker result (λ routes. routes ≡ listed_in said) (IsListedBy bytes) (λ routes is. (said, says, is)) found

module _ {L : Type 0} (asked : L → Option (List (List ℕ × Option (List ℕ)))) (does : L → List ℕ → Result (List ℕ) LinkError → L → Type 0) where
  -- the status of the reply decides
  pub answered : (old new : L) (path : Bool) (is_done : Option ℕ → Bool) (said request : List ℕ) (status : Option ℕ) (done : Bool)
      → path ≡ true → said ≡ request → done ≡ is_done status
      → (bytes : List ℕ) × Asks asked does old ((said, Ok bytes) ∷ []) new × HasStatus bytes status
      → (asks : List Exchange) × Asks asked does old asks new × Changes path is_done request asks done
  answered old new path is_done said request status done is same told (bytes, asks, says) = (
    (request, Ok bytes) ∷ [],
    subst (λ (r : List ℕ). Asks asked does old ((r, Ok bytes) ∷ []) new) same asks,
    changed path is_done request bytes status done is says told,
  )

  -- a text that is no path
  pub unasked : (link : L) (path : Bool) (is_done : Option ℕ → Bool) (request : List ℕ) → path ≡ false
      → (asks : List Exchange) × Asks asked does link asks link × Changes path is_done request asks false
  unasked link path is_done request is = ([], no_ask asked does link, unchanged path is_done request is)

  -- the link failed, or memory was wanting at it
  pub failing : (old new : L) (said request : List ℕ) (e : LinkError) → said ≡ request
      → (asks : List Exchange) × Asks asked does old asks new × Fails said asks e
      → (asks : List Exchange) × Asks asked does old asks new × Fails request asks e
  failing old new said request e same (asks, were, fails) = (asks, were, subst (λ (r : List ℕ). Fails r asks e) same fails)

  -- memory was wanting before the request
  pub wanting : (link : L) (request : List ℕ) → (asks : List Exchange) × Asks asked does link asks link × Fails request asks Link.Memory
  wanting link request = ([], no_ask asked does link, inl refl)

  -- what a route link tells of a change
  pub told : (old new : L) (path : Bool) (is_done : Option ℕ → Bool) (request : List ℕ) (done : Result Bool LinkError) (told : Result Unit Failed)
      → IfOk done (λ d. (asks : List Exchange) × Asks asked does old asks new × Changes path is_done request asks d)
      → IfErr done (λ e. (asks : List Exchange) × Asks asked does old asks new × Fails request asks e)
      → is_ok told ≡ is_told_done done
      → (asks : List Exchange) × Asks asked does old asks new × ChangeTold path is_done request asks told
  told old new path is_done request (Ok true) (Ok unit) (asks, were, changes) err is = (asks, were, changes)
  told old new path is_done request (Ok true) (Err e) ok err is = absurd (cc is)
  told old new path is_done request (Ok false) (Ok unit) ok err is = absurd (cc is)
  told old new path is_done request (Ok false) (Err e) (asks, were, changes) err is = (asks, were, inl changes)
  told old new path is_done request (Err fault) (Ok unit) ok err is = absurd (cc is)
  told old new path is_done request (Err fault) (Err e) ok (asks, were, fails) is = (asks, were, inr (fault, fails))

  -- the bytes that came, read as a list
  pub lists : (old new : L) (said request bytes slice : List ℕ) (routes : Option (List ListedRoute)) → said ≡ request
      → does old said (Ok bytes) new → Grows (asked old) ((said, reply_of (Ok bytes)) ∷ []) (asked new) → slice ≡ bytes → IsListedBy slice routes
      → (asks : List Exchange) × Asks asked does old asks new × Lists request asks routes
  lists old new said request bytes slice routes is met told same found = (
    (request, Ok bytes) ∷ [],
    one_ask asked does old new said request (Ok bytes) is met told,
    (bytes, refl, subst (λ (b : List ℕ). IsListedBy b routes) same found),
  )

  -- memory was wanting, whatever came
  pub unread : (old new : L) (said request : List ℕ) (given : Result (List ℕ) LinkError) → said ≡ request
      → does old said given new → Grows (asked old) ((said, reply_of given) ∷ []) (asked new)
      → (asks : List Exchange) × Asks asked does old asks new × Fails request asks Link.Memory
  unread old new said request given is met told =
      ((request, given) ∷ [], one_ask asked does old new said request given is met told, inr (given, refl))
