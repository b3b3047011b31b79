-- One request of the API: what it is answered, and what it leaves of the table.
use Rattle.std.specs.Prelude.{◌≡◌, ◌⊎◌, ℕ, Bool, false, List, [], ◌∷◌, ◌++◌, bytes_eq, Option, Some, None, Result, Ok, Err, if◌then◌else◌}
use Rattle.std.specs.List.{filter}
use Rattle.hub_devices.specs.Faults.{Rises}
use Rattle.http_wire.specs.declared.error.SessionFault.{SessionFault}
use Rattle.http_wire.specs.declared.error.SessionFault.TheVariants.{ReadFault}
use Rattle.http_wire.specs.declared.error.WireError.{WireError}
use Rattle.http_wire.specs.declared.error.WireError.TheVariants as wire
use Rattle.http_wire.specs.declared.request.Request.{Request}
use Rattle.http_wire.specs.Body.{RequestRefusedAt, WithinRequest}
use Rattle.http_wire.specs.Request.{IsRequestText}
use Rattle.http_wire.specs.Took.{Took}
use Rattle.route_table.specs.declared.route.RouteEntry.{RouteEntry}
use Rattle.route_table.specs.declared.route.RouteRefusal.{RouteRefusal}
use Rattle.route_table.specs.declared.route.RouteRefusal.TheVariants as route
use Rattle.route_table.specs.Path.{segments}
use Rattle.route_table.specs.Table.{Table, add_refusal, added, IsDeletion, IsAfterDeletion, routes_in, is_idle_since}
use Rattle.proxy_api.specs.declared.calls.ApiRefusal.{ApiRefusal}
use Rattle.proxy_api.specs.declared.calls.ApiRefusal.TheVariants.{BadHead, TooLarge, Coding, NoToken, Table as OfTable, Memory}
use Rattle.proxy_api.specs.declared.calls.Call.{Call}
use Rattle.proxy_api.specs.declared.calls.Call.TheVariants as call
use Rattle.proxy_api.specs.declared.texts.ApiReply.{ApiReply}
use Rattle.proxy_api.specs.declared.texts.ApiReply.TheVariants.{Listed, Added, Deleted, Refused}
use Rattle.proxy_api.specs.Calls.{route_path, call_of}
use Rattle.proxy_api.specs.Entries.{entry_said}
use Rattle.proxy_api.specs.Listings.{IsListing}
use Rattle.proxy_api.specs.Queries.{since_asked, serial_given}
use Rattle.proxy_api.specs.Texts.{IsReplied}

abbrev pub is_token : List ℕ → Option (List ℕ) → Bool
is_token secret None = false
is_token secret (Some token) = bytes_eq token secret

-- the call of a request, or the first refusal: the token, and then the place and the method
abbrev pub judged : List ℕ → Request → Result Call ApiRefusal
judged secret request =
    if is_token secret request.token then call_of request.method (route_path request.path) else Err NoToken

-- what a refusal of the table is to the client
abbrev pub table_refusal : RouteRefusal → ApiRefusal
table_refusal route.NotFound = OfTable route.NotFound
table_refusal (route.Stale given seen) = OfTable (route.Stale given seen)
table_refusal (route.BadPath at) = OfTable (route.BadPath at)
table_refusal route.BadTarget = OfTable route.BadTarget
table_refusal (route.Full limit) = OfTable (route.Full limit)
table_refusal route.Memory = Memory

abbrev pub IsListedBy : Table → Result (Option ℕ) ApiRefusal → ApiReply → Type 0
IsListedBy t (Err refusal) reply = reply ≡ Refused refusal
IsListedBy t (Ok since) reply =
    (text : List ℕ) × (reply ≡ Listed text) × IsListing (filter (is_idle_since since) (routes_in t.rows)) text

-- a listing: the query's refusal, or the routes that were last used before the moment
abbrev pub IsListed : Table → List ℕ → ApiReply → Type 0
IsListed t query reply = (reply ≡ Refused Memory) ⊎ IsListedBy t (since_asked query) reply

abbrev pub IsPut : Table → List ℕ → RouteEntry → ℕ → Option RouteRefusal → ApiReply → Table → Type 0
IsPut t path entry now None reply t' = (reply ≡ Added) × (t' ≡ added t (segments path) entry now)
IsPut t path entry now (Some refusal) reply t' = (reply ≡ Refused (table_refusal refusal)) × (t' ≡ t)

abbrev pub IsAddedBy : Table → List ℕ → Result RouteEntry ApiRefusal → ℕ → ApiReply → Table → Type 0
IsAddedBy t path (Err refusal) now reply t' = (reply ≡ Refused refusal) × (t' ≡ t)
IsAddedBy t path (Ok entry) now reply t' = IsPut t path entry now (add_refusal t path entry.serial) reply t'

-- an addition: the body's refusal, that of the table, or the table with the route
abbrev pub IsAdded : Table → List ℕ → List ℕ → ℕ → ApiReply → Table → Type 0
IsAdded t path body now reply t' =
    ((reply ≡ Refused Memory) × (t' ≡ t)) ⊎ IsAddedBy t path (entry_said body) now reply t'

abbrev pub deletion_reply : Result (Unit {0}) RouteRefusal → ApiReply
deletion_reply (Ok done) = Deleted
deletion_reply (Err refusal) = Refused (table_refusal refusal)

abbrev pub IsDeletedBy : Table → List ℕ → Result (Option ℕ) ApiRefusal → ApiReply → Table → Type 0
IsDeletedBy t path (Err refusal) reply t' = (reply ≡ Refused refusal) × (t' ≡ t)
IsDeletedBy t path (Ok serial) reply t' =
    (result : Result (Unit {0}) RouteRefusal) × IsDeletion t path serial result × IsAfterDeletion t path serial t' result
    × (reply ≡ deletion_reply result)

-- a deletion: the query's refusal, or what the table answers
abbrev pub IsDeleted : Table → List ℕ → List ℕ → ApiReply → Table → Type 0
IsDeleted t path query reply t' =
    ((reply ≡ Refused Memory) × (t' ≡ t)) ⊎ IsDeletedBy t path (serial_given query) reply t'

-- the path of the route
abbrev pub path_of : Option (List ℕ) → List ℕ
path_of None = 47 ∷ []
path_of (Some path) = path

-- what a request that was judged is answered, and what it leaves of the table
abbrev pub IsAnswered : Result Call ApiRefusal → Table → ℕ → Request → ApiReply → Table → Type 0
IsAnswered (Err refusal) t now request reply t' = (reply ≡ Refused refusal) × (t' ≡ t)
IsAnswered (Ok call.List) t now request reply t' = IsListed t request.query reply × (t' ≡ t)
IsAnswered (Ok call.Add) t now request reply t' = IsAdded t (path_of (route_path request.path)) request.body now reply t'
IsAnswered (Ok call.Delete) t now request reply t' = IsDeleted t (path_of (route_path request.path)) request.query reply t'

-- what is written where there is no request; 0 where the input ends before or inside one
abbrev pub IsStopped : WireError → Option (List ℕ) → Option (List ℕ) → ℕ → ℕ → Result ℕ SessionFault → Type 0
IsStopped wire.BadHead held held' writes writes' result = IsReplied (Refused BadHead) held held' writes writes' result
IsStopped (wire.TooLarge n) held held' writes writes' result = IsReplied (Refused TooLarge) held held' writes writes' result
IsStopped wire.Coding held held' writes writes' result = IsReplied (Refused Coding) held held' writes writes' result
IsStopped wire.Memory held held' writes writes' result = IsReplied (Refused Memory) held held' writes writes' result
IsStopped wire.Ended held held' writes writes' result = (result ≡ Ok 0) × (held' ≡ held)
IsStopped wire.Cut held held' writes writes' result = (result ≡ Ok 0) × (held' ≡ held)
IsStopped wire.ReadFault held held' writes writes' result = (result ≡ Err (ReadFault 0)) × (held' ≡ held)

-- what a call on one request touches
pub record Place : Type 0 where
  pub left : Option (List ℕ)
  pub held : Option (List ℕ)
  pub reads : ℕ
  pub writes : ℕ

-- of something that answers the API: of a secret, a moment and a request, what it is answered, and what that leaves
abbrev pub Gave : Type 0 → Type 1
Gave A = A → List ℕ → ℕ → Request → ApiReply → A → Type 0

-- no request came, and this was answered
pub record Unread {A : Type 0} (old new : Place) (routes routes' : A) (result : Result ℕ SessionFault) : Type 0 where
  pub error : WireError
  pub gone : List ℕ
  pub kept : List ℕ
  pub within : WithinRequest gone
  pub took : Took old.left [] new.left (gone ++ kept)
  pub refused : RequestRefusedAt new.left (gone ++ kept) error
  pub same : routes' ≡ routes
  pub stopped : IsStopped error old.held new.held old.writes new.writes result
  pub cause : error ≡ wire.ReadFault → Rises old.reads new.reads

-- a request came, its call was made, and the reply was written
pub record Answered {A : Type 0} (gave : Gave A) (secret : List ℕ) (now : ℕ) (old new : Place) (routes routes' : A)
    (result : Result ℕ SessionFault)
    : Type 0 where
  pub request : Request
  pub text : List ℕ
  pub kept : List ℕ
  pub is : IsRequestText request text
  pub took : Took old.left [] new.left (text ++ kept)
  pub reply : ApiReply
  pub answered : gave routes secret now request reply routes'
  pub replied : IsReplied reply old.held new.held old.writes new.writes result

-- How one request to the interface ends, by this secret at this moment: none came, and the refusal of the wire was written; or one came,
-- was answered over these routes, and the reply was written. Those with a prime are the routes afterwards
abbrev pub ApiEnds : {A : Type 0} → Gave A → List ℕ → ℕ → Place → Place → A → A → Result ℕ SessionFault → Type 0
ApiEnds gave secret now old new routes routes' result =
    Unread old new routes routes' result ⊎ Answered gave secret now old new routes routes' result
