-- One request that is read, and passed on by its path.
use Rattle.std.specs.Prelude.{◌≡◌, ◌⊎◌, ◌≤◌, ◌++◌, ℕ, false, List, [], Option, Result, Ok, Err}
use Rattle.httparse.specs.Grammar.{RequestHead, print_request}
use Rattle.hub_devices.specs.Faults.{Rises}
use Rattle.http_wire.specs.declared.error.SessionFault.{SessionFault}
use Rattle.http_wire.specs.declared.error.SessionFault.TheVariants.{ReadFault}
use Rattle.http_wire.specs.declared.error.WireError.{WireError}
use Rattle.http_wire.specs.declared.error.WireError.TheVariants as wire
use Rattle.http_wire.specs.declared.head.Head.{Head}
use Rattle.http_wire.specs.Head.{head_of}
use Rattle.http_wire.specs.Wire.{IsServedHead}
use Rattle.http_wire.specs.Next.{RefusedAt}
use Rattle.http_wire.specs.Target.{path_of}
use Rattle.http_wire.specs.Took.{Took}
use Rattle.route_table.specs.declared.route.RouteRefusal.{RouteRefusal}
use Rattle.route_table.specs.declared.route.RouteRefusal.TheVariants as route
use Rattle.proxy_wire.specs.declared.framing.Framing.{Framing}
use Rattle.proxy_wire.specs.Framing.{request_framing}
use Rattle.proxy_wire.specs.Heads.{request_passed}
use Rattle.proxy_core.specs.declared.refusals.Refusal.{Refusal}
use Rattle.proxy_core.specs.declared.refusals.Refusal.TheVariants as refusal
use Rattle.proxy_core.specs.declared.refusals.Forwarded.{Forwarded}
use Rattle.proxy_core.specs.declared.refusals.Forwarded.TheVariants.{Ended, Cut}
use Rattle.proxy_core.specs.Refusals.{IsWritten, wire_refusal}
use Rattle.proxy_core.specs.Passes.{Place, PassOn}

-- what a refusal of the table is to the client
abbrev pub route_refusal : RouteRefusal → Refusal
route_refusal route.NotFound = refusal.NotFound
route_refusal (route.BadPath at) = refusal.BadPath
route_refusal (route.Stale given seen) = refusal.Memory
route_refusal route.BadTarget = refusal.Memory
route_refusal (route.Full limit) = refusal.Memory
route_refusal route.Memory = refusal.Memory

-- what is answered where there is no head
abbrev pub IsStopped : WireError → Option (List ℕ) → Option (List ℕ) → ℕ → ℕ → Result Forwarded SessionFault → Type 0
IsStopped wire.BadHead held held' writes writes' result = IsWritten refusal.BadHead held held' writes writes' result
IsStopped (wire.TooLarge n) held held' writes writes' result = IsWritten refusal.TooLarge held held' writes writes' result
IsStopped wire.Coding held held' writes writes' result = IsWritten refusal.Coding held held' writes writes' result
IsStopped wire.Memory held held' writes writes' result = IsWritten refusal.Memory held held' writes writes' result
IsStopped wire.Ended held held' writes writes' result = (result ≡ Ok Ended) × (held' ≡ held)
IsStopped wire.Cut held held' writes writes' result = (result ≡ Ok Cut) × (held' ≡ held)
IsStopped wire.ReadFault held held' writes writes' result = (result ≡ Err (ReadFault 0)) × (held' ≡ held)

-- of something that has routes: of a path and a moment, what a look-up answers, and what it leaves
abbrev pub Found : Type 0 → Type 1
Found L = L → List ℕ → ℕ → Result (List ℕ) RouteRefusal → L → Type 0

-- why a head is not passed on: its body's framing first, and then its path
abbrev pub IsUnchosen : {L : Type 0} → Found L → Head → ℕ → L → L → Refusal → Type 0
IsUnchosen found head now routes routes' r =
    ((e : WireError) × (request_framing head.headers ≡ Err e) × (routes' ≡ routes) × (r ≡ wire_refusal e))
    ⊎ ((e : RouteRefusal) × found routes (path_of head.target) now (Err e) routes' × (r ≡ route_refusal e))

-- how a head is passed on
pub record IsChosen {L : Type 0} (found : Found L) (head : Head) (now : ℕ) (routes routes' : L) (f : Framing) (to : List ℕ) : Type 0 where
  pub framed : request_framing head.headers ≡ Ok f
  pub finds : found routes (path_of head.target) now (Ok to) routes'

-- no head came
pub record Unread {L : Type 0} (old new : Place) (routes routes' : L) (result : Result Forwarded SessionFault) : Type 0 where
  pub error : WireError
  pub took : Took old.left [] new.left new.kept
  pub refused : RefusedAt new.left new.kept error
  pub told : new.told ≡ old.told
  pub same : routes' ≡ routes
  pub stopped : IsStopped error old.held new.held old.writes new.writes result
  pub cause : error ≡ wire.ReadFault → Rises old.reads new.reads

-- a head came, and is refused before anything is connected
pub record Unchosen {L : Type 0} (found : Found L) (now : ℕ) (old new : Place) (routes routes' : L) (result : Result Forwarded SessionFault)
    : Type 0 where
  pub head : RequestHead
  pub is : IsServedHead head
  pub took : Took old.left [] new.left (print_request head ++ new.kept)
  pub told : new.told ≡ old.told
  pub refused : Refusal
  pub why : IsUnchosen found (head_of head) now routes routes' refused
  pub written : IsWritten refused old.held new.held old.writes new.writes result

-- a head came, and the request was passed on
pub record Chosen {L : Type 0} (found : Found L) (now : ℕ) (old new : Place) (routes routes' : L) (result : Result Forwarded SessionFault)
    : Type 0 where
  pub head : RequestHead
  pub is : IsServedHead head
  pub left : Option (List ℕ)
  pub kept : List ℕ
  pub reads : ℕ
  pub framing : Framing
  pub target : List ℕ
  pub took : Took old.left [] left (print_request head ++ kept)
  pub counted : old.reads ≤ reads
  pub chosen : IsChosen found (head_of head) now routes routes' framing target
  pub passed : PassOn (record { upgrade = false; method = head.method; text = request_passed false head; framing = framing }) target
      (record old { left = left; kept = kept; reads = reads }) new result

-- how one request is forwarded
abbrev pub ForwardEnds : {L : Type 0} → Found L → ℕ → Place → Place → L → L → Result Forwarded SessionFault → Type 0
ForwardEnds found now old new routes routes' result =
    Unread old new routes routes' result
    ⊎ (Unchosen found now old new routes routes' result ⊎ Chosen found now old new routes routes' result)
