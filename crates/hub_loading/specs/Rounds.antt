-- What each user of a job asks, and what came of it.
use Rattle.std.specs.Prelude.{◌≡◌, ℕ, zero, suc, Bool, true, false, not, List, [], ◌∷◌, ◌++◌, length, filter, Option, Some, Result, Ok, ◌+◌}
use Rattle.http_wire.specs.declared.error.SessionFault.{SessionFault}
use Rattle.hub_core.specs.declared.start.Start.{Start}
use Rattle.hub_devices.specs.declared.link_error.LinkError.{LinkError}
use Rattle.hub_kit.specs.declared.names.ServerKey.{ServerKey}
use Rattle.hub_link.specs.Links.{Exchange, Asks, Chain}
use Rattle.hub_link.specs.Replies.{IsReply}
use Rattle.hub_run.specs.Turns.{View}
use Rattle.proxy_core.specs.declared.refusals.Forwarded.{Forwarded}
use Rattle.proxy_core.specs.declared.refusals.Forwarded.TheVariants.{Passed, Refused}
use Rattle.proxy_core.specs.Passes.{Place}
use Rattle.guard.specs.Guards.{GuardEnds}
use Rattle.direct_link.specs.Direct.{Direct}
use Rattle.direct_link.specs.Verdicts.{Admits, HoldsAt}
use Rattle.load_asks.specs.Numbers.{asked_at, name, token}
use Rattle.load_asks.specs.Requests.{get_request, guarded_request}
use Rattle.hub_loading.specs.Seeing.{IsSeen}
use Rattle.hub_loading.specs.declared.rounds.Round.{Round}
use Rattle.hub_loading.specs.declared.rounds.Counts.{Counts}

abbrev pub found_status : Bool → ℕ
found_status true = 200
found_status false = 404

-- the link was asked for the user once, and its reply has this status
pub record Finds {L : Type 0} (asked : L → Option (List (List ℕ × Option (List ℕ))))
    (does : L → List ℕ → Result (List ℕ) LinkError → L → Type 0) (old : L) (token : List ℕ) (user : ℕ) (found : Bool) (new : L) : Type 0
  where
    pub bytes : List ℕ
    pub body : List ℕ
    pub chain : Asks asked does old ((get_request token user, Ok bytes) ∷ []) new
    pub reply : IsReply bytes (found_status found) body

-- the hub was asked so, by what is seen of it, and the user was found exactly where the token sees it at a place of the history and at the
-- moment of the clock; and nothing was noted of it
pub record Found (x : View) (token : List ℕ) (user : ℕ) (found : Bool) (y : View) : Type 0 where
  pub bytes : List ℕ
  pub body : List ℕ
  pub direct : Direct x (get_request token user) (Ok bytes) y
  pub reply : IsReply bytes (found_status found) body
  pub verdict : (start : Start) → x.pass.base ≡ Some start → HoldsAt start x y (IsSeen token (name user) found)
  pub unnoted : (start : Start) → x.pass.base ≡ Some start → x.pass.alone ≡ true → y.pass.seen ≡ x.pass.seen

abbrev pub guard_end : Bool → Result Forwarded SessionFault
guard_end true = Ok Passed
guard_end false = Ok (Refused 403)

-- one request with the token came to the guard of a server, and was passed on or refused, as the token may enter that server or not at a
-- place of the history and at the moment of the clock; and nothing was noted of it
pub record Guarded (x : View) (token : List ℕ) (key : ServerKey) (target : List ℕ) (admitted : Bool) (y : View) : Type 0 where
  pub asks : List Exchange
  pub old : Place
  pub new : Place
  pub came : old.left ≡ Some (guarded_request token)
  pub kept : old.kept ≡ []
  pub chain : Chain Direct x asks y
  pub ends : GuardEnds key target asks 0 0 old new (guard_end admitted)
  pub verdict : (start : Start) → x.pass.base ≡ Some start → HoldsAt start x y (Admits token key admitted)
  pub unnoted : (start : Start) → x.pass.base ≡ Some start → x.pass.alone ≡ true → y.pass.seen ≡ x.pass.seen

-- the owner of a token asks for a user, and then comes to the guard of that user's default server
pub record AskedBy (x : View) (token : List ℕ) (other : ℕ) (target : List ℕ) (round : Round) (y : View) : Type 0 where
  pub between : View
  pub found : Found x token other round.found between
  pub guarded : Guarded between token (record { user = name other; server = [] }) target round.admitted y

-- the first k of n users ask, one after the other, each about the user that is drawn for it
abbrev pub Rounds : (seed n k : ℕ) → (target : List ℕ) → View → List Round → View → Type 0
Rounds seed n zero target x rounds y = (rounds ≡ []) × (y ≡ x)
Rounds seed n (suc k) target x rounds y =
    (z : View) × (before : List Round) × (round : Round)
    × Rounds seed n k target x before z × AskedBy z (token k) (asked_at seed n k) target round y × (rounds ≡ before ++ round ∷ [])

abbrev pub one_if : Bool → ℕ
one_if true = 1
one_if false = 0

-- with one round more
abbrev pub counted : Counts → Round → Counts
counted counts round = record {
  ok = counts.ok + one_if round.found;
  missing = counts.missing + one_if (not round.found);
  admitted = counts.admitted + one_if round.admitted;
  refused = counts.refused + one_if (not round.admitted);
}

abbrev pub counts_of : List Round → Counts
counts_of rounds = record {
  ok = length (filter (λ round. round.found) rounds);
  missing = length (filter (λ round. not round.found) rounds);
  admitted = length (filter (λ round. round.admitted) rounds);
  refused = length (filter (λ round. not round.admitted) rounds);
}
