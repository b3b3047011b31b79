-- A whole job.
use Rattle.std.specs.Prelude.{◌≡◌, ℕ, zero, suc, ◌*◌, true, List, [], ◌∷◌, ◌++◌, length, map, All, Some}
use Rattle.hub_core.specs.Visits.{Entry}
use Rattle.hub_core.specs.declared.start.Start.{Start}
use Rattle.hub_link.specs.Links.{Exchange, Chain}
use Rattle.hub_machine.specs.State.{Hub}
use Rattle.hub_run.specs.Turns.{View}
use Rattle.direct_link.specs.Direct.{Direct}
use Rattle.direct_link.specs.Verdicts.{Admits}
use Rattle.load_asks.specs.Hashes.{IsFirstKept}
use Rattle.load_asks.specs.Numbers.{asked_at, name, token}
use Rattle.load_asks.specs.Posts.{posts, request_of, IsAccepted}
use Rattle.hub_loading.specs.Posted.{history_of, state_of}
use Rattle.hub_loading.specs.Rounds.{Rounds, counts_of}
use Rattle.hub_loading.specs.Seeing.{IsSeen}
use Rattle.hub_loading.specs.Setting.{draws}
use Rattle.hub_loading.specs.declared.rounds.Round.{Round}
use Rattle.hub_loading.specs.declared.rounds.Counts.{Counts}
use Rattle.hub_loading.specs.declared.job.Loaded.{Loaded}
use Rattle.hub_loading.specs.declared.job.LoadFault.{LoadFault}
use Rattle.hub_loading.specs.declared.job.LoadFault.TheVariants.{HashKept, Memory}

-- the hub accepted exactly the posts of the users and their tokens, in order
pub record PostsAll (users : ℕ) (x y : View) : Type 0 where
  pub asks : List Exchange
  pub chain : Chain Direct x asks y
  pub are : map request_of asks ≡ posts users
  pub accepted : All IsAccepted asks

-- all users were posted, and then each of them asked
pub record Runs (seed users : ℕ) (x : View) (counts : Counts) (y : View) : Type 0 where
  pub between : View
  pub posted : PostsAll users x between
  pub target : List ℕ
  pub rounds : List Round
  pub asked : Rounds seed users users target between rounds y
  pub counted : counts ≡ counts_of rounds

-- a job begins with a pass that is alone and has seen nothing, a clock that stands, and draws 1 to `users`
pub record Begins (start : Start) (users : ℕ) (x : View) : Type 0 where
  pub base : x.pass.base ≡ Some start
  pub seen : x.pass.seen ≡ []
  pub alone : x.pass.alone ≡ true
  pub clock : x.clock ≡ Some (λ k. 1700000000)
  pub draws : x.draws ≡ Some (draws users)

-- user k was told so of the other one and of that one's server, as its token may in this state
pub record IsDecided (s : Hub) (k other : ℕ) (round : Round) : Type 0 where
  pub found : IsSeen (token k) (name other) round.found s 1700000000
  pub admitted : Admits (token k) (record { user = name other; server = [] }) round.admitted s 1700000000

-- so were the first k of n users
abbrev pub AreDecided : Hub → (seed n k : ℕ) → List Round → Type 0
AreDecided s seed n zero rounds = rounds ≡ []
AreDecided s seed n (suc k) rounds =
    (before : List Round) × (round : Round)
    × AreDecided s seed n k before × IsDecided s k (asked_at seed n k) round × (rounds ≡ before ++ round ∷ [])

abbrev pub loaded_of : Counts → ℕ → Loaded
loaded_of counts revision =
    record { ok = counts.ok; missing = counts.missing; admitted = counts.admitted; refused = counts.refused; revision = revision }

-- the entries are the history that a job left, which are those of its posts, two for each user, and this is what came of it: each round was
-- decided in the state that they leave
pub record IsJob (seed users : ℕ) (start : Start) (entries : List Entry) (loaded : Loaded) : Type 0 where
  pub first : View
  pub last : View
  pub begins : Begins start users first
  pub counts : Counts
  pub runs : Runs seed users first counts last
  pub seen : entries ≡ last.pass.seen
  pub history : entries ≡ history_of start.machine users
  pub long : length entries ≡ 2 * users
  pub decided : AreDecided (state_of start.machine users) seed users users runs.rounds
  pub is : loaded ≡ loaded_of counts (length entries)

abbrev pub IsFault : ℕ → LoadFault → Type 0
IsFault users (HashKept draw) = IsFirstKept users (Some draw)
IsFault users Memory = Unit {0}
