-- A whole job, from its posts and its rounds.
use Rattle.std.proofs.Common.{◌≡◌, ◌≤◌, ◌*◌, arith, ℕ, zero, suc, true, List, [], length, Option, Some, Result, sym, ap, ◌∙◌, subst}
use Rattle.hub_core.specs.Visits.{Entry}
use Rattle.hub_core.specs.declared.start.Start.{Start}
use Rattle.hub_devices.specs.declared.link_error.LinkError.{LinkError}
use Rattle.hub_machine.specs.declared.change.Change.{Change}
use Rattle.hub_run.specs.Turns.{View}
use Rattle.direct_link.specs.Direct.{Direct, IsSame}
use Rattle.direct_link.proofs.Chains.{chain_seen}
use Rattle.load_asks.specs.Posts.{posts, Accepted}
use Rattle.hub_loading.proofs.HistoryLemmas.{AllDecided, all_posted, all_decided, twice_long, long_as}
use Rattle.hub_loading.proofs.PostedLemmas.{Stands}
use Rattle.hub_loading.proofs.SameLemmas.{same_here, same_then, chain_same}
use Rattle.hub_loading.specs.Jobs.{PostsAll, Runs, Begins, IsJob, loaded_of}
use Rattle.hub_loading.specs.Posted.{history_of}
use Rattle.hub_loading.specs.Rounds.{Rounds, AskedBy}
use Rattle.hub_loading.specs.Setting.{IsJobHub, draws}
use Rattle.hub_loading.specs.declared.job.Loaded.{Loaded}
use Rattle.hub_loading.specs.declared.rounds.Counts.{Counts}
use Rattle.hub_loading.specs.declared.rounds.Round.{Round}

-- ---- the pass stays what it was

asked_same : (x y : View) (token : List ℕ) (other : ℕ) (target : List ℕ) (round : Round) → AskedBy x token other target round y → IsSame x y
asked_same x y token other target round asked =
    same_then x asked.between y ((asked.found).direct).same (chain_same (asked.guarded).asks asked.between y (asked.guarded).chain)

rounds_same : (seed n k : ℕ) (target : List ℕ) (x y : View) (rounds : List Round) → Rounds seed n k target x rounds y → IsSame x y
rounds_same seed n zero target x y rounds done = same_here x y done.1
rounds_same seed n (suc k) target x y rounds (z, before, round, done, asked, is) =
    same_then x z y (rounds_same seed n k target x z before done) (asked_same z y _ _ target round asked)

runs_same : (seed users : ℕ) (x y : View) (counts : Counts) → Runs seed users x counts y → IsSame x y
runs_same seed users x y counts runs =
    same_then x runs.between y (chain_same (runs.posted).asks x runs.between (runs.posted).chain)
    (rounds_same seed users users runs.target runs.between y runs.rounds runs.asked)

-- ---- the posts, by what is seen of the hub

pub posted : {L : Type 0} (asked : L → Option (List (List ℕ × Option (List ℕ)))) (does : L → List ℕ → Result (List ℕ) LinkError → L → Type 0) (view : L → View)
    → ((a b : L) (request : List ℕ) (given : Result (List ℕ) LinkError) → does a request given b → Direct (view a) request given (view b))
    → (old new : L) (users : ℕ) → Accepted asked does old (posts users) new → PostsAll users (view old) (view new)
posted asked does view each old new users done = record {
  asks = done.asks;
  chain = chain_seen old new done.asks view Direct does each (done.chain).meets;
  are = done.are;
  accepted = done.accepted;
}

-- ---- the whole

pub job_of : (seed users : ℕ) (first last : View) (counts : Counts) → Runs seed users first counts last → last.pass.of ≡ first.pass.of
job_of seed users first last counts runs = (runs_same seed users first last counts runs).of

some_same : (a b : Start) → Some a ≡ Some b → a ≡ b
some_same a b is = cc is

ended_as : (seed users : ℕ) (first last : View) (counts : Counts) (begun ended : Start) → Runs seed users first counts last → first.pass.base ≡ Some begun
    → last.pass.base ≡ Some ended → begun ≡ ended
ended_as seed users first last counts begun ended runs one two = some_same begun ended (sym one ∙ (sym (runs_same seed users first last counts runs).base ∙ two))

pub job_began : (seed users : ℕ) (first last : View) (counts : Counts) (begun ended : Start) → Runs seed users first counts last → first.pass.base ≡ Some begun
    → last.pass.base ≡ Some ended → IsJobHub begun → IsJobHub ended
job_began seed users first last counts begun ended runs one two hub = subst IsJobHub (ended_as seed users first last counts begun ended runs one two) hub

-- the draws of a job, its clock and its pass
began : (users : ℕ) (start : Start) (first : View) (before : List Entry) → first.pass.base ≡ Some start → first.pass.seen ≡ before → before ≡ []
    → first.pass.alone ≡ true → first.clock ≡ Some (λ k. 1700000000) → first.draws ≡ Some (draws users) → Begins start users first
began users start first before base seen none alone clock drawn = record { base = base; seen = seen ∙ none; alone = alone; clock = clock; draws = drawn }

job_done : (seed users : ℕ) (start : Start) (first last : View) (counts : Counts) (entries : List Entry) (revision : ℕ) (loaded : Loaded)
    → users ≤ 1000000 → Begins start users first → Runs seed users first counts last → (last.pass.alone ≡ true → entries ≡ last.pass.seen)
    → revision ≡ length entries → loaded ≡ loaded_of counts revision → IsJob seed users start entries loaded
job_done seed users start first last counts entries revision loaded few begins runs whole long is =
    let h : List Change = history_of start.machine users in
    let stands : Stands start h runs.between = all_posted start users first runs.between few begins runs.posted in
    let all : AllDecided start h seed users users runs.rounds last =
    all_decided start h seed users users runs.target runs.between last runs.rounds stands runs.asked in
    let seen : entries ≡ last.pass.seen = whole (all.stands).alone in
    let are : entries ≡ h = seen ∙ (all.stands).seen in
    record {
      first = first;
      last = last;
      begins = begins;
      counts = counts;
      runs = runs;
      seen = seen;
      history = are;
      long = long_as h entries (2 * users) are (twice_long start.machine users);
      decided = all.decided;
      is = is ∙ ap (loaded_of counts) long;
    }

pub job_made : (seed users : ℕ) (first last : View) (counts : Counts) (begun ended : Start) (before entries : List Entry) (revision : ℕ) (loaded : Loaded)
    → IsJobHub begun → users ≤ 20000 → Runs seed users first counts last → first.pass.base ≡ Some begun → first.pass.seen ≡ before → before ≡ []
    → first.pass.alone ≡ true → first.clock ≡ Some (λ k. 1700000000) → first.draws ≡ Some (draws users) → last.pass.base ≡ Some ended
    → (last.pass.alone ≡ true → entries ≡ last.pass.seen) → revision ≡ length entries → loaded ≡ loaded_of counts revision → IsJob seed users ended entries loaded
job_made seed users first last counts begun ended before entries revision loaded hub few runs base seen none alone clock drawn closed whole long is =
    let same : begun ≡ ended = ended_as seed users first last counts begun ended runs base closed in
    job_done seed users ended first last counts entries revision loaded (omega (arith, few))
    (began users ended first before (base ∙ ap (λ (s : Start). Some s) same) seen none alone clock drawn) runs whole long is
