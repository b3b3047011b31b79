-- How rounds follow one another.
use Rattle.std.proofs.Common.{◌≡◌, ℕ, ◌+◌, ◌<◌, inl, inr, List, [], ◌∷◌, ◌++◌, length, Option, Some, None, Result, Ok, Err, IfErr, OnOk, refl, subst, length-append, arith}
use Rattle.std.proofs.lemmas.Result.{on_ok_weaker, IfErr-weaker}
use Rattle.hub_devices.specs.declared.link_error.LinkError.{LinkError}
use Rattle.hub_devices.specs.Streams.{Appends}
use Rattle.hub_devices.specs.ToCome.{Tells}
use Rattle.hub_link.specs.Links.{Exchange, Asks}
use Rattle.idle_culler.specs.Rounds.{IsRound, IsBroken}
use Rattle.idle_culler.specs.declared.pages.CullFault.{CullFault}
use Rattle.idle_culler.specs.declared.rounds.Round.{Round}
use Rattle.idle_culler.specs.declared.rules.CullOptions.{CullOptions}
use Rattle.hub_culling.specs.Ends.{cause_of}
use Rattle.hub_culling.specs.Scenes.{Scene}
use Rattle.hub_culling.specs.Turns.{line, LineFails, Turn, TurnFails, Rested, Turns, RoundsEnd}
use Rattle.hub_words.specs.declared.cull.CullWords.{CullWords}
use Rattle.hub_culling.specs.Runs.{RunEnds}
use Rattle.hub_culling.specs.declared.cause.Cause.{Cause}
use Rattle.hub_culling.specs.declared.cause.Cause.TheVariants.{Memory}

module _ {L : Type 0} (asked : L → Option (List (List ℕ × Option (List ℕ)))) (does : L → List ℕ → Result (List ℕ) LinkError → L → Type 0)
    (token : List ℕ) (options : CullOptions) where
  -- ---- one round

  -- a whole round, and what came of its line
  pub turned : {E : Type 0} (r : Result (Unit {0}) E) (s s' : Scene L) (round : Round) (now : ℕ) → Tells s.moments now s'.moments
      → (asks : List Exchange) × Asks asked does s.link asks s'.link × IsRound token options now asks round → s'.waits ≡ s.waits
      → OnOk r (Appends s.written (line round) s'.written) → OnOk r ((round : Round) × Turn asked does token options s round s')
  turned r s s' round now time (asks, chain, is) waits told =
      on_ok_weaker r (λ h. (round, (record { now = now; asks = asks; time = time; chain = chain; ends = is; waits = waits }, h))) told

  pub unwritten : {T : Type 0} (r : Result T Cause) (s s' : Scene L) (round : Round) (now : ℕ) → Tells s.moments now s'.moments
      → (asks : List Exchange) × Asks asked does s.link asks s'.link × IsRound token options now asks round → s'.waits ≡ s.waits
      → IfErr r (λ cause. LineFails s.written (line round) cause s'.written) → IfErr r (λ cause. TurnFails asked does token options s cause s')
  unwritten r s s' round now time (asks, chain, is) waits told =
      IfErr-weaker r (λ cause. LineFails s.written (line round) cause s'.written) (λ cause. TurnFails asked does token options s cause s')
      (λ cause h. inr (round, record { now = now; asks = asks; time = time; chain = chain; ends = is; waits = waits }, h)) told

  -- a round that broke off
  pub broken : (s s' : Scene L) (cause : Cause) (e : CullFault) (now : ℕ) → Tells s.moments now s'.moments → cause ≡ cause_of e
      → (asks : List Exchange) × Asks asked does s.link asks s'.link × IsBroken token options now asks e → s'.waits ≡ s.waits
      → s'.written ≡ s.written → TurnFails asked does token options s cause s'
  broken s s' cause e now time same (asks, chain, is) waits written =
      inl (e, same, record { now = now; asks = asks; time = time; chain = chain; ends = is; waits = waits }, written)

  -- ---- rounds one after the other

  turns_more : (seconds : ℕ) (s a b c : Scene L) (front : List Round) (round : Round) → Turns asked does token options seconds s front a
      → Turn asked does token options a round b → Rested asked does token options seconds b c
      → Turns asked does token options seconds s (front ++ round ∷ []) c
  turns_more seconds s a b c [] round before turn rest = (b, c, subst (λ (x : Scene L). Turn asked does token options x round b) before turn, rest, refl)
  turns_more seconds s a b c (r ∷ front) round (x, y, one, wait, more) turn rest =
      (x, y, one, wait, turns_more seconds y a b c front round more turn rest)

  -- so many rounds were made, with a wait behind each
  pub record Made (seconds : ℕ) (s : Scene L) (made : ℕ) (s' : Scene L) : Type 0 where
    pub front : List Round
    pub many : length front ≡ made
    pub before : Turns asked does token options seconds s front s'

  pub made_none : (seconds : ℕ) (s : Scene L) → Made seconds s 0 s
  made_none seconds s = record { front = []; many = refl; before = refl }

  pub made_more : (seconds : ℕ) (s a b c : Scene L) (made : ℕ) → Made seconds s made a → (round : Round) × Turn asked does token options a round b
      → Rested asked does token options seconds b c → Made seconds s (made + 1) c
  made_more seconds s a b c made was (round, turn) rest = record {
    front = was.front ++ round ∷ [];
    many = omega (arith, was.many, length-append was.front (round ∷ []));
    before = turns_more seconds s a b c was.front round was.before turn rest;
  }

  -- ---- the end

  pub made_last : (seconds count : ℕ) (s a b : Scene L) (made : ℕ) → Made seconds s made a → made + 1 ≡ count → (round : Round) × Turn asked does token options a round b
      → RoundsEnd asked does token options seconds count s (Ok tt) b
  made_last seconds count s a b made was all (round, turn) = inr (record {
    front = was.front;
    last = round;
    between = a;
    many = omega (arith, was.many, all);
    before = was.before;
    ends = turn;
  })

  pub made_fails : (seconds count : ℕ) (s a b : Scene L) (made : ℕ) (cause : Cause) → Made seconds s made a → made < count
      → TurnFails asked does token options a cause b → RoundsEnd asked does token options seconds count s (Err cause) b
  made_fails seconds count s a b made cause was fewer fails = record {
    front = was.front;
    between = a;
    many = omega (arith, was.many, fewer);
    before = was.before;
    fails = fails;
  }

  -- the last round, whichever way it ended
  pub made_end : (seconds count : ℕ) (s a b : Scene L) (made : ℕ) (r : Result (Unit {0}) Cause) → Made seconds s made a → made + 1 ≡ count
      → OnOk r ((round : Round) × Turn asked does token options a round b) → IfErr r (λ cause. TurnFails asked does token options a cause b)
      → RoundsEnd asked does token options seconds count s r b
  made_end seconds count s a b made (Ok u) was all turn fails = made_last seconds count s a b made was all turn
  made_end seconds count s a b made (Err cause) was all turn fails = made_fails seconds count s a b made cause was (omega (arith, all)) fails

-- memory was wanting to read the words
pub wanting : {L : Type 0} (asked : L → Option (List (List ℕ × Option (List ℕ)))) (does : L → List ℕ → Result (List ℕ) LinkError → L → Type 0)
    (files : Option (List (List ℕ × List ℕ))) (s : Scene L) (words : Option CullWords) → RunEnds asked does files words s (Err Memory) s
wanting asked does files s (Some words) = inl (tt, refl)
wanting asked does files s None = refl
