-- Rounds, one after the other, each with its line, and a wait between two.
use Rattle.std.specs.Prelude.{◌≡◌, ◌⊎◌, ℕ, ◌+◌, ◌<◌, List, [], ◌∷◌, ◌++◌, length, decimal, codes, Option, Result, Ok, Err}
use Rattle.hub_devices.specs.declared.link_error.LinkError.{LinkError}
use Rattle.hub_devices.specs.Calls.{Grows}
use Rattle.hub_devices.specs.Streams.{Appends}
use Rattle.hub_devices.specs.ToCome.{Tells}
use Rattle.hub_link.specs.Links.{Exchange, Asks}
use Rattle.idle_culler.specs.Rounds.{IsRound, IsBroken}
use Rattle.idle_culler.specs.declared.pages.CullFault.{CullFault}
use Rattle.idle_culler.specs.declared.rounds.Round.{Round}
use Rattle.idle_culler.specs.declared.rules.CullOptions.{CullOptions}
use Rattle.hub_culling.specs.Ends.{End, cause_of}
use Rattle.hub_culling.specs.Scenes.{Scene}
use Rattle.hub_culling.specs.declared.cause.Cause.{Cause}
use Rattle.hub_culling.specs.declared.cause.Cause.TheVariants.{Words, NoFile, NoToken, Output, Memory, Link, BadReply}

-- the line of a round
abbrev pub line : Round → List ℕ
line round =
    codes "users " ++ decimal round.users ++ codes " culled " ++ decimal round.culled ++ codes " refused " ++ decimal round.refused
    ++ 10 ∷ []

-- a line that wasn't written whole: its beginning was, and then the output failed; or there was no memory for it
abbrev pub LineFails : (before : Option (List ℕ)) → List ℕ → Cause → (after : Option (List ℕ)) → Type 0
LineFails before text Output after = (part : List ℕ) × (more : List ℕ) × (text ≡ part ++ more) × Appends before part after
LineFails before text Memory after = after ≡ before
LineFails before text Words after = ⊥
LineFails before text NoFile after = ⊥
LineFails before text NoToken after = ⊥
LineFails before text Link after = ⊥
LineFails before text (BadReply status) after = ⊥

-- these asks were a whole round, or one that broke off
abbrev pub RoundEnds : List ℕ → CullOptions → (now : ℕ) → List Exchange → Result Round CullFault → Type 0
RoundEnds token options now asks (Ok round) = IsRound token options now asks round
RoundEnds token options now asks (Err e) = IsBroken token options now asks e

module _ {L : Type 0} (asked : L → Option (List (List ℕ × Option (List ℕ)))) (does : L → List ℕ → Result (List ℕ) LinkError → L → Type 0)
    (token : List ℕ) (options : CullOptions) where
  -- the hub was asked for a round at the next moment, and it ended so
  pub record AskedRound (s : Scene L) (outcome : Result Round CullFault) (s' : Scene L) : Type 0 where
    pub now : ℕ
    pub asks : List Exchange
    pub time : Tells s.moments now s'.moments
    pub chain : Asks asked does s.link asks s'.link
    pub ends : RoundEnds token options now asks outcome
    pub waits : s'.waits ≡ s.waits

  -- a whole round and its line
  abbrev pub Turn : Scene L → Round → Scene L → Type 0
  Turn s round s' = AskedRound s (Ok round) s' × Appends s.written (line round) s'.written

  -- a round that broke off, and nothing was written
  abbrev pub Breaks : Scene L → Cause → Scene L → Type 0
  Breaks s cause s' = (e : CullFault) × (cause ≡ cause_of e) × AskedRound s (Err e) s' × (s'.written ≡ s.written)

  -- a whole round, without its whole line
  abbrev pub Unwritten : Scene L → Cause → Scene L → Type 0
  Unwritten s cause s' = (round : Round) × AskedRound s (Ok round) s' × LineFails s.written (line round) cause s'.written

  -- why there is no whole round with its line
  abbrev pub TurnFails : Scene L → Cause → Scene L → Type 0
  TurnFails s cause s' = Breaks s cause s' ⊎ Unwritten s cause s'

  -- a wait of so many seconds, and nothing else
  pub record Rested (seconds : ℕ) (s s' : Scene L) : Type 0 where
    pub link : s'.link ≡ s.link
    pub moments : s'.moments ≡ s.moments
    pub written : s'.written ≡ s.written
    pub waits : Grows s.waits (seconds ∷ []) s'.waits

  -- whole rounds with their lines, and a wait behind each
  abbrev pub Turns : (seconds : ℕ) → Scene L → List Round → Scene L → Type 0
  Turns seconds s [] s' = s' ≡ s
  Turns seconds s (round ∷ rounds) s' =
      (a : Scene L) × (b : Scene L) × Turn s round a × Rested seconds a b × Turns seconds b rounds s'

  -- a whole round with its line behind others
  pub record Last (seconds count : ℕ) (s s' : Scene L) : Type 0 where
    pub front : List Round
    pub last : Round
    pub between : Scene L
    pub many : length front + 1 ≡ count
    pub before : Turns seconds s front between
    pub ends : Turn between last s'

  -- a round behind others, fewer than these, that wasn't whole or has no line
  pub record Fails (seconds count : ℕ) (s : Scene L) (cause : Cause) (s' : Scene L) : Type 0 where
    pub front : List Round
    pub between : Scene L
    pub many : length front < count
    pub before : Turns seconds s front between
    pub fails : TurnFails between cause s'

  -- so many rounds, with a wait between two; or the cause that there weren't as many
  abbrev pub RoundsEnd : (seconds count : ℕ) → Scene L → End → Scene L → Type 0
  RoundsEnd seconds count s (Ok u) s' = ((count ≡ 0) × (s' ≡ s)) ⊎ Last seconds count s s'
  RoundsEnd seconds count s (Err cause) s' = Fails seconds count s cause s'
