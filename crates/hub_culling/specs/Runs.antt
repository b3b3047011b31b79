-- The whole command.
use Rattle.std.specs.Prelude.{◌≡◌, ◌⊎◌, ℕ, ◌^◌, ◌-◌, List, Option, Some, None, unwrap_or, Result, Ok, Err}
use Rattle.hub_devices.specs.declared.link_error.LinkError.{LinkError}
use Rattle.idle_culler.specs.declared.rules.CullOptions.{CullOptions}
use Rattle.hub_words.specs.declared.cull.CullWords.{CullWords}
use Rattle.hub_culling.specs.Ends.{End}
use Rattle.hub_culling.specs.Scenes.{Scene}
use Rattle.hub_culling.specs.Tokens.{IsTold, IsUntold}
use Rattle.hub_culling.specs.Turns.{RoundsEnd}
use Rattle.hub_culling.specs.declared.cause.Cause.TheVariants.{Words, NoFile, NoToken, Output, Memory, Link, BadReply}

abbrev pub options : CullWords → CullOptions
options words = record {
  timeout = words.timeout;
  max_age = words.max_age;
  cull_users = words.cull_users;
  remove_named = words.remove_named_servers;
}

-- rounds without end are as many as a `u64` counts
abbrev pub count : CullWords → ℕ
count words = unwrap_or words.rounds (2 ^ 64 - 1)

module _ {L : Type 0} (asked : L → Option (List (List ℕ × Option (List ℕ)))) (does : L → List ℕ → Result (List ℕ) LinkError → L → Type 0)
    (files : Option (List (List ℕ × List ℕ))) where
  -- there is no token, and nothing was done
  abbrev pub Untold : (name : List ℕ) → Scene L → End → Scene L → Type 0
  Untold name s (Ok u) s' = ⊥
  Untold name s (Err cause) s' = IsUntold files name cause × (s' ≡ s)

  -- the rounds were made with the token of the file
  abbrev pub Told : CullWords → Scene L → End → Scene L → Type 0
  Told words s end s' =
      (token : List ℕ) × IsTold files words.token_file token
      × RoundsEnd asked does token (options words) words.cull_every (count words) s end s'

  -- the words are these; or they are refused, or memory was wanting to read them, and nothing was done
  abbrev pub RunEnds : Option CullWords → Scene L → End → Scene L → Type 0
  RunEnds (Some words) s end s' = Untold words.token_file s end s' ⊎ Told words s end s'
  RunEnds None s (Ok u) s' = ⊥
  RunEnds None s (Err Words) s' = s' ≡ s
  RunEnds None s (Err Memory) s' = s' ≡ s
  RunEnds None s (Err NoFile) s' = ⊥
  RunEnds None s (Err NoToken) s' = ⊥
  RunEnds None s (Err Output) s' = ⊥
  RunEnds None s (Err Link) s' = ⊥
  RunEnds None s (Err (BadReply status)) s' = ⊥
