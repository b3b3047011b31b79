-- What the words `load SEED N` say.
use Rattle.std.specs.Prelude.{ℕ, List, codes, Option, option_map, option_and_then}
use Rattle.clap.specs.Simple.{App, new_app, with_rule}
use Rattle.clap.specs.Walk.{Row, Text}
use Rattle.hub_words.specs.Commands.{positional_rule, read_by}
use Rattle.hub_words.specs.Arguments.{pair, needed}
use Rattle.hub_words.specs.Values.{number_in, within}
use Rattle.hub_words.specs.declared.load.LoadWords.{LoadWords}

unfoldable pub load_app : App
load_app =
    with_rule (with_rule (new_app (codes "load"))
    (positional_rule (codes "SEED")))
    (positional_rule (codes "N"))

abbrev pub load_with : ℕ × ℕ → LoadWords
load_with (seed, users) = record { seed = seed; users = users }

-- both are within their bounds
abbrev pub load_within : ℕ × ℕ → Option LoadWords
load_within (seed, users) = option_map load_with (pair (within 0 65536 seed) (within 1 20000 users))

-- what the matches of the words say
abbrev pub load_of : List Row → Option LoadWords
load_of rows = option_and_then load_within (pair (needed number_in (codes "SEED") rows) (needed number_in (codes "N") rows))

abbrev pub load_read : List Text → Option LoadWords
load_read = read_by (codes "load") load_app load_of
