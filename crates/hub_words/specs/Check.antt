-- What the words `check --config F [--db F]` say.
use Rattle.std.specs.Prelude.{ℕ, List, codes, Option, Some, option_map}
use Rattle.clap.specs.Simple.{App, new_app, with_rule}
use Rattle.clap.specs.Walk.{Row, Text}
use Rattle.hub_words.specs.Commands.{needed_choice_rule, choice_rule, read_by}
use Rattle.hub_words.specs.Arguments.{pair, needed, optional}
use Rattle.hub_words.specs.declared.check.CheckWords.{CheckWords}

unfoldable pub check_app : App
check_app = with_rule (with_rule (new_app (codes "check")) (needed_choice_rule (codes "config"))) (choice_rule (codes "db"))

abbrev pub check_with : List ℕ × Option (List ℕ) → CheckWords
check_with (config, db) = record { config = config; db = db }

-- what the matches of the words say
abbrev pub check_of : List Row → Option CheckWords
check_of rows = option_map check_with (pair (needed Some (codes "config") rows) (optional Some (codes "db") rows))

abbrev pub check_read : List Text → Option CheckWords
check_read = read_by (codes "check") check_app check_of
