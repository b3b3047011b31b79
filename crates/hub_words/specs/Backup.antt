-- What the words `backup --db F TO` say.
use Rattle.std.specs.Prelude.{ℕ, List, codes, Option, Some, option_map}
use Rattle.clap.specs.Simple.{App, new_app, with_rule}
use Rattle.clap.specs.Walk.{Row, Text}
use Rattle.hub_words.specs.Commands.{positional_rule, needed_choice_rule, read_by}
use Rattle.hub_words.specs.Arguments.{pair, needed}
use Rattle.hub_words.specs.declared.backup.BackupWords.{BackupWords}

unfoldable pub backup_app : App
backup_app = with_rule (with_rule (new_app (codes "backup")) (needed_choice_rule (codes "db"))) (positional_rule (codes "TO"))

abbrev pub backup_with : List ℕ × List ℕ → BackupWords
backup_with (db, to) = record { db = db; to = to }

-- what the matches of the words say
abbrev pub backup_of : List Row → Option BackupWords
backup_of rows = option_map backup_with (pair (needed Some (codes "db") rows) (needed Some (codes "TO") rows))

abbrev pub backup_read : List Text → Option BackupWords
backup_read = read_by (codes "backup") backup_app backup_of
