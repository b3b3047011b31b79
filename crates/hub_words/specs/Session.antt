-- What the words `session NOW USER TOKEN [--admin] [--config F] [--db F] [--no-trail]` say.
use Rattle.std.specs.Prelude.{ℕ, List, codes, Option, Some, option_map}
use Rattle.clap.specs.Simple.{App, new_app, with_rule}
use Rattle.clap.specs.Walk.{Row, Text}
use Rattle.hub_words.specs.Commands.{positional_rule, flag_rule, choice_rule, is_given, read_by}
use Rattle.hub_words.specs.Arguments.{pair, needed, optional}
use Rattle.hub_words.specs.Values.{moment_in, user_in, secret_in}
use Rattle.hub_words.specs.declared.session.SessionWords.{SessionWords}

unfoldable pub session_app : App
session_app =
    with_rule (with_rule (with_rule (with_rule (with_rule (with_rule (with_rule (new_app (codes "session"))
    (positional_rule (codes "NOW"))) (positional_rule (codes "USER"))) (positional_rule (codes "TOKEN")))
    (flag_rule (codes "admin"))) (choice_rule (codes "config"))) (choice_rule (codes "db"))) (flag_rule (codes "no-trail"))

-- the values in this order, and the flags
abbrev pub session_with : List Row → (ℕ × List ℕ) × (List ℕ × (Option (List ℕ) × Option (List ℕ))) → SessionWords
session_with rows ((now, user), (token, (config, db))) = record {
  now = now;
  user = user;
  token = token;
  admin = is_given (codes "admin") rows;
  config = config;
  db = db;
  no_trail = is_given (codes "no-trail") rows;
}

-- what the matches of the words say, where each value has its form
abbrev pub session_of : List Row → Option SessionWords
session_of rows = option_map (session_with rows)
    (pair (pair (needed moment_in (codes "NOW") rows) (needed user_in (codes "USER") rows))
    (pair (needed secret_in (codes "TOKEN") rows) (pair (optional Some (codes "config") rows) (optional Some (codes "db") rows))))

abbrev pub session_read : List Text → Option SessionWords
session_read = read_by (codes "session") session_app session_of
