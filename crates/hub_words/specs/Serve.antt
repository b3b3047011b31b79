-- What the words `serve --config F [--db F] [--no-trail] [--workers N] [--connections N]` say.
use Rattle.std.specs.Prelude.{ℕ, ◌-◌, ◌^◌, List, codes, Option, Some, option_map, option_and_then, unwrap_or}
use Rattle.clap.specs.Simple.{App, new_app, with_rule}
use Rattle.clap.specs.Walk.{Row, Text}
use Rattle.hub_words.specs.Commands.{needed_choice_rule, choice_rule, flag_rule, is_given, read_by}
use Rattle.hub_words.specs.Arguments.{pair, needed, optional}
use Rattle.hub_words.specs.Values.{number_in, within}
use Rattle.hub_words.specs.declared.serve.ServeWords.{ServeWords}

unfoldable pub serve_app : App
serve_app =
    with_rule (with_rule (with_rule (with_rule (with_rule (new_app (codes "serve"))
    (needed_choice_rule (codes "config")))
    (choice_rule (codes "db")))
    (flag_rule (codes "no-trail")))
    (choice_rule (codes "workers")))
    (choice_rule (codes "connections"))

-- at most 16 workers, and 4 where the option lacks
abbrev pub serve_with : List Row → (List ℕ × Option (List ℕ)) × (Option ℕ × Option ℕ) → Option ServeWords
serve_with rows ((config, db), (workers, connections)) = option_map
    (λ workers. record {
      config = config;
      db = db;
      no_trail = is_given (codes "no-trail") rows;
      workers = workers;
      connections = unwrap_or connections (2 ^ 64 - 1);
    })
    (within 1 16 (unwrap_or workers 4))

-- what the matches of the words say
abbrev pub serve_of : List Row → Option ServeWords
serve_of rows = option_and_then (serve_with rows)
    (pair (pair (needed Some (codes "config") rows) (optional Some (codes "db") rows))
    (pair (optional number_in (codes "workers") rows) (optional number_in (codes "connections") rows)))

abbrev pub serve_read : List Text → Option ServeWords
serve_read = read_by (codes "serve") serve_app serve_of
