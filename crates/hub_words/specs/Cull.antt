-- What the words `cull --hub T --token-file F [--timeout S] [--max-age S] [--cull-users] [--remove-named-servers] [--cull-every S]
-- [--rounds N]` say.
use Rattle.std.specs.Prelude.{ℕ, ◌/◌, List, codes, Option, Some, option_map, unwrap_or}
use Rattle.clap.specs.Simple.{App, new_app, with_rule}
use Rattle.clap.specs.Walk.{Row, Text}
use Rattle.hub_words.specs.Commands.{needed_choice_rule, choice_rule, flag_rule, is_given, read_by}
use Rattle.hub_words.specs.Arguments.{pair, needed, optional}
use Rattle.hub_kit.specs.Targets.{target_of}
use Rattle.hub_words.specs.Values.{number_in}
use Rattle.hub_words.specs.declared.cull.CullWords.{CullWords}

unfoldable pub cull_app : App
cull_app =
    with_rule (with_rule (with_rule (with_rule (with_rule (with_rule (with_rule (with_rule (new_app (codes "cull"))
    (needed_choice_rule (codes "hub")))
    (needed_choice_rule (codes "token-file")))
    (choice_rule (codes "timeout")))
    (choice_rule (codes "max-age")))
    (flag_rule (codes "cull-users")))
    (flag_rule (codes "remove-named-servers")))
    (choice_rule (codes "cull-every")))
    (choice_rule (codes "rounds"))

abbrev pub cull_with : List Row → (List ℕ × List ℕ) × ((Option ℕ × Option ℕ) × (Option ℕ × Option ℕ)) → CullWords
cull_with rows ((hub, token_file), ((timeout, max_age), (cull_every, rounds))) = record {
  hub = hub;
  token_file = token_file;
  timeout = unwrap_or timeout 600;
  max_age = unwrap_or max_age 0;
  cull_users = is_given (codes "cull-users") rows;
  remove_named_servers = is_given (codes "remove-named-servers") rows;
  cull_every = unwrap_or cull_every (unwrap_or timeout 600 / 2);
  rounds = rounds;
}

-- what the matches of the words say
abbrev pub cull_of : List Row → Option CullWords
cull_of rows = option_map (cull_with rows)
    (pair (pair (needed target_of (codes "hub") rows) (needed Some (codes "token-file") rows))
    (pair (pair (optional number_in (codes "timeout") rows) (optional number_in (codes "max-age") rows))
    (pair (optional number_in (codes "cull-every") rows) (optional number_in (codes "rounds") rows))))

abbrev pub cull_read : List Text → Option CullWords
cull_read = read_by (codes "cull") cull_app cull_of
