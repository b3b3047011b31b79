-- What the words `guard --listen A --for U/S --hub T --target T [--secret-file F] [--secure-cookies]` say.
use Rattle.std.specs.Prelude.{ℕ, List, codes, Option, Some, option_map}
use Rattle.clap.specs.Simple.{App, new_app, with_rule}
use Rattle.clap.specs.Walk.{Row, Text}
use Rattle.hub_words.specs.Commands.{needed_choice_rule, choice_rule, flag_rule, is_given, read_by}
use Rattle.hub_words.specs.Arguments.{pair, needed, optional}
use Rattle.hub_kit.specs.Targets.{target_of}
use Rattle.hub_kit.specs.declared.names.ServerKey.{ServerKey}
use Rattle.addresses.specs.Addresses.{address_of}
use Rattle.hub_words.specs.Values.{key_in}
use Rattle.hub_words.specs.declared.guard.GuardWords.{GuardWords}

unfoldable pub guard_app : App
guard_app =
    with_rule (with_rule (with_rule (with_rule (with_rule (with_rule (new_app (codes "guard"))
    (needed_choice_rule (codes "listen")))
    (needed_choice_rule (codes "for")))
    (needed_choice_rule (codes "hub")))
    (needed_choice_rule (codes "target")))
    (choice_rule (codes "secret-file")))
    (flag_rule (codes "secure-cookies"))

abbrev pub guard_with : List Row → (List ℕ × ServerKey) × (List ℕ × (List ℕ × Option (List ℕ))) → GuardWords
guard_with rows ((listen, server), (hub, (target, secret_file))) = record {
  listen = listen;
  server = server;
  hub = hub;
  target = target;
  secret_file = secret_file;
  secure_cookies = is_given (codes "secure-cookies") rows;
}

-- what the matches of the words say
abbrev pub guard_of : List Row → Option GuardWords
guard_of rows = option_map (guard_with rows)
    (pair (pair (needed address_of (codes "listen") rows) (needed key_in (codes "for") rows))
    (pair (needed target_of (codes "hub") rows)
    (pair (needed target_of (codes "target") rows) (optional Some (codes "secret-file") rows))))

abbrev pub guard_read : List Text → Option GuardWords
guard_read = read_by (codes "guard") guard_app guard_of
