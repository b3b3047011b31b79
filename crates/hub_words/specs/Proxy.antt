-- What the words `proxy --listen A --api A --secret-file F` say.
use Rattle.std.specs.Prelude.{ℕ, List, codes, Option, Some, option_map}
use Rattle.clap.specs.Simple.{App, new_app, with_rule}
use Rattle.clap.specs.Walk.{Row, Text}
use Rattle.hub_words.specs.Commands.{needed_choice_rule, read_by}
use Rattle.hub_words.specs.Arguments.{pair, needed}
use Rattle.addresses.specs.Addresses.{address_of}
use Rattle.hub_words.specs.declared.proxy.ProxyWords.{ProxyWords}

unfoldable pub proxy_app : App
proxy_app =
    with_rule (with_rule (with_rule (new_app (codes "proxy"))
    (needed_choice_rule (codes "listen")))
    (needed_choice_rule (codes "api")))
    (needed_choice_rule (codes "secret-file"))

abbrev pub proxy_with : List ℕ × (List ℕ × List ℕ) → ProxyWords
proxy_with (listen, (api, secret_file)) = record { listen = listen; api = api; secret_file = secret_file }

-- what the matches of the words say
abbrev pub proxy_of : List Row → Option ProxyWords
proxy_of rows = option_map proxy_with
    (pair (needed address_of (codes "listen") rows)
    (pair (needed address_of (codes "api") rows) (needed Some (codes "secret-file") rows)))

abbrev pub proxy_read : List Text → Option ProxyWords
proxy_read = read_by (codes "proxy") proxy_app proxy_of
