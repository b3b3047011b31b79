-- The names and the moments that texts are.
use Rattle.std.specs.Prelude.{ℕ, List, Option}
use Rattle.std.specs.Result.{result_ok}
use Rattle.jiff.specs.Words.{parse_timestamp}
use Rattle.hub_kit.specs.MomentReads.{moment_read}
use Rattle.hub_kit.specs.Names.{name_read, server_read}

-- the name of a user, a group, a service or a role that a text is
abbrev pub name_of : List ℕ → Option (List ℕ)
name_of text = result_ok (name_read text)

-- the name of a server, which may be empty
abbrev pub server_of : List ℕ → Option (List ℕ)
server_of text = result_ok (server_read text)

abbrev pub moment_of : List ℕ → Option ℕ
moment_of text = result_ok (moment_read (parse_timestamp text))
