-- Targets: the URLs of scheme http with a host, a port of 1 to 65535, and nothing else but a path that is empty or `/`.
use Rattle.std.specs.Prelude.{◌≡◌, ℕ, Bool, ◌&&◌, ◌==◌, not, List, [], ◌++◌, codes, bytes_eq, decimal, Option, Some, None, is_some}
use Rattle.std.specs.Prelude.{unwrap_or, option_map, Ok, Err, if◌then◌else◌}
use Rattle.std.specs.Str.{is_utf8}
use Rattle.url.specs.Parser.{Parsed, parse_url}
use Rattle.url.specs.Input.{is_empty}
use Rattle.url.specs.Host.{host_text}
use Rattle.url.specs.Parts.{Parts, nonempty_host}

-- the port, which is 80 where none is written
abbrev pub port_of : Parts → ℕ
port_of url = unwrap_or url.port 80

-- scheme http, and nothing beside a host, a port and the path `/`, as which an empty path reads
abbrev pub is_a_target : Parts → Bool
is_a_target url = bytes_eq url.scheme (codes "http")
    && is_empty url.username && is_empty url.password
    && bytes_eq url.path (codes "/")
    && not (is_some url.query) && not (is_some url.fragment)
    && not (port_of url == 0)

-- `http://HOST:PORT`
abbrev pub target_text : Parts → List ℕ
target_text url =
    codes "http://" ++ unwrap_or (option_map host_text (nonempty_host url)) [] ++ codes ":" ++ decimal (port_of url)

abbrev pub if_target : Parsed Parts → Option (List ℕ)
if_target (Ok url) = if is_a_target url then Some (target_text url) else None
if_target (Err e) = None

-- the text of the target that the bytes are, by the URL Standard's parser
abbrev pub target_of : List ℕ → Option (List ℕ)
target_of bytes = if is_utf8 bytes then if_target (parse_url None bytes) else None

-- the text of a target, which reads as itself
abbrev pub IsTarget : List ℕ → Type 0
IsTarget text = target_of text ≡ Some text
