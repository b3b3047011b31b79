-- A text in a body.
use Rattle.std.specs.Prelude.{ℕ, List, Option}
use Rattle.serde_json.specs.Data.{Data}
use Rattle.serde_json.specs.Find.{get, as_str}
use Rattle.request_parts.specs.Bodies.{◌>>=◌}

-- the text at a key: none where the key is absent or anything else stands there
unfoldable pub text_at : List ℕ → Data → Option (List ℕ)
text_at key body = get key body >>= as_str
