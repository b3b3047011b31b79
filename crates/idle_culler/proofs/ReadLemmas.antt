-- A server of its parts.
use Rattle.std.proofs.Common.{◌≡◌, ℕ, List, Bool, true, Option, codes, refl}
use Rattle.serde_json.specs.Data.{Data}
use Rattle.request_parts.specs.Bodies.{truth_at}
use Rattle.request_parts.specs.Names.{server_of}
use Rattle.idle_culler.specs.Readings.{is_named, pending_at, needed_moment_at, server_with, server_in}

pub server_of_parts : (name : List ℕ) (body : Data) (s : Option (List ℕ)) (r p : Option Bool) (t l : Option (Option ℕ)) → is_named name body ≡ true
    → s ≡ server_of name → r ≡ truth_at (codes "ready") body → p ≡ pending_at body
    → t ≡ needed_moment_at (codes "started") body → l ≡ needed_moment_at (codes "last_activity") body
    → server_with s r p t l ≡ server_in name body
server_of_parts name body s r p t l named es er ep et el = rw (named, es, er, ep, et, el) refl
