-- The ids of clients of OAuth: server:USER/SERVER, or service:NAME.
use Rattle.std.specs.Prelude.{ℕ, Bool, false, ◌&&◌, ◌||◌, List, Option, Some, None, is_ok, codes}
use Rattle.hub_kit.specs.Names.{name_read}
use Rattle.hub_kit.specs.ServerKeys.{key_read}
use Rattle.scope_filters.specs.Contexts.{same}
use Rattle.scope_filters.specs.Scopes.{before, after}

-- An id whose text before its first ':' is the kind and whose text after it, if it has one, is the name, is that of a client: of a server,
-- or of a service
abbrev pub names_client : (kind : List ℕ) → (name : Option (List ℕ)) → Bool
names_client kind None = false
names_client kind (Some name) = (same kind (codes "server") && is_ok (key_read name))
    || (same kind (codes "service") && is_ok (name_read name))

-- The text is the id of a client
abbrev pub is_client_id : List ℕ → Bool
is_client_id id = names_client (before 58 id) (after 58 id)
