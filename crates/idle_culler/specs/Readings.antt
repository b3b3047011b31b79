-- What JSON (RFC 8259) shows of users and their servers. Keys that aren't named here are ignored.
use Rattle.std.specs.Prelude.{ℕ, Bool, true, false, ◌||◌, if◌then◌else◌, List, [], ◌∷◌, ◌++◌, codes, Option, Some, None, option_map}
use Rattle.std.specs.Option.{is_some}
use Rattle.std.specs.Str.{bytes_eq}
use Rattle.serde_json.specs.Data.{Data, Items, no_items, item, Members, no_members, member}
use Rattle.serde_json.specs.Find.{get, as_null, as_bool, as_str, as_object}
use Rattle.request_parts.specs.Bodies.{◌>>=◌, truth_at}
use Rattle.request_parts.specs.Names.{name_of, server_of, moment_of}
use Rattle.idle_culler.specs.declared.views.ServerView.{ServerView}
use Rattle.idle_culler.specs.declared.views.UserView.{UserView}

-- ---- values

-- the value of a text
abbrev pub in_text : {N : Type 0} → (List ℕ → Option N) → Data → Option N
in_text reads value = as_str value >>= reads

-- the same at a key that has to be there
abbrev pub needed_at : {N : Type 0} → (List ℕ → Option N) → List ℕ → Data → Option N
needed_at reads key body = get key body >>= in_text reads

-- the text of a moment, or null
abbrev pub moment_or_null : Data → Option (Option ℕ)
moment_or_null value = if is_some (as_null value) then Some None else option_map Some (in_text moment_of value)

abbrev pub needed_moment_at : List ℕ → Data → Option (Option ℕ)
needed_moment_at key body = get key body >>= moment_or_null

abbrev pub or_absent : {N : Type 0} → (Data → Option (Option N)) → Option Data → Option (Option N)
or_absent reads None = Some None
or_absent reads (Some value) = reads value

-- the same at a key that may be absent
abbrev pub moment_at : List ℕ → Data → Option (Option ℕ)
moment_at key body = or_absent moment_or_null (get key body)

-- the text of a moment at a key that may be absent
abbrev pub moment_if_there : List ℕ → Data → Option (Option ℕ)
moment_if_there key body = or_absent (λ value. option_map Some (in_text moment_of value)) (get key body)

abbrev pub truth_if_there : List ℕ → Data → Option (Option Bool)
truth_if_there key body = or_absent (λ value. option_map Some (as_bool value)) (get key body)

-- a list with one more, if there is one
abbrev pub pushed : {A : Type 0} → List A → Option A → Option (List A)
pushed list None = None
pushed list (Some a) = Some (list ++ a ∷ [])

-- ---- a server

abbrev pub pending_said : List ℕ → Option Bool
pending_said word = if bytes_eq word (codes "spawn") || bytes_eq word (codes "stop") then Some true else None

-- null, or what it is on its way to
abbrev pub pending_in : Data → Option Bool
pending_in value = if is_some (as_null value) then Some false else (as_str value >>= pending_said)

abbrev pub pending_at : Data → Option Bool
pending_at body = get (codes "pending") body >>= pending_in

abbrev pub is_same : List ℕ → Option (List ℕ) → Bool
is_same name (Some text) = bytes_eq text name
is_same name None = false

abbrev pub is_named : List ℕ → Data → Bool
is_named name body = is_same name (get (codes "name") body >>= as_str)

abbrev pub server_with : Option (List ℕ) → Option Bool → Option Bool → Option (Option ℕ) → Option (Option ℕ) → Option ServerView
server_with name ready pending started last_activity = do
  name ← name
  ready ← ready
  pending ← pending
  started ← started
  last ← last_activity
  Some (record { name = name; ready = ready; pending = pending; started = started; last_activity = last })

-- a server stands under its name, and has all its fields
abbrev pub server_in : List ℕ → Data → Option ServerView
server_in name body =
    if is_named name body
    then server_with (server_of name) (truth_at (codes "ready") body) (pending_at body)
    (needed_moment_at (codes "started") body) (needed_moment_at (codes "last_activity") body)
    else None

abbrev pub each_server : Members → Option (List ServerView)
each_server no_members = Some []
each_server (member name body rest) = do
  first ← server_in name body
  others ← each_server rest
  Some (first ∷ others)

-- ---- a user

abbrev pub servers_in : Data → Option (Option (List ServerView))
servers_in value = option_map Some (as_object value >>= each_server)

abbrev pub servers_at : Data → Option (Option (List ServerView))
servers_at body = or_absent servers_in (get (codes "servers") body)

abbrev pub user_with : Option (List ℕ) → Option (Option Bool) → Option (Option ℕ) → Option (Option ℕ) → Option (Option (List ServerView))
    → Option UserView
user_with name admin created last_activity servers = do
  name ← name
  admin ← admin
  created ← created
  last ← last_activity
  servers ← servers
  Some (record { name = name; admin = admin; created = created; last_activity = last; servers = servers })

-- a user has a name; the other fields may be absent
abbrev pub user_in : Data → Option UserView
user_in body =
    user_with (needed_at name_of (codes "name") body) (truth_if_there (codes "admin") body)
    (moment_if_there (codes "created") body) (moment_at (codes "last_activity") body) (servers_at body)

abbrev pub each_user : Items → Option (List UserView)
each_user no_items = Some []
each_user (item body rest) = do
  first ← user_in body
  others ← each_user rest
  Some (first ∷ others)
