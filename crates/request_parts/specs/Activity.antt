-- What a body tells of servers: of each its name, and when it was last active, if that is told.
use Rattle.std.specs.Prelude.{ℕ, List, [], ◌∷◌, codes, Option, Some, None}
use Rattle.serde_json.specs.Data.{Data, Members, no_members, member}
use Rattle.serde_json.specs.Find.{get, as_object}
use Rattle.request_parts.specs.Bodies.{◌>>=◌, if_object, optional_at}
use Rattle.request_parts.specs.Names.{server_of, moment_of}

-- a server has an object, in which the moment may be absent
unfoldable pub server_told : List ℕ → Data → Option (List ℕ × Option ℕ)
server_told name value = do
  server ← server_of name
  told ← if_object value
  at ← optional_at moment_of (codes "last_activity") told
  Some (server, at)

-- the servers of the members of an object, which are in the order of their names: none where one of them isn't of its form
abbrev pub each_told : Members → Option (List (List ℕ × Option ℕ))
each_told no_members = Some []
each_told (member name value rest) = do
  first ← server_told name value
  others ← each_told rest
  Some (first ∷ others)

-- an absent object has no members
abbrev pub members_in : Option Data → Option Members
members_in None = Some no_members
members_in (Some value) = as_object value

-- the servers of the object at a key
unfoldable pub activity_at : List ℕ → Data → Option (List (List ℕ × Option ℕ))
activity_at key body = members_in (get key body) >>= each_told
