-- The names in a path.
use Rattle.std.specs.Prelude.{ℕ, List, Option, Result, ok_or}
use Rattle.http_wire.specs.declared.request.Request.{Request}
use Rattle.request_parts.specs.Names.{name_of}
use Rattle.request_parts.specs.Paths.{segment_number, read_in_path}
use Rattle.hub_paths.specs.Paths.{text_of}
use Rattle.hub_paths.specs.declared.paths.Path.{Path}
use Rattle.hub_api.specs.declared.refusal.ApiRefusal.{ApiRefusal}
use Rattle.hub_api.specs.declared.refusal.ApiRefusal.TheVariants.{BadName}

-- what segment n of the path is, by a reader of texts
abbrev pub segment_at : {N : Type 0} → (List ℕ → Option N) → ℕ → Request → Result N ApiRefusal
segment_at reads n q = ok_or (read_in_path reads n q.path) (BadName n)

-- what the segment is that stands where a name stands in the text of a path
unfoldable pub read_at : {N : Type 0} → (List ℕ → Option N) → Path → (name : List ℕ) → Request → Result N ApiRefusal
read_at reads path name q = segment_at reads (segment_number name (text_of path)) q

-- the same where it is to be the name of a user, a group, a service or a role
abbrev pub name_at : Path → (name : List ℕ) → Request → Result (List ℕ) ApiRefusal
name_at path name q = read_at name_of path name q
