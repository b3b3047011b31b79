use Rattle.std.proofs.Common.{ℕ, ◌≡◌, ◌≤◌, length, take, Option, None}
use Rattle.route_table.specs.Path.{IsKey, slash_escape, decoded_parts}
use Rattle.route_table.specs.Search.{IsBestPlace}
use Rattle.route_table.proofs.search.best.Given as goal

abbrev pub invariant-prefixes : goal.invariant-prefixes
invariant-prefixes l = record {
  within : l.end ≤ length l.path;
  key : IsKey (take l.end l.path);
  clear : slash_escape (take l.end l.path) ≡ None;
  whole : (r : Option ℕ) → IsBestPlace l.rows (decoded_parts (take l.end l.path)) r → IsBestPlace l.rows (decoded_parts l.path) r;
}

abbrev pub decreases-prefixes : goal.decreases-prefixes
decreases-prefixes l = l.end
