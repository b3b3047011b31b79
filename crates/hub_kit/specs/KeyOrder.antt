-- The orders of names and of servers.
use Rattle.std.specs.Prelude.{ℕ, List}
use Rattle.std.proofs.Common.{ap}
use Rattle.std.specs.declared.cmp.Ordering.{Ordering}
use Rattle.std.specs.Ordering.{nat_cmp, ordering_then}
use Rattle.std.specs.Cmp.Lexicographic.{slice_cmp}
use Rattle.std.specs.FinMap.{IsAntisymmetric}
use Rattle.std.proofs.lemmas.Map.Lookups.{exact_pairs, exact_bytes}
use Rattle.hub_kit.specs.declared.names.ServerKey.{ServerKey}

-- by the bytes
abbrev pub name_cmp : List ℕ → List ℕ → Ordering
name_cmp = slice_cmp nat_cmp

-- by the user, and then by the server
abbrev pub key_cmp : ServerKey → ServerKey → Ordering
key_cmp a b = ordering_then (name_cmp a.user b.user) (name_cmp a.server b.server)

-- keys that compare alike are one: the proof of a law of `Key`, which stands here since a source cites only what stands in specs/
pub key_exact : IsAntisymmetric key_cmp
key_exact a b h = ap (λ (p : List ℕ × List ℕ). record { user = p.0; server = p.1 })
    (exact_pairs name_cmp name_cmp exact_bytes exact_bytes (a.user, a.server) (b.user, b.server) h)
