-- The order of what rows stand under.
use Rattle.std.specs.Prelude.{ℕ, List}
use Rattle.std.proofs.Common.{ap}
use Rattle.std.specs.FinMap.{IsAntisymmetric, nat_cmp-IsAntisymmetric}
use Rattle.std.specs.Ordering.{nat_cmp, ordering_then}
use Rattle.std.specs.declared.cmp.Ordering.{Ordering}
use Rattle.std.proofs.lemmas.Map.Lookups.{exact_pairs, exact_bytes}
use Rattle.hub_kit.specs.KeyOrder.{name_cmp}
use Rattle.keeper.specs.declared.row_key.RowKey.{RowKey}

-- The order of what rows stand under: by the kind, and then by the bytes of the key
abbrev pub key_cmp : RowKey → RowKey → Ordering
key_cmp a b = ordering_then (nat_cmp a.kind b.kind) (name_cmp a.key b.key)

-- keys that compare alike are one: the proof of a law of `Key`, which stands here since a source cites only what stands in specs/
pub key_exact : IsAntisymmetric key_cmp
key_exact a b h = ap (λ (p : ℕ × List ℕ). record { kind = p.0; key = p.1 })
    (exact_pairs nat_cmp name_cmp nat_cmp-IsAntisymmetric exact_bytes (a.kind, a.key) (b.kind, b.key) h)
