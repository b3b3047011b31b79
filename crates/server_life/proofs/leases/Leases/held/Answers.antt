use Rattle.std.proofs.Common.{ℕ, ◌≡◌, List, T, slice_get, Some, arith, subst, sym, ap, ◌∙◌}
use Rattle.std.specs.Ordering.{nat_cmp}
use Rattle.std.specs.FinMap.Entries.{find, is_sorted}
use Rattle.server_life.specs.Leased.{HoldsLease, IsNotLive}
use Rattle.server_life.specs.LeaseTable.{LeaseTable}
use Rattle.server_life.specs.LeaseIndex.{generation_in}
use Rattle.server_life.proofs.Index.{not_live, place_below, read_lease, read_none, lease}
use Rattle.server_life.proofs.leases.Leases.held.Goals as goal

pub get-requires : goal.get-requires
get-requires c = subst (λ (es : List (ℕ × ℕ)). T (is_sorted nat_cmp es)) (sym c.as_slice.ensures.value) c.self.invariant.0.2.generations_rise

pub returns-in_default : goal.returns-in_default
returns-in_default c = subst (λ (t : LeaseTable). IsNotLive t.leased c.args.g) c.self.view_is
    (not_live c.self.inside.leased.items c.self.inside.generations.items c.args.g c.self.invariant.0.2.of_generations (c.in_default.ensures ∙ ap (find nat_cmp c.args.g) c.as_slice.ensures.value))

pub index-requires : goal.index-requires
index-requires c =
    let below = place_below nat_cmp generation_in c.self.inside.leased.items c.self.inside.generations.items c.args.g c.in-Some.at c.self.invariant.0.2.of_generations (c.in-Some.ensures ∙ ap (find nat_cmp c.args.g) c.as_slice.ensures.value) in
    omega (arith, below, c.self.inside.leased.ok.0)

pub returns-in-Some-index : goal.returns-in-Some-index
returns-in-Some-index c =
    let read = read_lease nat_cmp generation_in c.self.inside.leased.items c.self.inside.generations.items c.args.g c.in-Some.at c.index.result.now c.in-Some-index.held c.self.invariant.0.2.of_generations
    (c.in-Some.ensures ∙ ap (find nat_cmp c.args.g) c.as_slice.ensures.value) c.index.ensures c.in-Some-index.is in
    subst (λ (t : LeaseTable). HoldsLease t.leased c.in-Some.at c.args.g c.in-Some-index.held.server) c.self.view_is
    (subst (λ (g : ℕ). slice_get c.self.inside.leased.items c.in-Some.at ≡ Some (Some (lease g c.in-Some-index.held.server))) read.1 read.0)

pub returns-in-None : goal.returns-in-None
returns-in-None c = absurd (read_none nat_cmp generation_in c.self.inside.leased.items c.self.inside.generations.items c.args.g c.in-Some.at c.index.result.now c.self.invariant.0.2.of_generations
    (c.in-Some.ensures ∙ ap (find nat_cmp c.args.g) c.as_slice.ensures.value) c.index.ensures c.in-None.is)
