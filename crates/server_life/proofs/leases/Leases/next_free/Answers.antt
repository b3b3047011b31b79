use Rattle.std.proofs.Common.{ℕ, ◌≡◌, ◌≢◌, ◌<◌, length, get_or, Option, None, refl, ap, sym, subst, arith}
use Rattle.std.proofs.lemmas.Bool.Decides.{nat_tests}
use Rattle.server_life.specs.declared.leases.Held.{Held}
use Rattle.server_life.specs.Leased.{IsFirstFree}
use Rattle.server_life.specs.LeaseTable.{LeaseTable}
use Rattle.server_life.proofs.Index.{first_free, none_free, none_of}
use Rattle.server_life.proofs.leases.Leases.next_free.Goals as goal

pub returns-then-is_empty-clause-answer : goal.returns-then-is_empty-clause-answer
returns-then-is_empty-clause-answer c =
    let size : length c.as_slice.result.now ≡ length c.self.inside.pool = ap length c.as_slice.ensures.value in
    let none : length c.self.inside.free.items ≡ 0 = grind (arith, nat_tests, c.self.inside.free.ok.0, c.is_empty.ensures, c.if-is_empty.true) in
    subst (λ (t : LeaseTable). ((k : ℕ) (d : Option Held) → k < length t.leased → get_or t.leased k d ≢ None) × (none_of (length c.as_slice.result.now) ≡ none_of (length t.pool))) c.self.view_is
    (none_free c.self.inside.leased.items c.self.inside.free.items none c.self.invariant.0.2.free_places, ap none_of size)

pub returns-clause-answer : goal.returns-clause-answer
returns-clause-answer c =
    let some : 0 < length c.self.inside.free.items = grind (arith, nat_tests, c.self.inside.free.ok.0, c.is_empty.ensures, c.if-is_empty.false) in
    subst (λ (t : LeaseTable). (c.self.inside.next ≡ t.next) × IsFirstFree t.leased c.index.result.now.0) c.self.view_is (
      refl,
      subst (λ (e : ℕ × Unit {0}). IsFirstFree c.self.inside.leased.items e.0) (sym c.index.ensures)
          (first_free c.self.inside.leased.items c.self.inside.free.items c.index.result.now some c.self.invariant.0.2.free_rise c.self.invariant.0.2.free_places),
    )
