use Rattle.std.proofs.Common.{◌-◌, sym, ap, ◌∙◌, arith}
use Rattle.std.specs.FinMap as map
use Rattle.std.specs.Ordering.{nat_cmp}
use Rattle.keyed_rows.specs.Rows.{map_of}
use Rattle.hub_lives.specs.Lives as spec
use Rattle.hub_lives.specs.LiveServers.{LiveServers}
use Rattle.hub_lives.proofs.Holders.{taken_back, holds_last}
use Rattle.hub_lives.proofs.Sums.{part_of, gone}
use Rattle.hub_lives.proofs.lives.Lives.take_back.Goals as goal

pub take_back-requires-clause-live : goal.take_back-requires-clause-live
take_back-requires-clause-live c = (c.in-Some.field-0-1.now, c.in-Some.ensures)

pub overflow_sub-self : goal.overflow_sub-self
overflow_sub-self c =
    let all = c.self.invariant.1 ∙ ap (λ (x : LiveServers). spec.owed x.lives) c.self.view_is in
    let part = part_of c.args.self.now.lives (c.next.result - 1) in
    let by = c.owed_by-owed.ensures in
    omega (arith, all, part, by)

pub invariant_of-self : goal.invariant_of-self
invariant_of-self c = (
  taken_back (map_of nat_cmp c.self.inside.rows) (map_of nat_cmp c.remove_row-there.new.rows) c.self.inside.leases c.take_back.new.self c.in-Some.place (c.next.result - 1) c.in-Some.field-0-1.now
      c.self.invariant.0 c.next_free-read.ensures.one_to_one c.in-Some.ensures c.remove_row-there.ensures.removed c.take_back.ensures,
  gone (map_of nat_cmp c.self.inside.rows) (c.next.result - 1) c.self.inside.still_owed c.owed_by-owed.result c.self.invariant.1
      (c.owed_by-owed.ensures ∙ sym (ap (λ (x : LiveServers). spec.owed_by (map.get x.lives (c.next.result - 1))) c.self.view_is))
      ∙ ap spec.owed (sym c.remove_row-there.ensures.removed),
)

pub returns-in_default : goal.returns-in_default
returns-in_default c = absurd (holds_last (map_of nat_cmp c.self.inside.rows) c.self.inside.leases (c.next.result - 1) c.self.invariant.0
    (ap (λ (x : LiveServers). map.contains_key x.lives (c.next.result - 1)) c.self.view_is ∙ ap (λ k. map.contains_key c.args.self.now.lives (k - 1)) (c.next.ensures ∙ ap (λ (x : LiveServers). x.next) c.self.view_is) ∙ c.requires.last)
    c.in_default.ensures)
