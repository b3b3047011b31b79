use Rattle.std.proofs.Common.{sym, ap, ◌∙◌, arith}
use Rattle.std.specs.FinMap as map
use Rattle.std.specs.Ordering.{nat_cmp}
use Rattle.keyed_rows.specs.Rows.{map_of}
use Rattle.hub_lives.specs.Lives as spec
use Rattle.hub_lives.specs.LiveServers.{LiveServers}
use Rattle.hub_lives.proofs.Holders.{ended}
use Rattle.hub_lives.proofs.Sums.{part_of, gone}
use Rattle.hub_lives.proofs.lives.Lives.end.Goals as goal

pub overflow_sub-self : goal.overflow_sub-self
overflow_sub-self c =
    let all = c.self.invariant.1 ∙ ap (λ (x : LiveServers). spec.owed x.lives) c.self.view_is in
    let part = part_of c.args.self.now.lives c.args.generation in
    let by = c.owed_by-owed.ensures in
    omega (arith, all, part, by)

pub invariant_of-self : goal.invariant_of-self
invariant_of-self c = (
  ended (map_of nat_cmp c.self.inside.rows) (map_of nat_cmp c.remove_row-there.new.rows) c.self.inside.leases c.free-freed.new.self c.args.generation c.free-freed.result
      c.self.invariant.0 c.next_free-read.ensures.one_to_one c.remove_row-there.ensures.removed c.free-freed.ensures,
  gone (map_of nat_cmp c.self.inside.rows) c.args.generation c.self.inside.still_owed c.owed_by-owed.result c.self.invariant.1
      (c.owed_by-owed.ensures ∙ sym (ap (λ (x : LiveServers). spec.owed_by (map.get x.lives c.args.generation)) c.self.view_is))
      ∙ ap spec.owed (sym c.remove_row-there.ensures.removed),
)
