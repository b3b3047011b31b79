use Rattle.std.proofs.Common.{◌≡◌, subst, sym, ap, ◌∙◌, arith}
use Rattle.std.specs.FinMap as map
use Rattle.std.specs.Ordering.{nat_cmp}
use Rattle.keyed_rows.specs.Rows.{map_of}
use Rattle.hub_lives.specs.Lives as spec
use Rattle.hub_lives.specs.LiveServers.{LiveServers}
use Rattle.hub_lives.proofs.Holders.{row_of, went_on}
use Rattle.hub_lives.proofs.Sums.{owed_few, part_of, turned}
use Rattle.hub_lives.proofs.lives.Lives.set_life.Goals as goal

pub overflow_sub-self : goal.overflow_sub-self
overflow_sub-self c =
    let all = c.self.invariant.1 ∙ ap (λ (x : LiveServers). spec.owed x.lives) c.self.view_is in
    let part = part_of c.args.self.now.lives c.args.generation in
    let by = c.owed_by-owed.ensures in
    omega (arith, all, part, by)

pub overflow_add-self : goal.overflow_add-self
overflow_add-self c =
    let all = c.self.invariant.1 ∙ ap (λ (x : LiveServers). spec.owed x.lives) c.self.view_is in
    let room = c.requires.room in
    let few = owed_few c.args.life.phase in
    let is = c.entries_owed.ensures in
    omega (arith, all, room, few, is)

pub invariant_of-self : goal.invariant_of-self
invariant_of-self c =
    let there = ap (λ (x : LiveServers). map.contains_key x.lives c.args.generation) c.self.view_is ∙ c.requires.live in
    let row = row_of (map_of nat_cmp c.self.inside.rows) c.args.generation there in (
      went_on (map_of nat_cmp c.self.inside.rows) (map_of nat_cmp c.write_life.new.rows) c.self.inside.leases c.args.generation c.args.life c.self.invariant.0 there c.requires.same c.write_life.ensures,
      turned (map_of nat_cmp c.self.inside.rows) c.args.generation c.entries_owed.result c.self.inside.still_owed c.owed_by-owed.result (record row.0 { life = c.args.life }) c.self.invariant.1
          (c.owed_by-owed.ensures ∙ sym (ap (λ (x : LiveServers). spec.owed_by (map.get x.lives c.args.generation)) c.self.view_is)) c.entries_owed.ensures
          ∙ ap spec.owed (sym (c.write_life.ensures row.0 row.1)),
    )

pub returns : goal.returns
returns c = λ l is.
    let lives = c.write_life.ensures l (ap (λ (x : LiveServers). map.get x.lives c.args.generation) c.self.view_is ∙ is) in
    let after : LiveServers = record { pool = c.self.inside.leases.pool; lives = map_of nat_cmp c.write_life.new.rows; next = c.self.inside.leases.next } in
    subst (λ (x : LiveServers). after ≡ record x { lives = map.insert x.lives c.args.generation (record l { life = c.args.life }) }) c.self.view_is
    (ap (λ (m : spec.Lives). record { pool = c.self.inside.leases.pool; lives = m; next = c.self.inside.leases.next }) lives)
