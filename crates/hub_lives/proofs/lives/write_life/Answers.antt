use Rattle.std.proofs.Common.{◌≡◌, Some, None, sym, ap, ◌∙◌}
use Rattle.std.specs.Cmp.{nat_cmp_total}
use Rattle.std.specs.FinMap as map
use Rattle.std.specs.FinMap.{nat_cmp-IsAntisymmetric}
use Rattle.std.specs.Ordering.{nat_cmp}
use Rattle.keyed_rows.specs.Rows.{map_of}
use Rattle.keyed_rows.proofs.Finite.{written_row, lent_row}
use Rattle.hub_lives.specs.declared.lives.Leased.{Leased}
use Rattle.hub_lives.proofs.Found.{some_is, none_some}
use Rattle.hub_lives.proofs.lives.write_life.Goals as goal

pub returns-in-Some : goal.returns-in-Some
returns-in-Some c = λ l is.
    let new : Leased = record c.in-Some.lease.now { life = c.args.life } in
    let row : c.in-Some.lease.now ≡ l = some_is c.in-Some.lease.now l (sym (lent_row nat_cmp_total c.args.rows.now c.args.generation (Some c.in-Some.lease.now) c.in-Some.ensures.value) ∙ is) in
    written_row nat_cmp_total nat_cmp-IsAntisymmetric c.args.rows.now (c.get_mut.follows.lender new) c.args.generation c.in-Some.lease.now new (c.get_mut.follows.holds new) c.in-Some.ensures.value
    ∙ ap (λ (x : Leased). map.insert (map_of nat_cmp c.args.rows.now) c.args.generation (record x { life = c.args.life })) row

pub returns-in-None : goal.returns-in-None
returns-in-None c = λ l is. absurd (none_some l (sym (lent_row nat_cmp_total c.args.rows.now c.args.generation None c.in-None.ensures.value) ∙ is))
