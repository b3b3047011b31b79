use Rattle.std.proofs.Common.{rules, ◌++◌, refl}
use Rattle.atomic_table.specs.Table.{keeps}
use Rattle.route_desk.proofs.past.Past.note.Goals as goal

pub store-requires : goal.store-requires
store-requires g c = (
  search rules,
  search rules,
  λ s holds slots at small. (c.self.inside.seat.me.0 ++ g.N.Noted.more, keeps, tt, tt, refl),
)
