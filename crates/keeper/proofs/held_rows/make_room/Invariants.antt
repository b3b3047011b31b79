use Rattle.std.proofs.Common.{take}
use Rattle.keyed_rows.specs.Rows.{map_of}
use Rattle.keeper.specs.RowOrder.{key_cmp}
use Rattle.keeper.specs.Rows.{AreSame}
use Rattle.keeper.specs.Held.{held, HaveRoom}
use Rattle.keeper.proofs.held_rows.make_room.Given as goal

abbrev pub invariant-loop-place : goal.invariant-loop-place
invariant-loop-place l =
    AreSame (held (map_of key_cmp l.rows)) (held (map_of key_cmp l.initial.rows))
    × HaveRoom (map_of key_cmp l.rows) (take l.place-index l.places)
