use Rattle.std.proofs.Common.{◌≡◌, ◌∙◌, ap, sym, true}
use Rattle.std.proofs.lemmas.List.{take_more}
use Rattle.std.specs.FinMap.{contains_key}
use Rattle.keyed_rows.specs.Rows.{map_of}
use Rattle.keeper.specs.RowOrder.{key_cmp}
use Rattle.keeper.proofs.Places.{room_kept, room_more}
use Rattle.keeper.proofs.held_rows.make_room.Goals as goal

pub loop-place-preserved : goal.loop-place-preserved
loop-place-preserved c =
    let after = map_of key_cmp c.make_place.new.rows in
    let there : contains_key after _ ≡ true = ap (contains_key after) (sym c.place-item.is) ∙ c.in_ok-make_place.ensures.there in (
      λ kind key. c.make_place.ensures.same kind key ∙ c.loop-place.invariant.0 kind key,
      rw (take_more c.args.places.now c.loop-place.place-index c.place-item.result c.loop-place-test.true)
          (room_more after _ _ (room_kept (map_of key_cmp c.loop-place.rows) after c.make_place.ensures.kept _ c.loop-place.invariant.1) there),
    )
