use Rattle.std.proofs.Common.{◌∙◌, ap, map, subst}
use Rattle.std.proofs.lemmas.Simd.{map-map}
use Rattle.keyed_rows.specs.Rows.{map_of}
use Rattle.keeper.specs.RowOrder.{key_cmp}
use Rattle.keeper.specs.Rows.{Rows}
use Rattle.keeper.specs.Held.{held, step_of, after_steps, HaveRoom}
use Rattle.keeper.proofs.Steps.{steps_same, steps_of_items}
use Rattle.keeper.proofs.held_rows.do_items.Goals as goal

pub write_texts-requires : goal.write_texts-requires
write_texts-requires c =
    rw (c.in_ok-steps.ensures, map-map (λ step. step.at) step_of c.args.items.now)
    (subst (λ places. HaveRoom (map_of key_cmp c.make_room.new.rows) places) (c.deref.ensures.value ∙ c.in_ok-places.ensures) c.in-Ok.ensures.room)

pub returns-in-Ok-clause-ok : goal.returns-in-Ok-clause-ok
returns-in-Ok-clause-ok c kind key =
    let made = held (map_of key_cmp c.make_room.new.rows) in
    let items = c.args.items.now in
    c.sweep.ensures kind key ∙ c.write_texts.ensures kind key
    ∙ ap (λ steps. after_steps steps made kind key) c.in_ok-steps.ensures
    ∙ steps_same (map step_of items) made _ c.make_room.ensures.same kind key
    ∙ ap (λ (rows : Rows). rows kind key) (steps_of_items items _)
