use Rattle.std.proofs.Common.{◌≡◌, ◌∷◌, ◌∙◌, ap, sym, subst, map}
use Rattle.keyed_rows.specs.Rows.{map_of}
use Rattle.keeper.specs.RowOrder.{key_cmp}
use Rattle.keeper.specs.Rows.{with_text}
use Rattle.keeper.specs.Held.{held, after_steps, HaveRoom}
use Rattle.keeper.proofs.Places.{room_kept, places_kept, held_written}
use Rattle.keeper.proofs.Steps.{steps_same}
use Rattle.keeper.proofs.held_rows.write_texts.Goals as goal

pub loop-step-preserved : goal.loop-step-preserved
loop-step-preserved c =
    let step = c.in-Some.step in
    let before = map_of key_cmp c.loop-step.rows in
    let popped : c.loop-step.left.items ≡ step ∷ c.pop_front.new.self.items = c.in-Some.ensures.items in
    let room = subst (λ steps. HaveRoom before (map (λ s. s.at) steps)) popped c.loop-step.invariant.0 in (
      rw c.write_text.ensures (room_kept before _ (places_kept before step.at step.text) _ room.1),
      λ kind key.
          steps_same c.pop_front.new.self.items _ (with_text step.at.kind step.at.key step.text (held before)) (λ k l. ap (λ m. held m k l) c.write_text.ensures ∙ held_written before step.at step.text k l) kind key
          ∙ ap (λ steps. after_steps steps (held before) kind key) (sym popped) ∙ c.loop-step.invariant.1 kind key,
    )
