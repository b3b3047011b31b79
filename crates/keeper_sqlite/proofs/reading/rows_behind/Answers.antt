use Rattle.std.proofs.Common.{◌≡◌, ◌∷◌, [], ◌++◌, List, length, map, refl, sym, ap, ap₂, ◌∙◌, append_assoc, append-nil, arith}
use Rattle.std.proofs.lemmas.List.{map-append}
use Rattle.row_table.specs.Shown.{shown, behind}
use Rattle.keeper_sqlite.proofs.reading.rows_behind.Goals as goal

nothing_left : {X : Type 0} (l : List X) → length l ≡ 0 → l ≡ []
nothing_left [] h = refl
nothing_left (x ∷ xs) h = absurd (omega arith)

one_more : {A B C : Type 0} (f : A → C) (g : B → C) (xs : List A) (ys : List B) (a : A) (b : B) → map f xs ≡ map g ys → f a ≡ g b → map f (xs ++ a ∷ []) ≡ map g (ys ++ b ∷ [])
one_more f g xs ys a b h e = map-append f xs (a ∷ []) ∙ ap₂ (λ zs z. zs ++ z ∷ []) h e ∙ sym (map-append g ys (b ∷ []))

pub loop-row-preserved : goal.loop-row-preserved
loop-row-preserved c =
    let at = c.loop-row in
    let steps = c.in-Some.ensures.steps.0 in (
      append_assoc at.yielded _ _ ∙ rw (← steps) at.invariant.0,
      let was = at.invariant.1 in
          let gone = c.in-Some.ensures.steps.1 in
          let short = ap length steps in
          omega arith,
      ap (map shown) c.in_ok-push.ensures.items ∙ one_more shown behind at.all.items at.yielded _ _ at.invariant.2 c.in_ok-row_behind.ensures,
    )

pub returns : goal.returns
returns c =
    let at = c.loop-row in
    let empty = nothing_left _ (sym at.invariant.1 ∙ c.in-None.ensures.steps.0) in
    let all = sym (append-nil at.yielded) ∙ rw empty at at.invariant.0 ∙ c.into_iter-row-iterator.ensures.into_iter_gives.0 in
    at.invariant.2 ∙ ap (map behind) all
