-- Rows that are walked through: what is made of those so far and those to come.
use Rattle.std.proofs.Common.{◌≡◌, Bool, true, false, cond, List, [], ◌∷◌, ◌++◌, map, filter, refl, sym, ap, ◌∙◌, append_assoc}

module _ {X Y : Type 0} (takes : X → Bool) (made : X → Y) (row : X) (rest : List X) where
  whether_taken : (b : Bool) → map made (cond b (row ∷ filter takes rest) (filter takes rest)) ≡ map made (cond b (row ∷ []) []) ++ map made (filter takes rest)
  whether_taken true = refl
  whether_taken false = refl

  pub one_further : (rows : List X) (before after whole : List Y) → rows ≡ row ∷ rest → after ≡ before ++ map made (filter takes (row ∷ [])) → before ++ map made (filter takes rows) ≡ whole → after ++ map made (filter takes rest) ≡ whole
  one_further rows before after whole are e h =
      ap (λ l. l ++ map made (filter takes rest)) e
      ∙ append_assoc before (map made (filter takes (row ∷ []))) (map made (filter takes rest))
      ∙ ap (λ l. before ++ l) (sym (ap (λ rows. map made (filter takes rows)) are ∙ whether_taken (takes row)))
      ∙ h
