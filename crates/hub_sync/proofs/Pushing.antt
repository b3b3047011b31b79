-- Calls that are appended one by one, where there are any.
use Rattle.std.proofs.Common.{◌≡◌, ℕ, ◌+◌, List, [], ◌∷◌, ◌++◌, take, Option, refl, sym, ap, ◌∙◌, append_assoc}
use Rattle.std.specs.Prelude.{Some, None, option_to_list}
use Rattle.std.specs.List.{filter_map, cons_option}
use Rattle.std.proofs.lemmas.List.Elements.{filter_map-append}

module _ {X Y : Type 0} (pick : X → Option Y) where
  alone : (o : Option Y) → cons_option o [] ≡ option_to_list o
  alone None = refl
  alone (Some y) = refl

  pub pushed : (xs : List X) (i : ℕ) (x : X) (before calls more : List Y) (picked : Option Y) → take (i + 1) xs ≡ take i xs ++ x ∷ [] → picked ≡ pick x
      → calls ≡ before ++ filter_map pick (take i xs) → more ≡ calls ++ option_to_list picked → more ≡ before ++ filter_map pick (take (i + 1) xs)
  pushed xs i x before calls more picked at is so_far one =
      one
      ∙ ap (λ l. l ++ option_to_list picked) so_far
      ∙ append_assoc before (filter_map pick (take i xs)) (option_to_list picked)
      ∙ ap (λ l. before ++ (filter_map pick (take i xs) ++ l)) (ap option_to_list is ∙ sym (alone (pick x)))
      ∙ ap (λ l. before ++ l) (sym (ap (filter_map pick) at ∙ filter_map-append pick (take i xs) (x ∷ [])))
