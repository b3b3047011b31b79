-- One more at the end of a list.
use Rattle.std.proofs.Common.{◌≡◌, ◌++◌, ◌∷◌, [], List, All, subst, sym}
use Rattle.std.proofs.lemmas.List.Elements.{All-push}

pub all_pushed : {A : Type 0} (P : A → Type 0) (xs ys : List A) (x : A) → ys ≡ xs ++ x ∷ [] → P x → All P xs → All P ys
all_pushed P xs ys x is it all = subst (All P) (sym is) (All-push P xs x all it)
