-- Loops that push: what the first items have given, with what one item more gives.
use Rattle.std.proofs.Common.{◌≡◌, ℕ, ◌+◌, ◌<◌, true, false, List, [], ◌∷◌, ◌++◌, length, map, take, get_or, append_assoc, append-nil, if◌then◌else◌, sym, ap, ◌∙◌}
use Rattle.std.specs.List.{flat_map}
use Rattle.std.proofs.lemmas.List.{map-append, take_more}
use Rattle.std.proofs.lemmas.List.{flat_map_more}
use Rattle.scope_names.specs.declared.action.Action.{Action}
use Rattle.scope_names.specs.declared.action.Action.TheVariants.{Custom}
use Rattle.scope_names.specs.declared.custom.CustomRow.{CustomRow}
use Rattle.scope_names.specs.ActionOrder.{same_action}
use Rattle.scope_names.specs.Coverage.{declared_by}

-- an item more is taken
pub taken_more : {A : Type 0} (xs : List A) (i : ℕ) (x : A) → i < length xs → x ≡ get_or xs i x → take i xs ++ x ∷ [] ≡ take (i + 1) xs
taken_more xs i x h e = sym (take_more xs i x h ∙ ap (λ y. take i xs ++ y ∷ []) (sym e))

pub map_more : {A B : Type 0} (f : A → B) (base : List B) (xs : List A) (i : ℕ) (x : A) → i < length xs → x ≡ get_or xs i x → (base ++ map f (take i xs)) ++ f x ∷ [] ≡ base ++ map f (take (i + 1) xs)
map_more f base xs i x h e = append_assoc base (map f (take i xs)) (f x ∷ []) ∙ ap (λ ys. base ++ ys) (sym (map-append f (take i xs) (x ∷ [])) ∙ ap (map f) (taken_more xs i x h e))

-- what a row declares, where it is one of the action
pub declared_some : (a : Action) (row : CustomRow) (names : List (List ℕ)) → same_action (Custom row.name) a ≡ true → names ≡ row.subscopes → map Custom names ≡ declared_by a row
declared_some a row names h e = ap (map Custom) e ∙ sym (ap (λ t. if t then map Custom row.subscopes else []) h)

-- and where it is of another
pub declared_none : (a : Action) (row : CustomRow) (pending : List Action) → same_action (Custom row.name) a ≡ false → pending ≡ pending ++ declared_by a row
declared_none a row pending h = sym (ap (λ t. pending ++ (if t then map Custom row.subscopes else [])) h ∙ append-nil pending)

pub declared_more : (a : Action) (base : List Action) (rows : List CustomRow) (i : ℕ) (row : CustomRow) → i < length rows → row ≡ get_or rows i row → (base ++ flat_map (declared_by a) (take i rows)) ++ declared_by a row ≡ base ++ flat_map (declared_by a) (take (i + 1) rows)
declared_more a base rows i row h e = flat_map_more (declared_by a) base (take i rows) row ∙ ap (λ ys. base ++ flat_map (declared_by a) ys) (taken_more rows i row h e)
