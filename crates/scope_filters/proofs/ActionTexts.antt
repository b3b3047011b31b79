-- The texts of actions have no '!' and are no words for metascopes, so that a scope's text is cut where its action ends.
use Rattle.std.proofs.Common.{◌≡◌, ℕ, Bool, true, false, not, ◌&&◌, ◌==◌, IsTrue, List, [], ◌∷◌, ◌++◌, take, drop, nat_eq, nat_le, length, refl, sym, ap, subst, ◌∙◌, arith}
use Rattle.std.specs.Prelude.{codes}
use Rattle.std.specs.List.{list_all}
use Rattle.std.specs.Cmp.Lexicographic.{pointwise, bytes_decides}
use Rattle.std.proofs.lemmas.Bool.Decides.{nat_tests}
use Rattle.std.proofs.lemmas.List.{take-append-drop}
use Rattle.scope_names.specs.declared.action.Action.{Action}
use Rattle.scope_names.specs.declared.action.Action.TheVariants.{Custom}
use Rattle.scope_names.specs.Actions.{text_of, is_action}
use Rattle.scope_names.specs.Custom.{is_custom_byte, is_custom_name, ends_well}
use Rattle.scope_filters.specs.Contexts.{same}
use Rattle.scope_filters.proofs.Cuts.{is_without, first, second}

clash : (b : Bool) → b ≡ true → b ≡ false → ⊥
clash b h k = cc

not_true : (b : Bool) → (b ≡ true → ⊥) → b ≡ false
not_true true h = absurd (h refl)
not_true false h = refl

unmarked : (b : ℕ) → is_custom_byte b ≡ true → not (b == 33) ≡ true
unmarked b h = grind (arith, nat_tests)

all_unmarked : (bytes : List ℕ) → list_all is_custom_byte bytes ≡ true → is_without 33 bytes ≡ true
all_unmarked [] h = refl
all_unmarked (b ∷ bytes) h = rw (unmarked b (first _ _ h)) (all_unmarked bytes (second _ _ h))

-- a custom name has custom bytes alone
custom_bytes : (bytes : List ℕ) → IsTrue (is_custom_name bytes) → list_all is_custom_byte bytes ≡ true
custom_bytes bytes h =
    let front : take 7 bytes ≡ codes "custom:" = (bytes_decides (take 7 bytes) (codes "custom:")).0 (first _ _ h) in
    let whole : take 7 bytes ++ drop 7 bytes ≡ bytes = take-append-drop 7 bytes in
    let rest : list_all is_custom_byte (drop 7 bytes) ≡ true = second (nat_le (length (drop 7 bytes)) 57 && ends_well (drop 7 bytes)) _ (second (pointwise nat_eq (take 7 bytes) (codes "custom:")) _ h) in
    let all : list_all is_custom_byte (codes "custom:" ++ drop 7 bytes) ≡ true = rest in
    let P : List ℕ → Type 0 = λ x. list_all is_custom_byte (x ++ drop 7 bytes) ≡ true in
    let Q : List ℕ → Type 0 = λ x. list_all is_custom_byte x ≡ true in
    subst Q whole (subst P (sym front) all)

pub text_unmarked : (a : Action) → IsTrue (is_action a) → is_without 33 (text_of a) ≡ true
text_unmarked (Custom name) h = all_unmarked name (custom_bytes name h)
text_unmarked _ h = refl

-- a word that is no custom name
apart : (name word : List ℕ) → IsTrue (is_custom_name name) → is_custom_name word ≡ false → same name word ≡ false
apart name word h k = not_true (same name word) (λ e. clash (is_custom_name word) (ap is_custom_name (sym ((bytes_decides name word).0 e)) ∙ h) k)

pub not_self : (a : Action) → IsTrue (is_action a) → same (text_of a) (codes "self") ≡ false
not_self (Custom name) h = apart name (codes "self") h refl
not_self _ h = refl

pub not_inherit : (a : Action) → IsTrue (is_action a) → same (text_of a) (codes "inherit") ≡ false
not_inherit (Custom name) h = apart name (codes "inherit") h refl
not_inherit _ h = refl
