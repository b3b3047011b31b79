-- Which bytes are custom names.
use Rattle.std.proofs.Common.{◌≡◌, ℕ, ◌<◌, Bool, true, false, ◌≤◌, ◌-◌, length-drop, le-leb, ◌&&◌, List, [], take, drop, nat_eq, length, arith, refl, sym, ap, ◌∙◌}
use Rattle.std.specs.Prelude.{codes, not}
use Rattle.std.specs.List.{list_all}
use Rattle.std.specs.Cmp.Lexicographic.{pointwise}
use Rattle.std.proofs.lemmas.List.{drop_all, take_all}
use Rattle.scope_names.specs.Custom.{is_custom_byte, is_custom_rest, is_custom_name, ends_well}

pub left : (a b : Bool) → (a && b) ≡ true → a ≡ true
left true b h = refl
left false b h = cc

pub right : (a b : Bool) → (a && b) ≡ true → b ≡ true
right true b h = h
right false b h = cc

and_false : (a : Bool) → (a && false) ≡ false
and_false true = refl
and_false false = refl

pub rest_is : (bytes : List ℕ) → length bytes ≤ 57 → ends_well bytes ≡ true → list_all is_custom_byte bytes ≡ is_custom_rest bytes
rest_is bytes h k = rw (le-leb (length bytes) 57 h, k) refl

pub short_is : (bytes : List ℕ) → length bytes < 8 → false ≡ is_custom_name bytes
short_is bytes h =
    let none : drop 7 bytes ≡ [] = drop_all 7 bytes (omega arith) in
    sym (ap (λ r. pointwise nat_eq (take 7 bytes) (codes "custom:") && is_custom_rest r) none ∙ and_false (pointwise nat_eq (take 7 bytes) (codes "custom:")))

pub named_is : (bytes : List ℕ) → pointwise nat_eq (take 7 bytes) (codes "custom:") ≡ true → is_custom_rest (take (length bytes - 7) (drop 7 bytes)) ≡ is_custom_name bytes
named_is bytes h =
    let all : take (length bytes - 7) (drop 7 bytes) ≡ drop 7 bytes = take_all (length bytes - 7) (drop 7 bytes) (omega (arith, length-drop 7 bytes)) in
    ap is_custom_rest all ∙ sym (rw h refl)

pub not-false : (a : Bool) → not a ≡ false → a ≡ true
not-false true h = refl
not-false false h = cc
