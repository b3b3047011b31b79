-- The order of the actions is that of their texts.
use Rattle.std.proofs.Common.{◌≡◌, ℕ, Bool, true, false, IsTrue, List, ◌∷◌, ◌++◌, take, drop, nat_eq, refl, sym, ap, ◌∙◌, ◌⊎◌, inl, inr, subst}
use Rattle.std.specs.Prelude.{codes}
use Rattle.std.specs.List.{list_all}
use Rattle.std.specs.Cmp.Lexicographic.{pointwise, bytes_decides}
use Rattle.std.specs.declared.cmp.Ordering.{Ordering}
use Rattle.std.specs.declared.cmp.Ordering.TheVariants.{Less, Equal, Greater}
use Rattle.std.proofs.lemmas.List.{take-append-drop}
use Rattle.hub_kit.specs.KeyOrder.{name_cmp}
use Rattle.scope_names.specs.declared.action.Action.{Action}
use Rattle.scope_names.specs.declared.action.Action.TheVariants.{AccessServers, Custom}
use Rattle.scope_names.specs.Custom.{is_custom_name, is_custom_rest}
use Rattle.scope_names.specs.Actions.{is_action, listed, text_of}
use Rattle.scope_names.specs.ActionOrder.{action_cmp}
use Rattle.scope_names.specs.Coverage.{is_among}
use Rattle.scope_names.proofs.Among.{of_all}
use Rattle.scope_names.proofs.CustomNames.{left}

same_ordering : Ordering → Ordering → Bool
same_ordering Less Less = true
same_ordering Equal Equal = true
same_ordering Greater Greater = true
same_ordering _ _ = false

is_same : (o p : Ordering) → same_ordering o p ≡ true → o ≡ p
unfolding same_ordering
is_same Less Less h = refl
is_same Equal Equal h = refl
is_same Greater Greater h = refl
is_same Less Equal h = cc
is_same Less Greater h = cc
is_same Equal Less h = cc
is_same Equal Greater h = cc
is_same Greater Less h = cc
is_same Greater Equal h = cc

agrees : Action → Action → Bool
agrees a b = same_ordering (action_cmp a b) (name_cmp (text_of a) (text_of b))

table_agrees : list_all (λ a. list_all (agrees a) listed) listed ≡ true
unfolding listed agrees same_ordering
table_agrees = refl

-- a custom name begins with 'c', as no text of the table
custom_before : (rest : List ℕ) → list_all (agrees (Custom (99 ∷ rest))) listed ≡ true
unfolding listed agrees same_ordering
custom_before rest = refl

custom_after : (rest : List ℕ) → list_all (λ a. agrees a (Custom (99 ∷ rest))) listed ≡ true
unfolding listed agrees same_ordering
custom_after rest = refl

kind : (a : Action) → (is_among a listed ≡ true) ⊎ ((name : List ℕ) × (a ≡ Custom name))
unfolding listed
kind (Custom name) = inr (name, refl)
kind AccessServers = inl refl
kind _ = inl refl

begins : (name : List ℕ) → is_custom_name name ≡ true → (rest : List ℕ) × (name ≡ 99 ∷ rest)
begins name h =
    let front : take 7 name ≡ codes "custom:" = (bytes_decides (take 7 name) (codes "custom:")).0 (left (pointwise nat_eq (take 7 name) (codes "custom:")) (is_custom_rest (drop 7 name)) h) in
    (117 ∷ 115 ∷ 116 ∷ 111 ∷ 109 ∷ 58 ∷ drop 7 name, sym (take-append-drop 7 name) ∙ ap (λ (x : List ℕ). x ++ drop 7 name) front)

of_agrees : (a b : Action) → agrees a b ≡ true → action_cmp a b ≡ name_cmp (text_of a) (text_of b)
unfolding agrees
of_agrees a b h = is_same (action_cmp a b) (name_cmp (text_of a) (text_of b)) h

listed_custom : (a b : Action) (name : List ℕ) → is_among a listed ≡ true → b ≡ Custom name → IsTrue (is_action b) → agrees a b ≡ true
listed_custom a b name k e h =
    let n : is_custom_name name ≡ true = subst (λ (x : Action). is_action x ≡ true) e h in
    let r = begins name n in
    subst (λ (x : Action). agrees a x ≡ true) (sym (e ∙ ap Custom r.1)) (of_all (λ a. agrees a (Custom (99 ∷ r.0))) listed a (custom_after r.0) k)

custom_listed : (a b : Action) (name : List ℕ) → a ≡ Custom name → IsTrue (is_action a) → is_among b listed ≡ true → agrees a b ≡ true
custom_listed a b name e h k =
    let n : is_custom_name name ≡ true = subst (λ (x : Action). is_action x ≡ true) e h in
    let r = begins name n in
    subst (λ (x : Action). agrees x b ≡ true) (sym (e ∙ ap Custom r.1)) (of_all (agrees (Custom (99 ∷ r.0))) listed b (custom_before r.0) k)

both_custom : (a b : Action) (m n : List ℕ) → a ≡ Custom m → b ≡ Custom n → action_cmp a b ≡ name_cmp (text_of a) (text_of b)
both_custom a b m n e f =
    let P : Action → Action → Type 0 = λ x y. action_cmp x y ≡ name_cmp (text_of x) (text_of y) in
    subst (λ (x : Action). P x b) (sym e) (subst (λ (y : Action). P (Custom m) y) (sym f) refl)

pub text_order : (a b : Action) → IsTrue (is_action a) → IsTrue (is_action b) → action_cmp a b ≡ name_cmp (text_of a) (text_of b)
text_order a b h k = elim (kind a) as (λ _. action_cmp a b ≡ name_cmp (text_of a) (text_of b)) [
  | inl l ↦ elim (kind b) as (λ _. action_cmp a b ≡ name_cmp (text_of a) (text_of b)) [
    | inl r ↦ of_agrees a b (of_all (agrees a) listed b (of_all (λ a. list_all (agrees a) listed) listed a table_agrees l) r)
    | inr n ↦ of_agrees a b (listed_custom a b n.0 l n.1 k)
  ]
  | inr m ↦ elim (kind b) as (λ _. action_cmp a b ≡ name_cmp (text_of a) (text_of b)) [
    | inl r ↦ of_agrees a b (custom_listed a b m.0 m.1 h r)
    | inr n ↦ both_custom a b m.0 n.0 m.1 n.1
  ]
]
