-- Each action has one text, each text at most one action, and the order of the actions is that of their texts.
use Rattle.std.proofs.Common.{◌≡◌, ℕ, Bool, true, false, not, IsTrue, List, [], ◌∷◌, cond, nat_eq, refl, sym, ap, ◌∙◌}
use Rattle.std.specs.Prelude.{Option, Some, None}
use Rattle.std.specs.List.{list_all}
use Rattle.std.specs.Cmp.Lexicographic.{pointwise, bytes_decides}
use Rattle.scope_names.specs.declared.action.Action.{Action}
use Rattle.scope_names.specs.declared.action.Action.TheVariants.{AccessServers, Custom}
use Rattle.scope_names.specs.Custom.{custom_read, is_custom_name}
use Rattle.scope_names.specs.Actions.{action_read, custom_or_none, first_with, is_action, listed, or_custom, text_of}
use Rattle.scope_names.proofs.CustomNames.{left, right}

-- ---- what is read has the text

found : (text : List ℕ) (actions : List Action) (a : Action) → first_with text actions ≡ Some a → text_of a ≡ text
found text [] a h = cc
found text (x ∷ xs) a h = by (found text xs a) (pointwise nat_eq (text_of x) text) refl
  where
    by : (first_with text xs ≡ Some a → text_of a ≡ text) → (t : Bool) → pointwise nat_eq (text_of x) text ≡ t → text_of a ≡ text
    by further true k = let e : Some x ≡ Some a = ap (λ t. cond t (Some x) (first_with text xs)) (sym k) ∙ h in let s : x ≡ a = cc in ap text_of (sym s) ∙ (bytes_decides (text_of x) text).0 k
    by further false k = further (ap (λ t. cond t (Some x) (first_with text xs)) (sym k) ∙ h)

custom_found : (text : List ℕ) (a : Action) → custom_or_none (custom_read text) ≡ Some a → text_of a ≡ text
custom_found text a h = by (is_custom_name text) h
  where
    by : (t : Bool) → custom_or_none (cond t (Some text) None) ≡ Some a → text_of a ≡ text
    by true k = let s : Custom text ≡ a = cc in ap text_of (sym s)
    by false k = cc

pub read_text : (text : List ℕ) (a : Action) → action_read text ≡ Some a → text_of a ≡ text
read_text text a h = by (first_with text listed) refl
  where
    by : (o : Option Action) → first_with text listed ≡ o → text_of a ≡ text
    by None k = custom_found text a (ap (or_custom text) (sym k) ∙ h)
    by (Some x) k = let e : Some x ≡ Some a = ap (or_custom text) (sym k) ∙ h in let s : x ≡ a = cc in found text listed a (k ∙ ap Some s)

-- ---- the text of an action is read as it

-- no text of the table is a custom name
apart : list_all (λ a. not (is_custom_name (text_of a))) listed ≡ true
unfolding listed
apart = refl

none_with : (name : List ℕ) (actions : List Action) → is_custom_name name ≡ true → list_all (λ a. not (is_custom_name (text_of a))) actions ≡ true → first_with name actions ≡ None
none_with name [] h k = refl
none_with name (x ∷ xs) h k = by (none_with name xs h (right (not (is_custom_name (text_of x))) (list_all (λ a. not (is_custom_name (text_of a))) xs) k)) (pointwise nat_eq (text_of x) name) refl
  where
    by : first_with name xs ≡ None → (t : Bool) → pointwise nat_eq (text_of x) name ≡ t → cond t (Some x) (first_with name xs) ≡ None
    by further true e = absurd (let s : is_custom_name (text_of x) ≡ true = ap is_custom_name ((bytes_decides (text_of x) name).0 e) ∙ h in let n : not (is_custom_name (text_of x)) ≡ true = left (not (is_custom_name (text_of x))) (list_all (λ a. not (is_custom_name (text_of a))) xs) k in let z : not true ≡ true = ap not (sym s) ∙ n in cc)
    by further false e = further

text_read_custom : (name : List ℕ) → is_custom_name name ≡ true → action_read name ≡ Some (Custom name)
text_read_custom name h = ap (or_custom name) (none_with name listed h apart) ∙ ap (λ t. custom_or_none (cond t (Some name) None)) h

pub text_read : (a : Action) → IsTrue (is_action a) → action_read (text_of a) ≡ Some a
unfolding listed
text_read (Custom name) h = text_read_custom name h
text_read AccessServers h = refl
text_read _ h = refl
