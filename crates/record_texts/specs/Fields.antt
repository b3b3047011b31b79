-- The fields of a record's object: whole numbers, texts, lists of texts, and what may be null.
use Rattle.std.specs.Prelude.{◌≡◌, ◌<◌, ◌≤◌, ◌^◌, ℕ, List, [], ◌∷◌, map, Option, Some, None, ⊤, refl}
use Rattle.std.proofs.Common.{arith}
use Rattle.json.specs.Tree as tree
use Rattle.hub_kit.specs.Moments.{greatest}
use Rattle.serde_json.specs.Data.{Data, null, number, unsigned, string, array, Items, no_items, item}
use Rattle.serde_json.specs.Written.{outline, items_outline}
use Rattle.record_texts.specs.Plain.{IsPlain, ItemsArePlain}

abbrev pub whole : ℕ → Data
whole n = number (unsigned n)

-- a value, or null
abbrev pub maybe : {X : Type 0} → (X → Data) → Option X → Data
maybe data_of None = null
maybe data_of (Some x) = data_of x

abbrev pub strings : List (List ℕ) → Items
strings [] = no_items
strings (s ∷ ss) = item (string s) (strings ss)

-- the texts of a list
abbrev pub lines : {X : Type 0} → (X → List ℕ) → List X → Data
lines text_of xs = array (strings (map text_of xs))

-- what is true of a value that may lack
abbrev pub IfThere : {X : Type 0} → (X → Type 0) → Option X → Type 0
IfThere valid None = ⊤
IfThere valid (Some x) = valid x

abbrev pub IsMoment : ℕ → Type 0
IsMoment n = n ≤ greatest

abbrev pub IsWord : ℕ → Type 0
IsWord n = n < 2 ^ 64

-- a moment is a word: the proof of a law of `Whole`, which stands here since a source cites only what stands in specs/
pub moment_fits : (n : ℕ) → IsMoment n → IsWord n
moment_fits n h = omega arith

-- ---- such fields read back: for the proofs of the law `plain` of `Record`, which are in specs/ since the sources cite them

pub moment_plain : (o : Option ℕ) → IfThere IsMoment o → IsPlain (maybe whole o)
moment_plain None h = tt
moment_plain (Some n) h = moment_fits n h

pub word_plain : (o : Option ℕ) → IfThere IsWord o → IsPlain (maybe whole o)
word_plain None h = tt
word_plain (Some n) h = h

pub whole_flat : (o : Option ℕ) → tree.depth (outline (maybe whole o)) ≡ 0
whole_flat None = refl
whole_flat (Some n) = refl

pub text_plain : {X : Type 0} (text_of : X → List ℕ) (o : Option X) → IsPlain (maybe (λ x. string (text_of x)) o)
text_plain text_of None = tt
text_plain text_of (Some x) = tt

pub text_flat : {X : Type 0} (text_of : X → List ℕ) (o : Option X) → tree.depth (outline (maybe (λ x. string (text_of x)) o)) ≡ 0
text_flat text_of None = refl
text_flat text_of (Some x) = refl

pub strings_plain : (ss : List (List ℕ)) → ItemsArePlain (strings ss)
strings_plain [] = tt
strings_plain (s ∷ ss) = (tt, strings_plain ss)

pub strings_flat : (ss : List (List ℕ)) → tree.items_depth (items_outline (strings ss)) ≡ 0
strings_flat [] = refl
strings_flat (s ∷ ss) = omega (arith, strings_flat ss)
