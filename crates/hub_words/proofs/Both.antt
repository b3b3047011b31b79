-- What is made of values that were read together.
use Rattle.std.proofs.Common.{◌≡◌, Option, Some, option_map, option_and_then, Result, Ok, Err, ap, sym, subst}
use Rattle.hub_words.specs.declared.word_error.NoValue.{NoValue}
use Rattle.hub_words.specs.declared.word_error.NoValue.TheVariants.{Wrong, Memory}
use Rattle.hub_words.specs.Arguments.{Reads}

module _ {A B : Type 0} where
  -- all of them say what they are made into
  pub mapped : (f : A → B) (o : Option A) (r : Result A NoValue) (a : A) → Reads o r → r ≡ Ok a → option_map f o ≡ Some (f a)
  mapped f o r a said is = ap (option_map f) (subst (Reads o) is said)

  -- all of them are there, and what is made of them may be refused
  pub bound : (f : A → Option B) (o : Option A) (r : Result A NoValue) (a : A) (made : Result B NoValue) → Reads o r → r ≡ Ok a → Reads (f a) made
      → Reads (option_and_then f o) made
  bound f o r a made said is known =
      subst (λ (m : Option B). Reads m made) (sym (ap (option_and_then f) (subst (Reads o) is said))) known

  -- one of them is refused, or memory was wanting
  pub unmapped : (f : A → B) (o : Option A) (r : Result A NoValue) (e : NoValue) → Reads o r → r ≡ Err e → Reads (option_map f o) (Err e)
  unmapped f o r (Wrong id) said is = ap (option_map f) (subst (Reads o) is said)
  unmapped f o r Memory said is = tt

  pub unbound : (f : A → Option B) (o : Option A) (r : Result A NoValue) (e : NoValue) → Reads o r → r ≡ Err e → Reads (option_and_then f o) (Err e)
  unbound f o r (Wrong id) said is = ap (option_and_then f) (subst (Reads o) is said)
  unbound f o r Memory said is = tt
