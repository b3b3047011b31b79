-- What is read from an argument that was found.
use Rattle.std.proofs.Common.{◌≡◌, ◌∙◌, ℕ, List, Option, Some, option_map, option_and_then, Result, Ok, Err, ap, sym, subst}
use Rattle.clap.specs.Walk.{Row, Text, first_of}
use Rattle.hub_words.specs.declared.word_error.NoValue.{NoValue}
use Rattle.hub_words.specs.declared.word_error.NoValue.TheVariants.{Wrong, Memory}
use Rattle.hub_words.specs.Arguments.{Reads, if_there, needed, optional}

module _ {X : Type 0} (reads : List ℕ → Option X) (id : Text) (rows : List Row) (word : List ℕ) (found : first_of id rows ≡ Some word) where
  pub needed_read : (r : Result X NoValue) → Reads (reads word) r → Reads (needed reads id rows) r
  needed_read r said = subst (λ (m : Option X). Reads m r) (sym (ap (option_and_then reads) found)) said

  pub optional_read : (r : Result X NoValue) (x : X) → Reads (reads word) r → r ≡ Ok x → optional reads id rows ≡ Some (Some x)
  optional_read r x said is = ap (if_there reads) found ∙ ap (option_map Some) (subst (Reads (reads word)) is said)

  pub optional_unread : (r : Result X NoValue) (e : NoValue) → Reads (reads word) r → r ≡ Err e → Reads (optional reads id rows) (Err e)
  optional_unread r (Wrong wrong) said is = ap (if_there reads) found ∙ ap (option_map Some) (subst (Reads (reads word)) is said)
  optional_unread r Memory said is = tt
