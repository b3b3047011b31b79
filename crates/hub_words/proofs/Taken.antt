-- What is read by the matches that a command gives.
use Rattle.std.proofs.Common.{◌≡◌, ◌≢◌, ◌∙◌, Bool, true, List, [], ◌∷◌, Option, None, Result, Err, if◌then◌else◌, sym, ap, ap₂, subst, refl}
use Rattle.clap.specs.Faults.{fault_of}
use Rattle.clap.specs.Kinds.{Kinds}
use Rattle.clap.specs.Simple.{App, matches_of}
use Rattle.clap.specs.Walk.{Row, Text}
use Rattle.hub_words.specs.declared.word_error.WordError.{WordError}
use Rattle.hub_words.specs.declared.word_error.WordError.TheVariants.{Refused, Memory}
use Rattle.hub_words.specs.Commands.{Answers, begins, is_taken, read_by}

not_taken : {A : Type 0} (kinds : Kinds) (found : Option A) → kinds ≢ [] → (if is_taken kinds then found else None) ≡ None
not_taken [] found some = absurd (some refl)
not_taken (kind ∷ kinds) found some = refl

module _ {A : Type 0} (name : Text) (app : App) (says : List Row → Option A) (words : List Text) where
  named : begins name words ≡ true
      → read_by name app says words ≡ (if is_taken (fault_of app words) then says (matches_of app words) else None)
  named first =
      ap (λ (t : Bool). if t then (if is_taken (fault_of app words) then says (matches_of app words) else None) else None) first

  -- the words are taken, and say what their matches say
  pub taken : (command : App) (texts : List Text) (rows : List Row) (answer : Result A WordError) → begins name words ≡ true → command ≡ app → texts ≡ words
      → fault_of command texts ≡ [] → rows ≡ matches_of command texts → Answers (says rows) answer → Answers (read_by name app says words) answer
  taken command texts rows answer first is same none found said =
      let faultless : fault_of app words ≡ [] = sym (ap₂ fault_of is same) ∙ none in
      let matched : rows ≡ matches_of app words = found ∙ ap₂ matches_of is same in
      let read : read_by name app says words ≡ says rows =
      named first ∙ (ap (λ (k : Kinds). if is_taken k then says (matches_of app words) else None) faultless ∙ ap says (sym matched)) in
      subst (λ (m : Option A). Answers m answer) (sym read) said

  -- the words are refused, or memory was wanting
  pub refused : (command : App) (texts : List Text) (e : WordError) → begins name words ≡ true → command ≡ app → texts ≡ words
      → (e ≡ Refused → fault_of command texts ≢ []) → Answers (read_by name app says words) (Err e)
  refused command texts Refused first is same faulty =
      named first ∙ not_taken (fault_of app words) (says (matches_of app words)) (λ none. faulty refl (ap₂ fault_of is same ∙ none))
  refused command texts Memory first is same faulty = tt
