-- What the words of a command say, by the command as `clap` takes it.
use Rattle.std.specs.Prelude.{◌≡◌, Bool, true, false, List, [], ◌∷◌, bytes_eq, codes, Option, Some, None, Result, Ok, Err, IfOk}
use Rattle.std.specs.Prelude.{if◌then◌else◌}
use Rattle.std.specs.declared.alloc.AllocError.{AllocError}
use Rattle.clap.specs.Faults.{fault_of}
use Rattle.clap.specs.Kinds.{Kinds}
use Rattle.clap.specs.Simple.{App, app_of, matches_of, new_rule}
use Rattle.clap.specs.Walk.{Row, Rule, Text, first_of}
use Rattle.clap.specs.declared.builder.action.ArgAction.TheVariants.{SetTrue}
use Rattle.clap.specs.declared.builder.command.Command.{Command}
use Rattle.hub_words.specs.declared.word_error.WordError.{WordError}
use Rattle.hub_words.specs.declared.word_error.WordError.TheVariants.{Refused, Memory}

-- ---- arguments

-- ID
abbrev pub positional_rule : Text → Rule
positional_rule id = record (new_rule id) { required = true }

-- [--id]
abbrev pub flag_rule : Text → Rule
flag_rule id = record (new_rule id) { long = Some id; action = Some SetTrue }

-- [--id VALUE], where help has a name for the value
abbrev pub choice_rule : Text → Rule
choice_rule id = record (new_rule id) { long = Some id; value_names = 1 }

-- --id VALUE
abbrev pub needed_choice_rule : Text → Rule
needed_choice_rule id = record (new_rule id) { long = Some id; value_names = 1; required = true }

-- a flag that is given has the value `true`
abbrev pub is_true : Option Text → Bool
is_true None = false
is_true (Some text) = bytes_eq text (codes "true")

abbrev pub is_given : Text → List Row → Bool
is_given id rows = is_true (first_of id rows)

-- what may be made for such a command
abbrev pub Makes : App → Result Command AllocError → Type 0
Makes app made = IfOk made (λ command. app_of command ≡ app)

-- ---- words

abbrev pub begins : Text → List Text → Bool
begins name [] = false
begins name (word ∷ words) = bytes_eq word name

-- no word is out of place
abbrev pub is_taken : Kinds → Bool
is_taken [] = true
is_taken (kind ∷ kinds) = false

-- what the matches of the words say, where the first word names the command and the command takes them
abbrev pub read_by : {A : Type 0} → Text → App → (List Row → Option A) → List Text → Option A
read_by name app says words =
    if begins name words then (if is_taken (fault_of app words) then says (matches_of app words) else None) else None

-- what may be answered to words that say this: exactly that, or want of memory
abbrev pub Answers : {A : Type 0} → Option A → Result A WordError → Type 0
Answers meaning (Ok words) = meaning ≡ Some words
Answers meaning (Err Refused) = meaning ≡ None
Answers meaning (Err Memory) = Unit {0}
