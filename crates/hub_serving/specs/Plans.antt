-- What the words of `serve` and their file say, and why that is nothing to serve by.
use Rattle.std.specs.Prelude.{◌≡◌, ◌⊎◌, List, ℕ, Option, Some, None}
use Rattle.hub_config.specs.declared.config.FileConfig.{FileConfig}
use Rattle.hub_words.specs.declared.serve.ServeWords.{ServeWords}
use Rattle.hub_main.specs.Told.{FilesTold}
use Rattle.hub_main.specs.Configured.{IsFile, IsUnfound}
use Rattle.hub_main.specs.declared.cause.Cause.TheVariants.{Words, Memory}
use Rattle.hub_serving.specs.declared.plan.Plan.{Plan}
use Rattle.hub_serving.specs.declared.end.NotServed.{NotServed}
use Rattle.hub_serving.specs.declared.end.NotServed.TheVariants.{Because, NoAddress}

-- Each part of the plan is that of the file or of the words, and the file names an address
pub record IsOf (file : FileConfig) (words : ServeWords) (plan : Plan) : Type 0 where
  pub hub : plan.hub ≡ record file.hub { no_trail = words.no_trail }
  pub listen : file.listen ≡ Some plan.listen
  pub command : plan.command ≡ file.command
  pub managed : plan.managed ≡ file.managed
  pub proxy : plan.proxy ≡ file.proxy
  pub db : plan.db ≡ words.db
  pub workers : plan.workers ≡ words.workers
  pub connections : plan.connections ≡ words.connections

-- The file that the words name is a configuration, and the plan is made of what it and the words say
pub record IsPlan (files : FilesTold) (words : ServeWords) (plan : Plan) : Type 0 where
  pub file : FileConfig
  pub found : IsFile files words.config file
  pub says : IsOf file words plan

-- Why the file of this name gives no plan: it couldn't be read, is no configuration, or names no address, or memory was wanting. `files` is
-- what the files tell before it was read, and `files'` after that
abbrev pub IsUnplanned : (files files' : FilesTold) → (name : List ℕ) → NotServed → Type 0
IsUnplanned files files' name (Because cause) = IsUnfound files files' (Some name) cause
IsUnplanned files files' name NoAddress = (file : FileConfig) × IsFile files name file × (file.listen ≡ None)

-- ---- the words

-- What was read are the words of `serve`, and the plan is theirs and their file's
abbrev pub IsPlanOf : Option ServeWords → FilesTold → Plan → Type 0
IsPlanOf None files plan = ⊥
IsPlanOf (Some words) files plan = IsPlan files words plan

-- Why there is no plan: the words are refused, or memory was wanting to read them; or they are those of `serve`, and their file gives none.
-- `files` is what the files tell before, and `files'` after it
abbrev pub HasNoPlan : Option ServeWords → (files files' : FilesTold) → NotServed → Type 0
HasNoPlan None files files' why = ((why ≡ Because Words) ⊎ (why ≡ Because Memory)) × (files' ≡ files)
HasNoPlan (Some words) files files' why = IsUnplanned files files' words.config why
