-- How the command `load` ends.
use Rattle.std.specs.Prelude.{◌≡◌, ◌++◌, ℕ, IsTrue, List, Option, Some, None}
use Rattle.hub_core.specs.Visits.{Entry}
use Rattle.hub_core.specs.declared.start.Start.{Start}
use Rattle.hub_devices.specs.Faults.{Rises}
use Rattle.hub_devices.specs.Streams.{Appends}
use Rattle.hub_words.specs.declared.load.LoadWords.{LoadWords}
use Rattle.load_asks.specs.Hashes.{IsFirstKept}
use Rattle.hub_loading.specs.Jobs.{IsJob}
use Rattle.hub_loading.specs.Lines.{lines}
use Rattle.hub_loading.specs.Setting.{IsJobHub}
use Rattle.hub_loading.specs.declared.job.Loaded.{Loaded}
use Rattle.hub_loading.specs.declared.job.LoadFault.{LoadFault}
use Rattle.hub_loading.specs.declared.job.LoadFault.TheVariants.{HashKept as Kept, Memory as Wanting}
use Rattle.hub_loading.specs.declared.run.End.{End}
use Rattle.hub_loading.specs.declared.run.End.TheVariants.{Done, BadWords, NoOutput, Memory, HashKept}

abbrev pub status_of : End → ℕ
status_of Done = 0
status_of BadWords = 2
status_of NoOutput = 6
status_of Memory = 7
status_of (HashKept draw) = 12

-- without a job
abbrev pub end_of : LoadFault → End
end_of (Kept draw) = HashKept draw
end_of Wanting = Memory

-- the text was written, or a part of it and the output failed, or there was no memory for it
abbrev pub Writes : List ℕ → Option (List ℕ) → Option (List ℕ) → ℕ → ℕ → End → Type 0
Writes text held held' writes writes' Done = Appends held text held'
Writes text held held' writes writes' BadWords = ⊥
Writes text held held' writes writes' NoOutput =
    (part more : List ℕ) × (text ≡ part ++ more) × Appends held part held' × Rises writes writes'
Writes text held held' writes writes' Memory = held' ≡ held
Writes text held held' writes writes' (HashKept draw) = ⊥

-- a job was done, over a keeper that told that it had no rows, and its lines were written
pub record Says (words : LoadWords) (held held' : Option (List ℕ)) (writes writes' : ℕ) (end : End) : Type 0 where
  pub start : Start
  pub hub : IsJobHub start
  pub none_kept : IsTrue start.has_rows
  pub entries : List Entry
  pub loaded : Loaded
  pub job : IsJob words.seed words.users start entries loaded
  pub written : Writes (lines words.users loaded) held held' writes writes' end

-- by what the words say
abbrev pub Ends : Option LoadWords → Option (List ℕ) → Option (List ℕ) → ℕ → ℕ → End → Type 0
Ends read held held' writes writes' Done = (words : LoadWords) × (read ≡ Some words) × Says words held held' writes writes' Done
Ends read held held' writes writes' BadWords = (read ≡ None) × (held' ≡ held)
Ends read held held' writes writes' NoOutput = (words : LoadWords) × (read ≡ Some words) × Says words held held' writes writes' NoOutput
Ends read held held' writes writes' Memory = held' ≡ held
Ends read held held' writes writes' (HashKept draw) =
    (words : LoadWords) × (read ≡ Some words) × IsFirstKept words.users (Some draw) × (held' ≡ held)
