-- How the command ends, by what came of its job.
use Rattle.std.proofs.Common.{◌≡◌, ℕ, IsTrue, List, Option, Some, refl, sym, subst}
use Rattle.hub_core.specs.Visits.{Entry}
use Rattle.hub_core.specs.declared.start.Start.{Start}
use Rattle.hub_words.specs.declared.load.LoadWords.{LoadWords}
use Rattle.hub_loading.specs.Jobs.{IsJob, IsFault}
use Rattle.hub_loading.specs.Lines.{lines}
use Rattle.hub_loading.specs.Runs.{Ends, Writes, end_of}
use Rattle.hub_loading.specs.Setting.{IsJobHub}
use Rattle.hub_loading.specs.declared.job.Loaded.{Loaded}
use Rattle.hub_loading.specs.declared.job.LoadFault.{LoadFault}
use Rattle.hub_loading.specs.declared.job.LoadFault.TheVariants.{HashKept as Kept, Memory as Wanting}
use Rattle.hub_loading.specs.declared.run.End.{End}
use Rattle.hub_loading.specs.declared.run.End.TheVariants.{Done, BadWords, NoOutput, Memory, HashKept}

pub said : (read : Option LoadWords) (words : LoadWords) (start : Start) (entries : List Entry) (loaded : Loaded) (held held' : Option (List ℕ)) (writes writes' : ℕ) (end : End)
    → read ≡ Some words → IsJobHub start → IsTrue start.has_rows → IsJob words.seed words.users start entries loaded → Writes (lines words.users loaded) held held' writes writes' end
    → Ends read held held' writes writes' end
said read words start entries loaded held held' writes writes' Done is hub told job written =
    (words, is, record { start = start; hub = hub; none_kept = told; entries = entries; loaded = loaded; job = job; written = written })
said read words start entries loaded held held' writes writes' BadWords is hub told job written = absurd written
said read words start entries loaded held held' writes writes' NoOutput is hub told job written =
    (words, is, record { start = start; hub = hub; none_kept = told; entries = entries; loaded = loaded; job = job; written = written })
said read words start entries loaded held held' writes writes' Memory is hub told job written = written
said read words start entries loaded held held' writes writes' (HashKept draw) is hub told job written = absurd written

pub no_job : (read : Option LoadWords) (words : LoadWords) (fault : LoadFault) (held : Option (List ℕ)) (writes : ℕ) (end : End)
    → read ≡ Some words → IsFault words.users fault → end ≡ end_of fault → Ends read held held writes writes end
no_job read words (Kept draw) held writes end is kept ended = subst (λ (e : End). Ends read held held writes writes e) (sym ended) (words, is, kept, refl)
no_job read words Wanting held writes end is kept ended = subst (λ (e : End). Ends read held held writes writes e) (sym ended) refl
