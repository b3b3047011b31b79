-- Lemmas on how the whole command ends.
use Rattle.std.proofs.Common.{◌≡◌, refl, inl, inr, ℕ, List, Option, Some, None}
use Rattle.hub_words.specs.declared.guard.GuardWords.{GuardWords}
use Rattle.secret_files.specs.declared.secret_file.SecretError.TheVariants.{Memory}
use Rattle.guard_serving.specs.Ends.{unserved}
use Rattle.guard_serving.specs.Hall.{Hall}
use Rattle.guard_serving.specs.Runs.{HasNoSecret, RunEnds}
use Rattle.guard_serving.specs.declared.ends.GuardEnd.{GuardEnd}
use Rattle.guard_serving.specs.declared.ends.GuardFault.TheVariants as fault

no_memory : (files : Option (List (List ℕ × List ℕ))) (name : Option (List ℕ)) (faults : ℕ) → HasNoSecret files name faults faults Memory
no_memory files None faults = tt
no_memory files (Some name) faults = tt

-- want of memory before anything was done
pub wanting : (guards : GuardWords → Option (List ℕ) → ℕ → Type 0) (idle : Type 0) (said : Option GuardWords) (files : Option (List (List ℕ × List ℕ)))
    (faults : ℕ) (h : Hall) (end : GuardEnd) → end ≡ unserved fault.Memory → idle → RunEnds guards idle said files faults faults h end h
wanting guards idle None files faults h end is unused = (inr is, refl, refl, unused)
wanting guards idle (Some words) files faults h end is unused =
    inl (record { error = Memory; none = no_memory files words.secret_file faults; is = is; quiet = refl; unused = unused })
