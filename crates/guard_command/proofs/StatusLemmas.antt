-- The statuses of a guard whose words are read.
use Rattle.std.proofs.Common.{◌≡◌, ℕ, List, Option, Some, inl, inr, subst, arith}
use Rattle.hub_words.specs.declared.guard.GuardWords.{GuardWords}
use Rattle.secret_files.specs.declared.secret_file.SecretError.{SecretError}
use Rattle.secret_files.specs.declared.secret_file.SecretError.TheVariants as secret
use Rattle.guard_serving.specs.Ends.{Over, fault_of_secret, status_of}
use Rattle.guard_serving.specs.Hall.{Hall}
use Rattle.guard_serving.specs.Runs.{RunEnds}
use Rattle.guard_serving.specs.declared.ends.GuardEnd.{GuardEnd}
use Rattle.guard_serving.specs.declared.ends.GuardFault.{GuardFault}
use Rattle.guard_serving.specs.declared.ends.GuardFault.TheVariants.{Words, NoFile, NoSecret, Output, Memory, Listener, Full}

secret_status : (e : SecretError) → status_of (fault_of_secret e) ≡ 2 → ⊥
secret_status secret.NoFile is = omega (arith, is)
secret_status secret.NoSecret is = omega (arith, is)
secret_status secret.Memory is = omega (arith, is)

over_status : (h h' : Hall) (count : ℕ) (f : GuardFault) → Over h count f h' → status_of f ≡ 2 → ⊥
over_status h h' count Words over is = over
over_status h h' count NoFile over is = over
over_status h h' count NoSecret over is = over
over_status h h' count Output over is = omega (arith, is)
over_status h h' count Memory over is = omega (arith, is)
over_status h h' count Listener over is = omega (arith, is)
over_status h h' count Full over is = omega (arith, is)

-- 2 is no status of a guard whose words are read
pub not_words : (guards : GuardWords → Option (List ℕ) → ℕ → Type 0) (idle : Type 0) (words : GuardWords) (files : Option (List (List ℕ × List ℕ)))
    (faults faults' : ℕ) (h h' : Hall) (end : GuardEnd) → RunEnds guards idle (Some words) files faults faults' h end h' → status_of end.fault ≡ 2 → ⊥
not_words guards idle words files faults faults' h h' end (inl e) is = secret_status e.error (subst (λ (x : GuardEnd). status_of x.fault ≡ 2) e.is is)
not_words guards idle words files faults faults' h h' end (inr s) is = over_status h h' end.served end.fault s.over is
