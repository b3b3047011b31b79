-- How the serving of connections ends before its number is reached.
use Rattle.std.specs.Prelude.{◌≡◌, ℕ}
use Rattle.hub_devices.specs.Faults.{Rises}
use Rattle.worker_hall.specs.declared.hall.HallFault.{HallFault}
use Rattle.worker_hall.specs.declared.hall.HallFault.TheVariants.{Listener, Memory}

-- Why no more connections were taken, after so many: a fault of the listener, which tells that number, and whose count rose from `before`
-- to `after`; or want of memory, before the first
abbrev pub IsFault : ℕ → ℕ → ℕ → HallFault → Type 0
IsFault count before after (Listener n) = (n ≡ count) × Rises before after
IsFault count before after Memory = count ≡ 0
