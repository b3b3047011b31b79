-- How the serving of connections ends before its number is reached.
use Rattle.std.specs.Prelude.{◌≡◌, ℕ}
use Rattle.hub_devices.specs.Faults.{Rises}
use Rattle.hub_serve.specs.declared.serving.ServeFault.{ServeFault}
use Rattle.hub_serve.specs.declared.serving.ServeFault.TheVariants.{Listener, Memory}

-- Why fewer connections were served than were asked for, after so many: a fault of the listener, which tells that number, and whose count
-- rose from `before` to `after`; or want of memory, before the first
abbrev pub IsFault : ℕ → ℕ → ℕ → ServeFault → Type 0
IsFault count before after (Listener n) = (n ≡ count) × Rises before after
IsFault count before after Memory = count ≡ 0
