-- What one direction passed on, and why it stopped.
use Rattle.std.specs.Prelude.{◌≡◌, ℕ, ◌<◌, ◌≤◌, ◌-◌, List, ◌++◌, length, take, Option, Some}
use Rattle.hub_devices.specs.Faults.{Rises}
use Rattle.hub_devices.specs.Streams.{Takes, Appends, IsEnd}
use Rattle.tunnel.specs.declared.ends.Pump.{Pump}
use Rattle.tunnel.specs.declared.ends.PumpEnd.{PumpEnd}
use Rattle.tunnel.specs.declared.ends.PumpEnd.TheVariants.{Ended, Budget, ReadFault, WriteFault}

-- the first n of the bytes that were given first and then by the source
abbrev pub relayed : List ℕ → List ℕ → ℕ → List ℕ
relayed first given n = take n (first ++ given)

-- why it stopped after n of so many bytes
abbrev pub StoppedAt : PumpEnd → Option (List ℕ) → ℕ → ℕ → ℕ → Type 0
StoppedAt Ended left all most n = IsEnd left × (n ≡ all) × (n < most)
StoppedAt Budget left all most n = n ≡ most
StoppedAt ReadFault left all most n = (n ≡ all) × (n < most)
StoppedAt WriteFault left all most n = (n < all) × (n < most)

-- the sink got the first bytes of `first` and of what the source gave, as many as the number says
pub record Pumped (left held left' held' : Option (List ℕ)) (first : List ℕ) (most : ℕ) (p : Pump) : Type 0 where
  pub given : List ℕ
  pub takes : Takes left given left'
  pub appends : Appends held (relayed first given p.bytes) held'
  pub within : p.bytes ≤ length (first ++ given)
  pub spare : length given ≤ most - length first
  pub stopped : StoppedAt p.end left' (length (first ++ given)) most p.bytes

-- the same over all that a source has that tells its bytes
abbrev pub EndsOver : PumpEnd → ℕ → ℕ → ℕ → Type 0
EndsOver Ended all most n = (n ≡ all) × (n < most)
EndsOver Budget all most n = (n ≡ most) × (most ≤ all)
EndsOver ReadFault all most n = (n ≤ all) × (n < most)
EndsOver WriteFault all most n = (n < all) × (n < most)

pub record PumpedOver (left held held' : Option (List ℕ)) (first : List ℕ) (most : ℕ) (p : Pump) : Type 0 where
  pub over : (bytes : List ℕ) → left ≡ Some bytes
      → Appends held (relayed first bytes p.bytes) held' × EndsOver p.end (length (first ++ bytes)) most p.bytes

-- a fault comes only where that count rose
abbrev pub Caused : PumpEnd → ℕ → ℕ → ℕ → ℕ → Type 0
Caused Ended reads reads' writes writes' = Unit {0}
Caused Budget reads reads' writes writes' = Unit {0}
Caused ReadFault reads reads' writes writes' = Rises reads reads'
Caused WriteFault reads reads' writes writes' = Rises writes writes'
