-- How many entries are owed, as one life changes.
use Rattle.std.proofs.Common.{ℕ, ◌≡◌, ◌+◌, ◌-◌, ◌≤◌, Option, Some, None, refl, ap, arith}
use Rattle.std.specs.FinMap.{get, insert, remove, empty}
use Rattle.server_life.specs.declared.life.Phase.{Phase}
use Rattle.server_life.specs.declared.life.Phase.TheVariants.{Stopped, Adopting, Spawning, Routing, Ready, Unrouting, Stopping, Parked}
use Rattle.server_life.specs.Owed.{owed as owed_in}
use Rattle.hub_lives.specs.declared.lives.Leased.{Leased}
use Rattle.hub_lives.specs.Lives.{Lives, owed, owed_by}
use Rattle.hub_lives.proofs.Found.{part, sum_without, sum_with, sum_empty}

as_part : (o : Option Leased) → part (λ (l : Leased). owed_in l.life.phase) o ≡ owed_by o
as_part None = refl
as_part (Some l) = refl

-- what a generation owes is part of the whole
pub without : (lives : Lives) (g : ℕ) → owed lives ≡ owed_by (get lives g) + owed (remove lives g)
without lives g =
    let sum = sum_without (λ (l : Leased). owed_in l.life.phase) lives g in
    let here = as_part (get lives g) in
    omega (arith, sum, here)

pub with : (lives : Lives) (g : ℕ) (l : Leased) → owed (insert lives g l) ≡ owed_in l.life.phase + owed (remove lives g)
with lives g l = sum_with (λ (l : Leased). owed_in l.life.phase) lives g l

pub none : owed empty ≡ 0
none = sum_empty (λ (l : Leased). owed_in l.life.phase)

pub part_of : (lives : Lives) (g : ℕ) → owed_by (get lives g) ≤ owed lives
part_of lives g = let all = without lives g in omega (arith, all)

-- in place of what a generation owed comes what its new life owes
pub turned : (lives : Lives) (g n still by : ℕ) (l : Leased) → still ≡ owed lives → by ≡ owed_by (get lives g) → n ≡ owed_in l.life.phase → still - by + n ≡ owed (insert lives g l)
turned lives g n still by l s b e =
    let all = without lives g in
    let new = with lives g l in
    omega (arith, all, new, s, b, e)

pub gone : (lives : Lives) (g still by : ℕ) → still ≡ owed lives → by ≡ owed_by (get lives g) → still - by ≡ owed (remove lives g)
gone lives g still by s b = let all = without lives g in omega (arith, all, s, b)

pub begins_owing : (lives : Lives) (g n still : ℕ) (l : Leased) → get lives g ≡ None → still ≡ owed lives → n ≡ owed_in l.life.phase → still + n ≡ owed (insert lives g l)
begins_owing lives g n still l missing s e =
    let all = without lives g in
    let new = with lives g l in
    let nothing : owed_by (get lives g) ≡ 0 = ap owed_by missing in
    omega (arith, all, new, nothing, s, e)

pub owed_few : (phase : Phase) → owed_in phase ≤ 4
owed_few Stopped = omega arith
owed_few (Adopting g) = omega arith
owed_few (Spawning g) = omega arith
owed_few (Routing g) = omega arith
owed_few (Ready g) = omega arith
owed_few (Unrouting g) = omega arith
owed_few (Stopping g) = omega arith
owed_few (Parked g at) = omega arith
