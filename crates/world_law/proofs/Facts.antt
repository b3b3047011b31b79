-- What holds in every world that is reached, in terms of what is looked up in it.
use Rattle.std.proofs.Common.{ℕ, ◌≡◌, ◌≢◌, ◌+◌, ◌*◌, ◌<◌, ◌⊎◌, true, List, Option, Some, None}
use Rattle.std.specs.Prelude.{Contains}
use Rattle.hub_kit.specs.declared.names.ServerKey.{ServerKey}
use Rattle.hub_devices.specs.declared.calls.Spawning.TheVariants as S
use Rattle.hub_devices.specs.declared.calls.Routing.TheVariants as R
use Rattle.hub_devices.specs.declared.calls.Told.TheVariants.{Done}
use Rattle.hub_devices.specs.declared.calls.Told.TheVariants as Tell
use Rattle.server_life.specs.declared.life.Life.{Life}
use Rattle.server_life.specs.LifeTable.{generation_of}
use Rattle.route_table.specs.Path.{segments}
use Rattle.server_work.specs.RoutePaths.{route_path}
use Rattle.world_law.specs.World.{Mem, What, Spawn, Route, Call, Answer, BySpawner, ByProxy, Answered, Instance, Listing}
use Rattle.world_law.specs.Law.{HaveOwnTargets}
use Rattle.world_law.proofs.Rows.{is_clean, is_spawning}
use Rattle.world_law.proofs.Tables.{Path, Entry, Routes, IsExact, SeenPast, DeletionTells}

-- whose lease a generation is
pub record Lease : Type 0 where
  pub server : ServerKey
  pub target : List ℕ

-- what is looked up in a world
pub record Seen : Type 0 where
  pub pool : List (List ℕ)
  pub next : ℕ
  pub held : ℕ → Option Lease
  pub life : ℕ → Life
  pub table : Routes
  pub programs : List Instance
  pub sent : List Call
  pub told : List Answered
  pub ready : List Instance
  pub listed : List Listing
  pub over : List Listing

abbrev pub call : ℕ → What → Call
call id what = record { id = id; what = what }

abbrev pub start_of : Instance → List ℕ → What
start_of i secret = Spawn (S.Start i.generation i.server i.target secret)

abbrev pub addition : List ℕ → List ℕ → ℕ → What
addition p t s = Route (R.Add p t (Some s))

-- the segments of a server's route
abbrev pub path_of : ServerKey → Path
path_of server = segments (route_path server)

-- g is leased, with this path and target
abbrev pub LiveAs : (ℕ → Option Lease) → Path → List ℕ → ℕ → Type 0
LiveAs held p t g = (a : Lease) × (held g ≡ Some a) × (path_of a.server ≡ p) × (a.target ≡ t)

-- s is the serial of a listed route that leads to the lease of its path
abbrev pub Leads : (ℕ → Option Lease) → Path → List ℕ → ℕ → Type 0
Leads held p t s = (g : ℕ) × (s ≡ 2 * g) × LiveAs held p t g

-- an addition that may still arrive: its generation has this path and target, or it is over and the path has seen its deletion
abbrev pub Vouched : (ℕ → Option Lease) → ℕ → (Path → Option ℕ) → Path → List ℕ → ℕ → Type 0
Vouched held next seen p t s = (g : ℕ) × (s ≡ 2 * g) × (g < next) × (LiveAs held p t g ⊎ ((held g ≡ None) × SeenPast seen p (2 * g + 1)))

-- no start of g is on its way
abbrev pub NoStart : List Call → ℕ → Type 0
NoStart sent g = (id : ℕ) (i : Instance) (secret : List ℕ) → Mem sent (call id (start_of i secret)) → i.generation ≢ g

-- no program of g runs
abbrev pub NoProgram : List Instance → ℕ → Type 0
NoProgram programs g = (p : Instance) → Mem programs p → p.generation ≢ g

-- nothing of g runs, now or later
abbrev pub Gone : List Call → List Instance → ℕ → ℕ → Type 0
Gone sent programs next g = NoStart sent g × NoProgram programs g × (g < next)

-- no addition of g is listed, on its way or about to be sent
abbrev pub Unsent : Routes → List Call → List Instance → ℕ → Type 0
Unsent table sent ready g =
    ((p : Path) (e : Entry) → table.route p ≡ Some e → e.serial ≢ Some (2 * g))
    × ((id : ℕ) (p t : List ℕ) (s : ℕ) → Mem sent (call id (addition p t s)) → s ≢ 2 * g)
    × ((i : Instance) → Mem ready i → i.generation ≢ g)

abbrev pub Clean : Routes → List Call → List Instance → Lease → ℕ → Type 0
Clean table sent ready a g = Unsent table sent ready g ⊎ SeenPast table.seen (path_of a.server) (2 * g + 1)

-- a start on its way is that of a spawning lease of which nothing runs, and the only one of its generation
abbrev pub StartOk : Seen → ℕ → Instance → Type 0
StartOk w id i =
    (w.held i.generation ≡ Some (record { server = i.server; target = i.target }))
    × (is_spawning (w.life i.generation).phase ≡ true)
    × NoProgram w.programs i.generation
    × ((n : ℕ) (j : Instance) (secret : List ℕ) → Mem w.sent (call n (start_of j secret)) → j.generation ≡ i.generation → n ≡ id)

abbrev pub SentOk : Seen → ℕ → What → Type 0
SentOk w id (Spawn (S.Start g k t secret)) = StartOk w id (record { generation = g; server = k; target = t })
SentOk w id (Spawn (S.Stop g t)) = NoStart w.sent g × (g < w.next)
SentOk w id (Spawn (S.Poll g t)) = Unit {0}
SentOk w id (Route (R.Add p t (Some s))) = Vouched w.held w.next w.table.seen (segments p) t s
SentOk w id (Route (R.Add p t None)) = Unit {0}
SentOk w id (Route (R.Delete p s)) = Unit {0}
SentOk w id (Route R.List) = Unit {0}

abbrev pub ToldOk : Seen → What → Answer → Type 0
ToldOk w (Spawn (S.Start g k t secret)) (BySpawner Done) = NoStart w.sent g × (g < w.next)
ToldOk w (Spawn (S.Start g k t secret)) (BySpawner Tell.Failed) = Gone w.sent w.programs w.next g
ToldOk w (Spawn (S.Stop g t)) (BySpawner Done) = Gone w.sent w.programs w.next g
ToldOk w (Route (R.Delete p s)) (ByProxy r) = DeletionTells w.table.seen (segments p) s r
ToldOk w what answer = Unit {0}

-- the lease of a program that runs
abbrev pub RunsFor : (ℕ → Option Lease) → Instance → Type 0
RunsFor held p = (a : Lease) × (held p.generation ≡ Some a) × (a.server ≡ p.server) × (a.target ≡ p.target)

-- a serial that was listed is of a generation that was given out
abbrev pub WasGiven : ℕ → Listing → Type 0
WasGiven next x = (g : ℕ) × (x.serial ≡ 2 * g) × (g < next)

-- and of one that isn't live for the path
abbrev pub IsOverFor : (ℕ → Option Lease) → ℕ → Listing → Type 0
IsOverFor held next x = (g : ℕ) × (x.serial ≡ 2 * g) × (g < next) × ((a : Lease) → held g ≡ Some a → route_path a.server ≢ x.path)

-- the invariant: each step keeps it
pub record Inv (w : Seen) : Type 0 where
  pub below : (g : ℕ) (a : Lease) → w.held g ≡ Some a → g < w.next
  pub targets : (g h : ℕ) (a b : Lease) → w.held g ≡ Some a → w.held h ≡ Some b → a.target ≡ b.target → g ≡ h
  pub servers : (g h : ℕ) (a b : Lease) → w.held g ≡ Some a → w.held h ≡ Some b → a.server ≡ b.server → g ≡ h
  pub pooled : (g : ℕ) (a : Lease) → w.held g ≡ Some a → Contains w.pool a.target
  pub phases : (g : ℕ) (a : Lease) → w.held g ≡ Some a → generation_of (w.life g).phase ≡ Some g
  pub exact : IsExact w.table
  pub routes : (p : Path) (e : Entry) (s : ℕ) → w.table.route p ≡ Some e → e.serial ≡ Some s → Leads w.held p e.target s
  pub clean : (g : ℕ) (a : Lease) → w.held g ≡ Some a → is_clean (w.life g).phase ≡ true → Clean w.table w.sent w.ready a g
  pub sent : (id : ℕ) (what : What) → Mem w.sent (call id what) → SentOk w id what
  pub told : (id : ℕ) (what : What) (answer : Answer) → Mem w.told (record { call = call id what; answer = answer }) → ToldOk w what answer
  pub ready : (i : Instance) → Mem w.ready i → Vouched w.held w.next w.table.seen (path_of i.server) i.target (2 * i.generation)
  pub programs : (p : Instance) → Mem w.programs p → RunsFor w.held p
  pub apart : HaveOwnTargets w.programs
  pub listed : (x : Listing) → Mem w.listed x → WasGiven w.next x
  pub over : (x : Listing) → Mem w.over x → IsOverFor w.held w.next x
