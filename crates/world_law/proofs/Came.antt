-- What an outcome that came tells of its generation.
use Rattle.std.proofs.Common.{ℕ, ◌≡◌, ◌≢◌, ◌+◌, ◌*◌, Bool, true, false, List, [], ◌∷◌, Option, Some, None, Ok, Err, refl, ap, sym, subst}
use Rattle.hub_devices.specs.declared.calls.Spawning.{Spawning}
use Rattle.hub_devices.specs.declared.calls.Spawning.TheVariants as S
use Rattle.hub_devices.specs.declared.calls.Routing.{Routing}
use Rattle.hub_devices.specs.declared.calls.Routing.TheVariants as R
use Rattle.hub_devices.specs.declared.calls.Told.{Told}
use Rattle.hub_devices.specs.declared.calls.Told.TheVariants.{Done}
use Rattle.hub_devices.specs.declared.calls.Told.TheVariants as Tell
use Rattle.server_life.specs.declared.life.LifeEvent.{LifeEvent}
use Rattle.server_life.specs.declared.life.LifeEvent.TheVariants.{Begin, AskStop, Spawned, SpawnFailed, Unrouted, Ended, EndUnkept}
use Rattle.server_life.specs.Lives.{is_outcome}
use Rattle.hub_lives.specs.declared.lives.Leased.{Leased}
use Rattle.route_table.specs.declared.route.RouteRefusal.TheVariants.{NotFound, Stale, BadPath, BadTarget, Full, Memory}
use Rattle.route_table.specs.Path.{segments}
use Rattle.server_work.specs.declared.work.Work.{Work}
use Rattle.server_work.specs.declared.work.Kept.{Kept}
use Rattle.server_work.specs.declared.work.Kept.TheVariants as K
use Rattle.server_work.specs.Outcomes.{is_end, noted, KeptAs}
use Rattle.server_work.specs.RoutePaths.{route_path}
use Rattle.world_law.specs.Answers.{Reply, is_done}
use Rattle.world_law.specs.World.{Mem, What, Spawn, Route, Answer, BySpawner, ByProxy, World, work_of}
use Rattle.world_law.specs.Steps.{Came, told, done, failed}
use Rattle.world_law.proofs.Rows.{is_unrouted, ends, is_after_start}
use Rattle.world_law.proofs.Tables.{SeenPast, DeletionTells}
use Rattle.world_law.proofs.Facts.{Seen, call, NoStart, Gone, ToldOk}

one_same : {A : Type 0} (x y : A) → x ∷ [] ≡ y ∷ [] → x ≡ y
one_same x y h = cc

none_one : {A B : Type 0} (x : A) → [] ≡ x ∷ [] → B
none_one x h = cc

done_failed : {A : Type 0} → Done ≡ Tell.Failed → A
done_failed h = cc

was_done : {A : Type 0} (c d : Routing) → ◌≡◌ {A = List (Routing × Told)} ((c, Done) ∷ []) ((d, Tell.Failed) ∷ []) → A
was_done c d e = done_failed (ap (λ (y : Routing × Told). y.1) (one_same (c, Done) (d, Tell.Failed) e))

-- after these no start is on its way
abbrev is_quiet : LifeEvent → Bool
is_quiet Spawned = true
is_quiet SpawnFailed = true
is_quiet Ended = true
is_quiet e = false

module _ (v : Seen) (w : World) (f : (id : ℕ) (what : What) (answer : Answer) → Mem w.told (record { call = call id what; answer = answer }) → ToldOk v what answer) where
  -- what the spawner told of a call
  by_spawner : (id : ℕ) (asked c : Spawning) (said t : Told) → ◌≡◌ {A = List (Spawning × Told)} ((asked, said) ∷ []) ((c, t) ∷ []) → Mem w.told (record { call = call id (Spawn c); answer = BySpawner t }) → ToldOk v (Spawn asked) (BySpawner said)
  by_spawner id asked c said t e n = subst (λ (y : Spawning × Told). ToldOk v (Spawn y.0) (BySpawner y.1)) (sym (one_same (asked, said) (c, t) e)) (f id (Spawn c) (BySpawner t) n)

  quiet : (id g : ℕ) (l : Leased) (secret : Option (List ℕ)) (o : LifeEvent) → Came w id (work_of g l secret) o → is_quiet o ≡ true → NoStart v.sent g
  quiet id g l None Spawned (told c t e m n) h = none_one (c, t) e
  quiet id g l (Some s) Spawned (told c t e m n) h = (by_spawner id (S.Start g l.server l.target s) c Done t e n).0
  quiet id g l secret Spawned (done c r e m n d) h = none_one (c, Done) e
  quiet id g l secret Spawned (failed c e m) h = none_one (c, Tell.Failed) e
  quiet id g l None SpawnFailed (told c t e m n) h = none_one (c, t) e
  quiet id g l (Some s) SpawnFailed (told c t e m n) h = (by_spawner id (S.Start g l.server l.target s) c Tell.Failed t e n).0
  quiet id g l secret SpawnFailed (done c r e m n d) h = none_one (c, Done) e
  quiet id g l secret SpawnFailed (failed c e m) h = none_one (c, Tell.Failed) e
  quiet id g l secret Ended (told c t e m n) h = (by_spawner id (S.Stop g l.target) c Done t e n).0
  quiet id g l secret Ended (done c r e m n d) h = none_one (c, Done) e
  quiet id g l secret Ended (failed c e m) h = none_one (c, Tell.Failed) e
  quiet id g l secret o x h = cc

  gone : (id g : ℕ) (l : Leased) (secret : Option (List ℕ)) (o : LifeEvent) → Came w id (work_of g l secret) o → ends o ≡ true → Gone v.sent v.programs v.next g
  gone id g l None SpawnFailed (told c t e m n) h = none_one (c, t) e
  gone id g l (Some s) SpawnFailed (told c t e m n) h = by_spawner id (S.Start g l.server l.target s) c Tell.Failed t e n
  gone id g l secret SpawnFailed (done c r e m n d) h = none_one (c, Done) e
  gone id g l secret SpawnFailed (failed c e m) h = none_one (c, Tell.Failed) e
  gone id g l secret Ended (told c t e m n) h = by_spawner id (S.Stop g l.target) c Done t e n
  gone id g l secret Ended (done c r e m n d) h = none_one (c, Done) e
  gone id g l secret Ended (failed c e m) h = none_one (c, Tell.Failed) e
  gone id g l secret o x h = cc

  tells_seen : (p : List ℕ) (s : ℕ) (r : Reply) → is_done (R.Delete p s) r ≡ true → DeletionTells v.table.seen (segments p) s r → SeenPast v.table.seen (segments p) s
  tells_seen p s (Ok u) d x = x
  tells_seen p s (Err NotFound) d x = x
  tells_seen p s (Err (Stale given n)) d x = x
  tells_seen p s (Err (BadPath at)) d x = cc
  tells_seen p s (Err BadTarget) d x = cc
  tells_seen p s (Err (Full limit)) d x = cc
  tells_seen p s (Err Memory) d x = cc

  of_route : (id : ℕ) (p : List ℕ) (s : ℕ) (c : Routing) (r : Reply) → ◌≡◌ {A = List (Routing × Told)} ((R.Delete p s, Done) ∷ []) ((c, Done) ∷ []) → Mem w.told (record { call = call id (Route c); answer = ByProxy r }) → is_done c r ≡ true
      → SeenPast v.table.seen (segments p) s
  of_route id p s c r e n d =
      let q : c ≡ R.Delete p s = sym (ap (λ (y : Routing × Told). y.0) (one_same (R.Delete p s, Done) (c, Done) e)) in
      tells_seen p s r (subst (λ (y : Routing). is_done y r ≡ true) q d) (subst (λ (y : Routing). ToldOk v (Route y) (ByProxy r)) q (f id (Route c) (ByProxy r) n))

  unrouted : (id g : ℕ) (l : Leased) (secret : Option (List ℕ)) (o : LifeEvent) → Came w id (work_of g l secret) o → is_unrouted o ≡ true → SeenPast v.table.seen (segments (route_path l.server)) (2 * g + 1)
  unrouted id g l secret Unrouted (told c t e m n) h = none_one (c, t) e
  unrouted id g l secret Unrouted (done c r e m n d) h = of_route id (route_path l.server) (2 * g + 1) c r e n d
  unrouted id g l secret Unrouted (failed c e m) h = was_done (R.Delete (route_path l.server) (2 * g + 1)) c e
  unrouted id g l secret o x h = cc

-- ---- with what is noted

came_outcome : (w : World) (id : ℕ) (work : Work) (o : LifeEvent) → Came w id work o → (is_outcome o ≡ true) × (o ≢ EndUnkept)
came_outcome w id work Begin (told c t e m n) = none_one (c, t) e
came_outcome w id work Begin (done c r e m n d) = none_one (c, Done) e
came_outcome w id work Begin (failed c e m) = none_one (c, Tell.Failed) e
came_outcome w id work AskStop (told c t e m n) = none_one (c, t) e
came_outcome w id work AskStop (done c r e m n d) = none_one (c, Done) e
came_outcome w id work AskStop (failed c e m) = none_one (c, Tell.Failed) e
came_outcome w id work EndUnkept (told c t e m n) = none_one (c, t) e
came_outcome w id work EndUnkept (done c r e m n d) = none_one (c, Done) e
came_outcome w id work EndUnkept (failed c e m) = none_one (c, Tell.Failed) e
came_outcome w id work o x = (refl, λ h. cc)

-- what is noted of an outcome, and what that tells of the outcome
pub record Noted (o e : LifeEvent) : Type 0 where
  pub outcome : is_outcome e ≡ true
  pub after_start : is_after_start e ≡ true → is_quiet o ≡ true
  pub end : ends e ≡ true → ends o ≡ true
  pub unrouted : is_unrouted e ≡ true → is_unrouted o ≡ true

as_it_is : (o : LifeEvent) → is_outcome o ≡ true → o ≢ EndUnkept → Noted o o
as_it_is EndUnkept h n = absurd (n refl)
as_it_is Spawned h n = record { outcome = refl; after_start = λ x. refl; end = λ x. x; unrouted = λ x. x }
as_it_is SpawnFailed h n = record { outcome = refl; after_start = λ x. refl; end = λ x. x; unrouted = λ x. x }
as_it_is o h n = record { outcome = h; after_start = λ x. cc; end = λ x. x; unrouted = λ x. x }

unkept : (o : LifeEvent) → is_end o ≡ true → Noted o EndUnkept
unkept Ended h = record { outcome = refl; after_start = λ x. refl; end = λ x. cc; unrouted = λ x. cc }
unkept SpawnFailed h = record { outcome = refl; after_start = λ x. refl; end = λ x. cc; unrouted = λ x. cc }
unkept o h = cc

only_ends : (b : Bool) (faults faults' : ℕ) → KeptAs b faults faults' K.KeeperFault → b ≡ true
only_ends true faults faults' h = refl
only_ends false faults faults' h = absurd h

only_ends_too : (b : Bool) (faults faults' : ℕ) → KeptAs b faults faults' K.Memory → b ≡ true
only_ends_too true faults faults' h = refl
only_ends_too false faults faults' h = absurd h

pub noted_so : (w : World) (id : ℕ) (work : Work) (o : LifeEvent) (kept : Kept) (faults faults' : ℕ) → Came w id work o → KeptAs (is_end o) faults faults' kept → Noted o (noted o kept)
noted_so w id work o K.NotAsked faults faults' x k = let y = came_outcome w id work o x in as_it_is o y.0 y.1
noted_so w id work o K.Kept faults faults' x k = let y = came_outcome w id work o x in as_it_is o y.0 y.1
noted_so w id work o K.KeeperFault faults faults' x k = unkept o (only_ends (is_end o) faults faults' k)
noted_so w id work o K.Memory faults faults' x k = unkept o (only_ends_too (is_end o) faults faults' k)

-- ---- the three facts

module _ (v : Seen) (w : World) (f : (id : ℕ) (what : What) (answer : Answer) → Mem w.told (record { call = call id what; answer = answer }) → ToldOk v what answer)
    (id g : ℕ) (l : Leased) (secret : Option (List ℕ)) (o : LifeEvent) (kept : Kept) (faults faults' : ℕ) (x : Came w id (work_of g l secret) o) (k : KeptAs (is_end o) faults faults' kept) where
  pub no_start : is_after_start (noted o kept) ≡ true → NoStart v.sent g
  no_start h = quiet v w f id g l secret o x ((noted_so w id (work_of g l secret) o kept faults faults' x k).after_start h)

  pub all_gone : ends (noted o kept) ≡ true → Gone v.sent v.programs v.next g
  all_gone h = gone v w f id g l secret o x ((noted_so w id (work_of g l secret) o kept faults faults' x k).end h)

  pub deletion_seen : is_unrouted (noted o kept) ≡ true → SeenPast v.table.seen (segments (route_path l.server)) (2 * g + 1)
  deletion_seen h = unrouted v w f id g l secret o x ((noted_so w id (work_of g l secret) o kept faults faults' x k).unrouted h)
