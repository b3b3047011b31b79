-- The hub's changes and calls are those of the world.
use Rattle.std.proofs.Common.{◌≡◌, ℕ, List, Option, Some, None, Ok, refl, ap, ◌∙◌, map, ◌++◌, []}
use Rattle.std.specs.Option.{option_to_list}
use Rattle.std.specs.Prelude.{option_map}
use Rattle.std.specs.FinMap.{get}
use Rattle.hub_devices.specs.declared.calls.Spawning.{Spawning}
use Rattle.hub_devices.specs.declared.calls.Spawning.TheVariants as S
use Rattle.hub_devices.specs.declared.calls.Routing.{Routing}
use Rattle.hub_devices.specs.declared.calls.Told.{Told}
use Rattle.hub_devices.specs.declared.calls.Told.TheVariants.{Done}
use Rattle.hub_devices.specs.declared.calls.Told.TheVariants as Tell
use Rattle.hub_lives.specs.declared.lives.Leased.{Leased}
use Rattle.hub_machine.specs.State.{Hub}
use Rattle.hub_machine.specs.Apply.{effect, moved, of_lease, stepped}
use Rattle.hub_machine.specs.declared.change.Change.TheVariants as change
use Rattle.server_life.specs.LifeTable.{life_after}
use Rattle.server_life.specs.declared.life.Life.{Life}
use Rattle.server_life.specs.declared.life.Phase.{Phase}
use Rattle.server_life.specs.declared.life.Phase.TheVariants.{Stopped, Adopting, Spawning as SpawningOf, Routing as RoutingOf, Ready, Unrouting, Stopping, Parked}
use Rattle.server_life.specs.declared.life.LifeEvent.{LifeEvent}
use Rattle.server_life.specs.declared.life.LifeEvent.TheVariants.{Begin, AskStop, Spawned, SpawnFailed, Routed, RouteFailed, Unrouted, UnrouteFailed, Ended, StopFailed, EndUnkept, Alive, Dead, PollFailed}
use Rattle.server_life.specs.declared.life.Todo.{Todo}
use Rattle.server_work.specs.LifeSteps.{left_of, left_in}
use Rattle.server_work.specs.Outcomes.{todo_of, start_told}
use Rattle.server_work.specs.declared.work.Work.{Work}
use Rattle.world_law.specs.World.{Spawn, Route, call_of, with_life}
use Rattle.world_law.specs.Ties.{asked}

moved_is : (g : ℕ) (l : Leased) (life : Life) (ph : Phase) (s : Hub) → (moved g l life ph s).lives ≡ with_life g l (left_in ph life) s.lives
moved_is g l life Stopped s = refl
moved_is g l life (Adopting h) s = refl
moved_is g l life (SpawningOf h) s = refl
moved_is g l life (RoutingOf h) s = refl
moved_is g l life (Ready h) s = refl
moved_is g l life (Unrouting h) s = refl
moved_is g l life (Stopping h) s = refl
moved_is g l life (Parked h at) s = refl

pub life_is : (s : Hub) (g : ℕ) (event : LifeEvent) (l : Leased) (made : Life × Todo) → get s.lives g ≡ Some l → life_after l.life g event ≡ Ok made
    → (effect (change.Life g event) s).lives ≡ with_life g l (left_of made.0) s.lives
life_is s g event l made e h =
    ap (λ (o : Option Leased). (of_lease g event o s).lives) e ∙ (ap (λ r. (stepped g l r s).lives) h ∙ moved_is g l made.0 made.0.phase s)

start_is : (w : Work) (o : Option (List ℕ)) (t : Told)
    → (map (λ (c : Spawning × Told). Spawn c.0) (start_told w o t) ++ map (λ (c : Routing × Told). Route c.0) []) ≡ option_to_list (option_map (λ secret. Spawn (S.Start w.generation w.server w.target secret)) o)
start_is w None t = refl
start_is w (Some secret) t = refl

pub asked_is : (w : Work) (o : LifeEvent) → asked w o ≡ option_to_list (call_of w (todo_of o))
asked_is w Begin = refl
asked_is w AskStop = refl
asked_is w Spawned = start_is w w.secret Done
asked_is w SpawnFailed = start_is w w.secret Tell.Failed
asked_is w Routed = refl
asked_is w RouteFailed = refl
asked_is w Unrouted = refl
asked_is w UnrouteFailed = refl
asked_is w Ended = refl
asked_is w StopFailed = refl
asked_is w EndUnkept = refl
asked_is w Alive = refl
asked_is w Dead = refl
asked_is w PollFailed = refl
