-- A stop is answered by no 503.
use Rattle.std.proofs.Common.{◌≡◌, ℕ, Bool, true, false, ◌&&◌, [], ◌∷◌, Option, refl}
use Rattle.std.specs.Prelude.{Some, None, Ok, Err, codes}
use Rattle.hub_kit.specs.declared.names.ServerKey.{ServerKey}
use Rattle.hub_tables.specs.Lookups.{is_default}
use Rattle.server_life.specs.LifeTable.{life_after}
use Rattle.server_life.specs.declared.life.LifeEvent.TheVariants.{AskStop}
use Rattle.server_life.specs.declared.life.Todo.{Todo}
use Rattle.server_life.specs.declared.life.Todo.TheVariants.{Nothing, Start, AddRoute, DeleteRoute, StopProgram, Poll}
use Rattle.admin_rules.specs.Servers as servers
use Rattle.hub_machine.specs.State.{Hub, lease_of}
use Rattle.hub_machine.specs.Apply.{LifeStep}
use Rattle.hub_machine.specs.Replies.{Answer, or_refusal, first_refusal, if_so}
use Rattle.hub_lives.specs.declared.lives.Leased.{Leased}
use Rattle.hub_machine.specs.declared.refusal.Refusal.TheVariants.{Rule}
use Rattle.hub_calls.specs.Calling.{done}
use Rattle.hub_calls.specs.Stops as calls
use Rattle.hub_machine.proofs.Statuses.{is_503}
use Rattle.hub_calls.proofs.Statuses.{ruled}

goes_on : (server : ServerKey) (g : ℕ) (l : Leased) (todo : Todo) → is_503 (calls.goes_on server g l todo) ≡ false
goes_on server g l Nothing = refl
goes_on server g l Start = refl
goes_on server g l AddRoute = refl
goes_on server g l DeleteRoute = refl
goes_on server g l StopProgram = refl
goes_on server g l Poll = refl

on_stop : (server : ServerKey) (g : ℕ) (l : Leased) (step : LifeStep) → is_503 (calls.on_stop server g l step) ≡ false
on_stop server g l (Err e) = refl
on_stop server g l (Ok next) = goes_on server g l next.1

at_rest : (s : Hub) (server : ServerKey) (remove : Bool) → is_503 (calls.at_rest s server remove) ≡ false
at_rest s server true = ruled s (servers.delete_server s.tables server) done (λ t. refl)
at_rest s server false = refl

on_lease : (s : Hub) (server : ServerKey) (remove : Bool) (held : Option (ℕ × Leased)) → is_503 (calls.on_lease s server remove held) ≡ false
on_lease s server remove None = at_rest s server remove
on_lease s server remove (Some held) = on_stop server held.0 held.1 (life_after held.1.life held.0 AskStop)

not_default : (b : Bool) (r : Answer) → is_503 r ≡ false → is_503 (or_refusal r (first_refusal (if_so b (Rule (codes "default server")) ∷ []))) ≡ false
not_default true r h = refl
not_default false r h = h

pub delete_server : (s : Hub) (server : ServerKey) (remove : Bool) → is_503 (calls.delete_server s server remove) ≡ false
delete_server s server remove =
    not_default (remove && is_default server.server) (calls.on_lease s server remove (lease_of s.lives server)) (on_lease s server remove (lease_of s.lives server))
