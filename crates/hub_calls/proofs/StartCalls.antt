-- A start is answered by no 503, once there is a draw.
use Rattle.std.proofs.Common.{◌≡◌, ℕ, false, [], ◌∷◌, List, Option, refl}
use Rattle.std.specs.Prelude.{Some, None, IsSome, Ok, Err, codes}
use Rattle.std.specs.Option.{is_some}
use Rattle.hub_kit.specs.Hashes.{draw_text, hash_text}
use Rattle.hub_kit.specs.declared.names.ServerKey.{ServerKey}
use Rattle.hub_tables.specs.Lookups.{token_of_hash}
use Rattle.hub_tables.specs.State.{State}
use Rattle.server_life.specs.LifeTable.{life_after}
use Rattle.server_life.specs.declared.life.LifeEvent.TheVariants.{Begin}
use Rattle.server_life.specs.declared.life.LifeRefusal.TheVariants.{Running, PendingSpawn, PendingStop, OldGeneration, NotNow}
use Rattle.hub_machine.specs.State.{Hub, free_target, life_of, next_generation}
use Rattle.hub_machine.specs.Apply.{LifeStep}
use Rattle.hub_machine.specs.Replies.{Answer, if_so}
use Rattle.hub_machine.specs.declared.refusal.Refusal.{Refusal}
use Rattle.hub_machine.specs.declared.refusal.Refusal.TheVariants.{Exists, Full, Rule}
use Rattle.hub_calls.specs.Starts as calls
use Rattle.hub_machine.proofs.Statuses.{is_503, no_rule}

on_target : (s : Hub) (now : ℕ) (secret : List ℕ) (server : ServerKey) (target : Option (List ℕ)) → is_503 (calls.on_target s now secret server target) ≡ false
on_target s now secret server None = refl
on_target s now secret server (Some target) = refl

may_start : (s : Hub) (now : ℕ) (secret : List ℕ) (server : ServerKey) → is_503 (calls.may_start s now secret server) ≡ false
may_start s now secret server =
    let t : State = s.tables in
    let r : Answer = calls.on_target s now secret server (free_target s.pool s.lives) in
    let client : List (Option Refusal) = if_so (calls.is_without_client t server) (Full 10 calls.clients_limit) ∷ [] in
    let token : List (Option Refusal) = if_so (calls.is_without_token t) (Full 5 t.limits.tokens) ∷ client in
    let hash : List (Option Refusal) = if_so (is_some (token_of_hash t (hash_text secret))) (Exists (codes "token")) ∷ token in
    no_rule (calls.is_past_limit t server) (Rule (codes "server limit")) hash r refl
    (no_rule (is_some (token_of_hash t (hash_text secret))) (Exists (codes "token")) token r refl
    (no_rule (calls.is_without_token t) (Full 5 t.limits.tokens) client r refl
    (no_rule (calls.is_without_client t server) (Full 10 calls.clients_limit) [] r refl
    (on_target s now secret server (free_target s.pool s.lives)))))

on_begin : (step : LifeStep) (r : Answer) → is_503 r ≡ false → is_503 (calls.on_begin step r) ≡ false
on_begin (Ok next) r h = h
on_begin (Err Running) r h = refl
on_begin (Err PendingSpawn) r h = refl
on_begin (Err PendingStop) r h = refl
on_begin (Err (OldGeneration g)) r h = refl
on_begin (Err NotNow) r h = refl

pub post_server : (s : Hub) (now : ℕ) (draw : Option (List ℕ)) (server : ServerKey) → IsSome draw → is_503 (calls.post_server s now draw server) ≡ false
post_server s now None server h = cc h
post_server s now (Some draw) server h =
    on_begin (life_after (life_of s.lives server) (next_generation s.tables) Begin) (calls.may_start s now (draw_text draw) server) (may_start s now (draw_text draw) server)
