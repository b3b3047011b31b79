-- A start that is answered fits the state, and a stop may be asked.
use Rattle.std.proofs.Common.{◌≡◌, ◌≤◌, ◌<◌, ◌+◌, ◌^◌, ℕ, Bool, true, false, cond, List, [], ◌∷◌, All, Option, refl, sym, ◌∙◌, ap, codes, arith}
use Rattle.std.specs.Prelude.{Some, None, Ok, Err, is_ok, is_some}
use Rattle.std.specs.List.{list_any}
use Rattle.std.specs.Ordering.{is_eq}
use Rattle.std.specs.Cmp.{tied_itself}
use Rattle.std.specs.Cmp.Lexicographic.{nat_list_cmp_total}
use Rattle.std.specs.FinMap.{get, insert, get-insert}
use Rattle.std.proofs.lemmas.List.Elements.{All-nil, All-cons}
use Rattle.hub_kit.specs.Hashes.{draw_text, hash_text}
use Rattle.hub_kit.specs.declared.names.ServerKey.{ServerKey}
use Rattle.scope_filters.specs.Admits.{same_server}
use Rattle.server_life.specs.LifeTable.{generation_of, life_after}
use Rattle.server_life.specs.declared.life.Life.{Life}
use Rattle.server_life.specs.declared.life.LifeEvent.TheVariants.{Begin, AskStop}
use Rattle.server_life.specs.declared.life.LifeRefusal.TheVariants.{Running, PendingSpawn, PendingStop, OldGeneration, NotNow}
use Rattle.server_life.specs.declared.life.Phase.{Phase}
use Rattle.server_life.specs.declared.life.Phase.TheVariants.{Stopped, Adopting, Spawning, Routing, Ready, Unrouting, Stopping, Parked}
use Rattle.server_life.specs.declared.life.Todo.{Todo}
use Rattle.server_life.specs.declared.life.Todo.TheVariants.{Nothing, Start, AddRoute, DeleteRoute, StopProgram, Poll}
use Rattle.hub_rows.specs.declared.changes.RowChange.{RowChange}
use Rattle.hub_rows.specs.declared.changes.RowChange.TheVariants.{Put}
use Rattle.hub_rows.specs.declared.records.Next.{Next}
use Rattle.hub_rows.specs.declared.rows.Row.TheVariants as Row
use Rattle.hub_rows.specs.declared.records.Token.{Token}
use Rattle.hub_tables.specs.State.{State}
use Rattle.hub_tables.specs.Lookups.{number_of, token_of_hash}
use Rattle.hub_tables.specs.Changes.{FitAll}
use Rattle.hub_tables.proofs.Fresh.{token_fits}
use Rattle.hub_lives.specs.declared.lives.Leased.{Leased}
use Rattle.hub_lives.proofs.Found.{found_in}
use Rattle.admin_rules.specs.Rules as rules
use Rattle.admin_rules.specs.Servers as servers
use Rattle.hub_machine.specs.State.{Hub, AreLeased, lease_of, life_in, life_of, free_target, next_generation}
use Rattle.hub_lives.specs.Lives.{LifeStep, step_of}
use Rattle.hub_machine.specs.Apply.{change_done}
use Rattle.hub_machine.specs.Carry.{FitsIn, FitsStop}
use Rattle.hub_machine.specs.Replies.{Answer, refuses, refuses_with, gives, changes, works, Good, rows_then, or_refusal, first_refusal, if_so}
use Rattle.hub_machine.specs.declared.change.Change.{Change}
use Rattle.hub_machine.specs.declared.change.Change.TheVariants as Of
use Rattle.hub_machine.specs.declared.refusal.Refusal.{Refusal}
use Rattle.hub_opening.specs.Opening.{next_token}
use Rattle.hub_calls.specs.Calling.{by_rules, after_rows, done}
use Rattle.hub_calls.specs.Starts.{begin_rows, server_token, on_target, may_start, on_begin, post_server}
use Rattle.hub_calls.specs.Stops.{goes_on, on_stop, at_rest, on_lease}
use Rattle.hub_core.specs.Current.{AreNumbered, next_code}
use Rattle.hub_core.specs.Works.{IsSound}
use Rattle.hub_core.specs.History.{change_of}
use Rattle.hub_core.proofs.Numbered.{IsNumbered, NumbersTokens, either}

-- a start fits and numbers its token, and a stop may be asked; changes of rows alone are shown to fit elsewhere
abbrev pub IsLively : Hub → Option Change → Type 0
IsLively s None = Unit {0}
IsLively s (Some (Of.Rows rows)) = Unit {0}
IsLively s (Some (Of.Begin g server rows)) = FitsIn s (Of.Begin g server rows) × NumbersTokens rows s.tables
IsLively s (Some (Of.Life g event)) = FitsIn s (Of.Life g event)

-- and its work can be done
abbrev pub Lively : Hub → Answer → Type 0
Lively s (works c w) = IsLively s (Some c) × IsSound w
Lively s r = IsLively s (change_of r)

pub lively_change : (s : Hub) (r : Answer) → Lively s r → IsLively s (change_of r)
lively_change s (refuses x) h = h
lively_change s (refuses_with c x) h = h
lively_change s (gives g) h = h
lively_change s (changes c g) h = h
lively_change s (works c w) h = h.0

pub lively_or : (s : Hub) (o : Option Refusal) (r : Answer) → Lively s r → Lively s (or_refusal r o)
lively_or s None r h = h
lively_or s (Some x) r h = tt

pub lively_then : (s : Hub) (rows : List RowChange) (g : Good) → Lively s (rows_then rows g)
lively_then s [] g = tt
lively_then s (r ∷ rest) g = tt

pub lively_by_rules : (s : Hub) (made : rules.Answer) (reply : Hub → Good) → Lively s (by_rules s made reply)
lively_by_rules s (Ok rows) reply = lively_then s rows (reply (after_rows rows s))
lively_by_rules s (Err e) reply = tt

-- ---- a server that may start is at rest

true_false : true ≡ false → ⊥
true_false h = cc

none_some : {A : Type 0} (x : A) → None ≡ Some x → ⊥
none_some x h = cc

-- a life of a generation isn't at rest
resting : (phase : Phase) (g : ℕ) → generation_of phase ≡ Some g → phase ≡ Stopped → ⊥
resting phase g h e = none_some g (sym (ap generation_of e) ∙ h)

begins : (phase : Phase) (asked : Bool) (g : ℕ) (next : Life × Todo) → life_after (record { phase = phase; stop_asked = asked }) g Begin ≡ Ok next → phase ≡ Stopped
begins Stopped asked g next h = refl
begins (Adopting x) asked g next h = cc h
begins (Spawning x) asked g next h = cc h
begins (Routing x) asked g next h = cc h
begins (Ready x) asked g next h = cc h
begins (Unrouting x) asked g next h = cc h
begins (Stopping x) asked g next h = cc h
begins (Parked x at) asked g next h = cc h

rests : (s : Hub) (server : ServerKey) (g : ℕ) (next : Life × Todo) → AreLeased s → life_after (life_of s.lives server) g Begin ≡ Ok next → lease_of s.lives server ≡ None
rests s server g next leased h = by (lease_of s.lives server) refl h
  where
    by : (o : Option (ℕ × Leased)) → lease_of s.lives server ≡ o → life_after (life_in o) g Begin ≡ Ok next → o ≡ None
    by None e h = refl
    by (Some x) e h =
        let at = found_in (λ (y : ℕ × Leased). same_server y.1.server server) s.lives x e in
        absurd (resting x.1.life.phase x.0 (leased.apart.phases x.0 x.1 at.0) (begins x.1.life.phase x.1.life.stop_asked g next h))

-- ---- the rows of a start

pub no_such : (t : State) → AreNumbered t → get t.tokens (next_token t) ≡ None
no_such t numbered = by (get t.tokens (next_token t)) refl
  where
    by : (o : Option Token) → get t.tokens (next_token t) ≡ o → o ≡ None
    by None e = refl
    by (Some k) e = let below : next_token t < next_token t = numbered.tokens (next_token t) k e in absurd (omega (arith, below))

begin_fits : (t : State) (now : ℕ) (secret : List ℕ) (server : ServerKey) (target : List ℕ) → AreNumbered t → token_of_hash t (hash_text secret) ≡ None
    → FitAll (begin_rows t now secret server target) t
begin_fits t now secret server target numbered new =
    (token_fits t.tokens (server_token t now secret server) (no_such t numbered) new, (tt, (tt, (tt, (tt, (tt, tt))))))

begin_raises : (t : State) (now : ℕ) (secret : List ℕ) (server : ServerKey) (target : List ℕ)
    → next_generation (change_done (begin_rows t now secret server target) t) ≡ next_generation t + 1
begin_raises t now secret server target =
    let generation = codes "generation" in
    let token = codes "token" in
    let row : Next = record { name = generation; next = next_generation t + 1 } in
    let after : Next = record { name = token; next = next_token t + 1 } in
    let nexts = insert t.nexts generation row in
    ap number_of (get-insert nat_list_cmp_total nexts token after generation
    ∙ get-insert nat_list_cmp_total t.nexts generation row generation
    ∙ ap (λ o. cond (is_eq o) (Some row) (get t.nexts generation)) (tied_itself nat_list_cmp_total generation))

next_begun : (t : State) (now : ℕ) (secret : List ℕ) (server : ServerKey) (target : List ℕ)
    → next_token (change_done (begin_rows t now secret server target) t) ≡ next_token t + 1
next_begun t now secret server target =
    let generation = codes "generation" in
    let token = codes "token" in
    let before : Next = record { name = generation; next = next_generation t + 1 } in
    let row : Next = record { name = token; next = next_token t + 1 } in
    let nexts = insert t.nexts generation before in
    ap number_of (get-insert nat_list_cmp_total nexts token row token
    ∙ ap (λ o. cond (is_eq o) (Some row) (get nexts token)) (tied_itself nat_list_cmp_total token))

-- and no share code
code_begun : (t : State) (now : ℕ) (secret : List ℕ) (server : ServerKey) (target : List ℕ) → next_code (change_done (begin_rows t now secret server target) t) ≡ next_code t
code_begun t now secret server target =
    let generation = codes "generation" in
    let token = codes "token" in
    let code = codes "code" in
    let before : Next = record { name = generation; next = next_generation t + 1 } in
    let row : Next = record { name = token; next = next_token t + 1 } in
    let nexts = insert t.nexts generation before in
    ap number_of (get-insert nat_list_cmp_total nexts token row code ∙ get-insert nat_list_cmp_total t.nexts generation before code)

abbrev puts_token : RowChange → Bool
puts_token (Put (Row.Token k)) = true
puts_token (Put (Row.ShareCode c)) = true
puts_token _ = false

-- rows that put no token and no share code number none
without_token : (t t' : State) (r : RowChange) → puts_token r ≡ false → IsNumbered t t' r
without_token t t' (Put (Row.Token k)) h = absurd (true_false h)
without_token t t' (Put (Row.ShareCode c)) h = absurd (true_false h)
without_token t t' _ h = tt

without_tokens : (t t' : State) (rows : List RowChange) → list_any puts_token rows ≡ false → All (IsNumbered t t') rows
without_tokens t t' [] h = All-nil (IsNumbered t t')
without_tokens t t' (r ∷ rows) h =
    let parts = either (puts_token r) (list_any puts_token rows) h in
    All-cons (IsNumbered t t') r rows (without_token t t' r parts.0) (without_tokens t t' rows parts.1)

abbrev rest_of : List RowChange → List RowChange
rest_of [] = []
rest_of (r ∷ rows) = rows

begin_numbers : (t : State) (now : ℕ) (secret : List ℕ) (server : ServerKey) (target : List ℕ) → NumbersTokens (begin_rows t now secret server target) t
begin_numbers t now secret server target =
    let rows = begin_rows t now secret server target in
    let t' = change_done rows t in
    let next : next_token t' ≡ next_token t + 1 = next_begun t now secret server target in
    let more : next_token t < next_token t' = omega (arith, next) in
    let same : next_token t ≤ next_token t = omega arith in
    let stays : next_code t' ≡ next_code t = code_begun t now secret server target in
    record {
      each = All-cons (IsNumbered t t') (Put (Row.Token (server_token t now secret server))) (rest_of rows) (same, more) (without_tokens t t' (rest_of rows) refl);
      rises = omega (arith, next);
      codes_rise = omega (arith, stays);
    }

-- ---- a start

pub unheld : {X : Type 0} (o : Option X) → is_some o ≡ false → o ≡ None
unheld None h = refl
unheld (Some k) h = absurd (true_false h)

start_owes : Start ≡ Nothing → ⊥
start_owes e = cc

started : (s : Hub) (now : ℕ) (secret : List ℕ) (server : ServerKey) (target : Option (List ℕ)) → AreNumbered s.tables → next_generation s.tables < 2 ^ 63 → lease_of s.lives server ≡ None
    → free_target s.pool s.lives ≡ target → token_of_hash s.tables (hash_text secret) ≡ None → Lively s (on_target s now secret server target)
started s now secret server None numbered small rest free new = tt
started s now secret server (Some target) numbered small rest free new = (
  (
    (
      target,
      record {
        puts = begin_fits s.tables now secret server target numbered new;
        generation = refl;
        rests = rest;
        free = free;
        leased = refl;
        raised = begin_raises s.tables now secret server target;
      },
    ),
    begin_numbers s.tables now secret server target,
  ),
  record { small = small; owes = start_owes; secret = λ e. refl },
)

-- past the rules of a start no kept token has its hash
past_rules : (s : Hub) (a b c d : Bool) (w x y z : Refusal) (r : Answer) → (b ≡ false → Lively s r)
    → Lively s (or_refusal r (first_refusal (if_so a w ∷ if_so b x ∷ if_so c y ∷ if_so d z ∷ [])))
past_rules s true b c d w x y z r h = tt
past_rules s false true c d w x y z r h = tt
past_rules s false false true d w x y z r h = tt
past_rules s false false false true w x y z r h = tt
past_rules s false false false false w x y z r h = h refl

may_start_lively : (s : Hub) (now : ℕ) (secret : List ℕ) (server : ServerKey) → AreNumbered s.tables → next_generation s.tables < 2 ^ 63 → lease_of s.lives server ≡ None
    → Lively s (may_start s now secret server)
may_start_lively s now secret server numbered small rest =
    past_rules s _ _ _ _ _ _ _ _ (on_target s now secret server (free_target s.pool s.lives))
    (λ new. started s now secret server (free_target s.pool s.lives) numbered small rest refl (unheld (token_of_hash s.tables (hash_text secret)) new))

begun : (s : Hub) (step : LifeStep) (r : Answer) → ((next : Life × Todo) → step ≡ Ok next → Lively s r) → Lively s (on_begin step r)
begun s (Ok next) r h = h next refl
begun s (Err Running) r h = tt
begun s (Err PendingSpawn) r h = tt
begun s (Err PendingStop) r h = tt
begun s (Err (OldGeneration g)) r h = tt
begun s (Err NotNow) r h = tt

pub start_lively : (s : Hub) (now : ℕ) (draw : Option (List ℕ)) (server : ServerKey) → AreLeased s → AreNumbered s.tables → next_generation s.tables < 2 ^ 63
    → Lively s (post_server s now draw server)
start_lively s now None server leased numbered small = tt
start_lively s now (Some draw) server leased numbered small =
    begun s (life_after (life_of s.lives server) (next_generation s.tables) Begin) (may_start s now (draw_text draw) server)
    (λ next e. may_start_lively s now (draw_text draw) server numbered small (rests s server (next_generation s.tables) next leased e))

-- ---- a stop

stop_fits : (s : Hub) (g : ℕ) (l : Leased) (next : Life × Todo) → get s.lives g ≡ Some l → life_after l.life g AskStop ≡ Ok next → FitsStop s g AskStop
stop_fits s g l next at e = record { asks = refl; may = ap is_ok (ap (λ o. step_of o g AskStop) at ∙ e) }

-- a stop owes no start
asks_none : (phase : Phase) (asked : Bool) (g : ℕ) (next : Life × Todo) → life_after (record { phase = phase; stop_asked = asked }) g AskStop ≡ Ok next → next.1 ≡ Start → ⊥
asks_none Stopped asked g next h e = cc
asks_none (Adopting x) true g next h e = cc
asks_none (Adopting x) false g next h e = cc
asks_none (Spawning x) true g next h e = cc
asks_none (Spawning x) false g next h e = cc
asks_none (Routing x) true g next h e = cc
asks_none (Routing x) false g next h e = cc
asks_none (Ready x) asked g next h e = cc
asks_none (Unrouting x) asked g next h e = cc
asks_none (Stopping x) asked g next h e = cc
asks_none (Parked x at) asked g next h e = cc

route_owes : AddRoute ≡ Nothing → ⊥
route_owes e = cc

deletion_owes : DeleteRoute ≡ Nothing → ⊥
deletion_owes e = cc

stop_owes : StopProgram ≡ Nothing → ⊥
stop_owes e = cc

poll_owes : Poll ≡ Nothing → ⊥
poll_owes e = cc

going_on : (s : Hub) (server : ServerKey) (g : ℕ) (l : Leased) (todo : Todo) → g < 2 ^ 63 → (todo ≡ Start → ⊥) → FitsStop s g AskStop → Lively s (goes_on server g l todo)
going_on s server g l Nothing small none h = h
going_on s server g l Start small none h = absurd (none refl)
going_on s server g l AddRoute small none h = (h, record { small = small; owes = route_owes; secret = λ e. absurd (none e) })
going_on s server g l DeleteRoute small none h = (h, record { small = small; owes = deletion_owes; secret = λ e. absurd (none e) })
going_on s server g l StopProgram small none h = (h, record { small = small; owes = stop_owes; secret = λ e. absurd (none e) })
going_on s server g l Poll small none h = (h, record { small = small; owes = poll_owes; secret = λ e. absurd (none e) })

stopped : (s : Hub) (server : ServerKey) (g : ℕ) (l : Leased) (step : LifeStep) → g < 2 ^ 63 → get s.lives g ≡ Some l → life_after l.life g AskStop ≡ step → Lively s (on_stop server g l step)
stopped s server g l (Err e) small at h = tt
stopped s server g l (Ok next) small at h = going_on s server g l next.1 small (asks_none l.life.phase l.life.stop_asked g next h) (stop_fits s g l next at h)

resting_lively : (s : Hub) (server : ServerKey) (remove : Bool) → Lively s (at_rest s server remove)
resting_lively s server true = lively_by_rules s (servers.delete_server s.tables server) done
resting_lively s server false = tt

pub stop_lively : (s : Hub) (server : ServerKey) (remove : Bool) (held : Option (ℕ × Leased)) → AreLeased s → next_generation s.tables < 2 ^ 63 → lease_of s.lives server ≡ held
    → Lively s (on_lease s server remove held)
stop_lively s server remove None leased small e = resting_lively s server remove
stop_lively s server remove (Some x) leased small e =
    let at = found_in (λ (y : ℕ × Leased). same_server y.1.server server) s.lives x e in
    let below : x.0 < next_generation s.tables = leased.apart.below x.0 x.1 at.0 in
    stopped s server x.0 x.1 (life_after x.1.life x.0 AskStop) (omega (arith, below, small)) at.0 refl
