-- The calls on tokens: none is answered by a 503, once there is a draw for one that draws.
use Rattle.std.proofs.Common.{◌≡◌, ℕ, false, [], ◌∷◌, ◌++◌, List, Option, refl}
use Rattle.std.specs.Prelude.{Some, None, IsSome, codes, option_map}
use Rattle.hub_kit.specs.Hashes.{draw_text, hash_text}
use Rattle.scope_filters.specs.declared.holder.Owner.TheVariants as Own
use Rattle.scope_meet.specs.declared.inside.Inside.{Inside}
use Rattle.scope_meet.specs.declared.inside.Inside.TheVariants as In
use Rattle.hub_tables.specs.State.{State}
use Rattle.token_store.specs.Finding.{expired_tokens}
use Rattle.token_store.specs.Issuing.{is_hash_kept, unknown_text}
use Rattle.token_store.specs.declared.issuing.TokenAsk.{TokenAsk}
use Rattle.hub_machine.specs.State.{Hub}
use Rattle.hub_machine.specs.Replies.{Answer, rules, if_so}
use Rattle.hub_machine.specs.declared.refusal.Refusal.{Refusal}
use Rattle.hub_machine.specs.declared.refusal.Refusal.TheVariants.{Exists, Full, Rule}
use Rattle.access_calls.specs.TokenCalls as calls
use Rattle.hub_machine.proofs.Statuses.{is_503, no_rule}

no_unknown : (scope : Option (List ℕ)) (rest : List (Option Refusal)) (r : Answer) → is_503 (rules rest r) ≡ false
    → is_503 (rules (option_map (λ text. Rule (codes "unknown scope " ++ text)) scope ∷ rest) r) ≡ false
no_unknown None rest r h = h
no_unknown (Some scope) rest r h = refl

no_outside : (inside : Inside) (rest : List (Option Refusal)) (r : Answer) → is_503 (rules rest r) ≡ false → is_503 (rules (calls.if_not_held inside ∷ rest) r) ≡ false
no_outside In.Yes rest r h = h
no_outside (In.NotHeld action filter) rest r h = refl

issue_with : (s : Hub) (now : ℕ) (text : List ℕ) (inside : Inside) (ask : TokenAsk) (over : List ℕ) → is_503 (calls.issue_with s now text inside ask over) ≡ false
issue_with s now text inside ask over =
    let t : State = s.tables in
    let r : Answer = calls.made (calls.new_token t now text ask) over text in
    let room : List (Option Refusal) = if_so (calls.is_without_room t over) (Full 5 t.limits.tokens) ∷ [] in
    let hash : List (Option Refusal) = if_so (is_hash_kept t (hash_text text)) (Exists (codes "token")) ∷ room in
    no_unknown (unknown_text t ask.scopes) (calls.if_not_held inside ∷ hash) r
    (no_outside inside hash r
    (no_rule (is_hash_kept t (hash_text text)) (Exists (codes "token")) room r refl
    (no_rule (calls.is_without_room t over) (Full 5 t.limits.tokens) [] r refl refl)))

pub post_token : (s : Hub) (now : ℕ) (draw : Option (List ℕ)) (inside : Inside) (ask : TokenAsk) → IsSome draw → is_503 (calls.post_token s now draw inside ask) ≡ false
post_token s now None inside ask h = cc h
post_token s now (Some draw) inside ask h = issue_with s now (draw_text draw) inside ask (expired_tokens s.tables now (Own.User ask.owner))
