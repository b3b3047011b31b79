-- The calls on share codes: none is answered by a 503, once there is a draw for one that draws.
use Rattle.std.proofs.Common.{◌≡◌, ℕ, false, [], ◌∷◌, List, Option, refl}
use Rattle.std.specs.Prelude.{Some, None, IsSome, is_some, codes}
use Rattle.hub_kit.specs.Hashes.{draw_text}
use Rattle.hub_kit.specs.declared.names.ServerKey.{ServerKey}
use Rattle.scope_filters.specs.declared.scope.RawScope.{RawScope}
use Rattle.hub_rows.specs.declared.records.ShareCode.{ShareCode}
use Rattle.hub_tables.specs.Lookups.{code_of_hash, next_of}
use Rattle.shares.specs.Codes as shares
use Rattle.hub_machine.specs.State.{Hub}
use Rattle.hub_machine.specs.Replies.{good, if_so}
use Rattle.hub_machine.specs.declared.refusal.Refusal.{Refusal}
use Rattle.hub_machine.specs.declared.refusal.Refusal.TheVariants.{Exists, Full}
use Rattle.hub_machine.proofs.Statuses.{is_503, no_rows, no_rule}
use Rattle.access_calls.specs.CodeCalls as calls
use Rattle.access_calls.specs.ShareCalls as share_calls
use Rattle.access_calls.proofs.ShareCalls.{by_rules, put_share}

pub accept_code : (s : Hub) (now : ℕ) (user text : List ℕ) → is_503 (calls.accept_code s now user text) ≡ false
accept_code s now user text = by_rules (shares.accept_code s.tables user text now) (share_calls.put_share s) (put_share s)

put_code : (s : Hub) (over text : List ℕ) (code : ShareCode) → is_503 (calls.put_code s over text code) ≡ false
put_code s over text code =
    let full : List (Option Refusal) = if_so (calls.is_without_room s.tables over) (Full 9 s.tables.limits.codes) ∷ [] in
    no_rule (is_some (code_of_hash s.tables code.hash)) (Exists (codes "code")) full (calls.made code over text) refl
    (no_rule (calls.is_without_room s.tables over) (Full 9 s.tables.limits.codes) [] (calls.made code over text) refl refl)

pub post_code : (s : Hub) (now : ℕ) (draw : Option (List ℕ)) (server : ServerKey) (scopes : List RawScope) (life : ℕ) → IsSome draw → is_503 (calls.post_code s now draw server scopes life) ≡ false
post_code s now None server scopes life h = cc h
post_code s now (Some draw) server scopes life h =
    by_rules (shares.make_code server scopes life (draw_text draw) (next_of s.tables (codes "code")) now)
    (calls.put_code s (shares.expired_codes s.tables now server) (draw_text draw)) (put_code s (shares.expired_codes s.tables now server) (draw_text draw))

pub delete_codes : (s : Hub) (server : ServerKey) (id : Option ℕ) → is_503 (calls.delete_codes s server id) ≡ false
delete_codes s server id = no_rows (calls.removals (calls.named_codes s.tables server id)) (good 204 []) refl
