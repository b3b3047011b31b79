-- Where the same is seen of a user's tokens in two states, their bodies are the same.
use Rattle.std.proofs.Common.{◌≡◌, ℕ, Bool, true, false, cond, List, [], ◌∷◌, ◌++◌, map, codes, Option, Some, None, refl, sym, ap, ◌∙◌}
use Rattle.std.specs.List.{filter, filter_map}
use Rattle.std.specs.Option.{option_map}
use Rattle.std.specs.Cmp.{nat_cmp_total}
use Rattle.std.specs.Cmp.Lexicographic.{bytes_decides}
use Rattle.std.specs.FinMap.{get, values, nat_cmp-IsAntisymmetric}
use Rattle.scope_filters.specs.declared.holder.Owner.{Owner}
use Rattle.scope_filters.specs.declared.holder.Owner.TheVariants as Own
use Rattle.hub_rows.specs.declared.records.Token.{Token}
use Rattle.hub_tables.specs.Lookups.{same_owner, tokens_of}
use Rattle.hub_tables.specs.Own.{AreOwn}
use Rattle.hub_tables.proofs.RowsAt.{own_tokens}
use Rattle.hub_view.specs.Json.{Json, Member, line, pairs}
use Rattle.hub_view.specs.Records.{token_members, token_body, user_of}
use Rattle.hub_machine.specs.State.{Hub}
use Rattle.access_calls.specs.TokenCalls.{body_of_token, token_at}
use Rattle.hub_core.specs.Needs.{is_token_of, has_token}
use Rattle.isolation.specs.Sight.{TokenSeen, seen_token, token_seen}
use Rattle.isolation.proofs.Picked.{shown, same_shown, where_so, map_filter, map_twice}

-- ---- one token

-- all of a user's token that is seen
abbrev as_seen : List ℕ → ℕ → TokenSeen → Token
as_seen u id v = record {
  id = id;
  client = v.client;
  created = v.created;
  expires_at = v.expires_at;
  hash = [];
  issued_for = None;
  note = v.note;
  owner = Own.User u;
  scopes = v.scopes;
}

abbrev seen_of : Token → TokenSeen
seen_of x = record { client = x.client; created = x.created; expires_at = x.expires_at; note = x.note; scopes = x.scopes }

without_hash : (x : Token) → token_members x ≡ token_members (record x { hash = []; issued_for = None })
unfolding token_members
without_hash x = refl

body_seen : (u : List ℕ) (id : ℕ) (x : Token) → x.id ≡ id → x.owner ≡ Own.User u → token_body x ≡ token_body (as_seen u id (seen_of x))
body_seen u id x numbered owned =
    ap (λ (ms : List Member). pairs (ms ++ (codes "user", user_of x.owner) ∷ [])) (without_hash x)
    ∙ (λ i. token_body (record x { id = numbered i; hash = []; issued_for = None; owner = owned i }))

of_user : (u : List ℕ) (w : Owner) → same_owner w (Own.User u) ≡ true → w ≡ Own.User u
of_user u (Own.User v) e = ap Own.User ((bytes_decides v u).0 e)
of_user u (Own.Service v) e = absurd (cc)

abbrev body_at : List ℕ → ℕ → Option TokenSeen → Option Json
body_at u id v = option_map (λ x. token_body (as_seen u id x)) v

found_as : (u : List ℕ) (id : ℕ) (a : Option Token) → ((x : Token) → a ≡ Some x → x.id ≡ id)
    → cond (is_token_of u a) (Some (body_of_token a)) None ≡ body_at u id (seen_token u a)
found_as u id None own = refl
found_as u id (Some x) own =
    elim (same_owner x.owner (Own.User u)) as (λ b. same_owner x.owner (Own.User u) ≡ b → cond b (Some (token_body x)) None ≡ body_at u id (cond b (Some (seen_of x)) None)) [
      | true ↦ λ e. ap Some (body_seen u id x (own x refl) (of_user u x.owner e))
      | false ↦ λ e. refl
    ] refl

-- ---- all tokens of a user

abbrev listed : Hub → List ℕ → Token → Option Json
listed s u = where_so (λ (x : Token). same_owner x.owner (Own.User u)) (λ (x : Token). token_at s x.id)

bodies_listed : (s : Hub) (u : List ℕ) → map (token_at s) (tokens_of s.tables (Own.User u)) ≡ filter_map (listed s u) (values s.tables.tokens)
bodies_listed s u =
    map_twice (token_at s) (λ (x : Token). x.id) (filter (λ (x : Token). same_owner x.owner (Own.User u)) (values s.tables.tokens))
    ∙ map_filter (λ (x : Token). same_owner x.owner (Own.User u)) (λ (x : Token). token_at s x.id) (values s.tables.tokens)

listed_as : (s : Hub) → AreOwn s.tables → (u : List ℕ) (q : ℕ) (a : Option Token) → get s.tables.tokens q ≡ a → shown (listed s u) a ≡ body_at u q (seen_token u a)
listed_as s own u q None at = refl
listed_as s own u q (Some x) at =
    ap (λ (o : Option Token). cond (same_owner x.owner (Own.User u)) (Some (body_of_token o)) None) (ap (get s.tables.tokens) (own_tokens s.tables own q x at) ∙ at)
    ∙ found_as u q (Some x) (λ y e. own_tokens s.tables own q y (at ∙ e))

-- ---- in two states

module _ (s t : Hub) (own : AreOwn s.tables) (own' : AreOwn t.tables) (u : List ℕ) where
  pub same_token : (id : ℕ) → token_seen s u id ≡ token_seen t u id
      → cond (has_token s.tables u id) (Some (token_at s id)) None ≡ cond (has_token t.tables u id) (Some (token_at t id)) None
  same_token id seen =
      found_as u id (get s.tables.tokens id) (own_tokens s.tables own id)
      ∙ ap (body_at u id) seen
      ∙ sym (found_as u id (get t.tables.tokens id) (own_tokens t.tables own' id))

  pub same_tokens : ((id : ℕ) → token_seen s u id ≡ token_seen t u id) → map (token_at s) (tokens_of s.tables (Own.User u)) ≡ map (token_at t) (tokens_of t.tables (Own.User u))
  same_tokens each =
      bodies_listed s u
      ∙ same_shown nat_cmp_total nat_cmp-IsAntisymmetric (listed s u) (listed t u) s.tables.tokens t.tables.tokens (λ q.
      listed_as s own u q (get s.tables.tokens q) refl ∙ ap (body_at u q) (each q) ∙ sym (listed_as t own' u q (get t.tables.tokens q) refl))
      ∙ sym (bodies_listed t u)
