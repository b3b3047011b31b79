-- Where the same is seen of shares and share codes in two states, their bodies are the same.
use Rattle.std.proofs.Common.{◌≡◌, ℕ, Bool, true, false, cond, List, [], map, Option, Some, None, refl, sym, ap, ◌∙◌}
use Rattle.std.specs.List.{filter, filter_map}
use Rattle.std.specs.Option.{option_map}
use Rattle.std.specs.Cmp.{nat_cmp_total}
use Rattle.std.specs.FinMap.{get, values, nat_cmp-IsAntisymmetric}
use Rattle.keyed_rows.specs.Rows.{OwnKeys}
use Rattle.hub_rows.specs.ShareOrder.{share_exact}
use Rattle.hub_rows.specs.contracts.keys.ShareKeyOrd.TheImpl.Laws as share_key
use Rattle.hub_rows.specs.declared.keys.ShareKey.{ShareKey}
use Rattle.hub_rows.specs.declared.records.Share.{Share}
use Rattle.hub_rows.specs.declared.records.ShareCode.{ShareCode}
use Rattle.hub_rows.specs.declared.rows.Row.TheVariants as Row
use Rattle.hub_rows.specs.declared.rows.RowKey.TheVariants as RowKey
use Rattle.hub_tables.specs.Own.{AreOwn}
use Rattle.hub_tables.specs.State.{State}
use Rattle.hub_tables.proofs.RowsAt.{own_kind, own_shares}
use Rattle.shares.specs.Lists.{is_share_of, shares_of, is_code_of, codes_of}
use Rattle.shares.specs.declared.lists.CodesOf.{CodesOf}
use Rattle.shares.specs.declared.lists.SharesOf.{SharesOf}
use Rattle.hub_view.specs.Json.{Json}
use Rattle.hub_view.specs.Records.{share_body, code_body}
use Rattle.hub_machine.specs.State.{Hub}
use Rattle.access_calls.specs.ShareCalls.{body_of_share, share_at}
use Rattle.access_calls.specs.CodeCalls.{body_of_code, code_at}
use Rattle.isolation.specs.Sight.{CodeSeen, seen_code, code_seen}
use Rattle.isolation.proofs.Picked.{shown, same_shown, where_so, map_filter, map_twice}

-- ---- shares

module _ (whose : SharesOf) where
  abbrev listed : Hub → Share → Option Json
  listed s = where_so (λ (x : Share). is_share_of whose x.key) (λ (x : Share). share_at s x.key)

  bodies_listed : (s : Hub) → map (share_at s) (shares_of s.tables whose) ≡ filter_map (listed s) (values s.tables.shares)
  bodies_listed s =
      map_twice (share_at s) (λ (x : Share). x.key) (filter (λ (x : Share). is_share_of whose x.key) (values s.tables.shares))
      ∙ map_filter (λ (x : Share). is_share_of whose x.key) (λ (x : Share). share_at s x.key) (values s.tables.shares)

  abbrev body_at : ShareKey → Option Share → Option Json
  body_at q a = cond (is_share_of whose q) (option_map share_body a) None

  listed_as : (s : Hub) → AreOwn s.tables → (q : ShareKey) (a : Option Share) → get s.tables.shares q ≡ a → shown (listed s) a ≡ body_at q a
  listed_as s own q None at = elim (is_share_of whose q) as (λ b. shown (listed s) None ≡ cond b None None) [ true ↦ refl | false ↦ refl ]
  listed_as s own q (Some x) at =
      let own_key : x.key ≡ q = own_shares s.tables own q x at in
      ap (λ (o : Option Share). cond (is_share_of whose x.key) (Some (body_of_share o)) None) (ap (get s.tables.shares) own_key ∙ at)
      ∙ ap (λ (key : ShareKey). cond (is_share_of whose key) (Some (share_body x)) None) own_key

  pub same_shares : (s t : Hub) → AreOwn s.tables → AreOwn t.tables
      → ((key : ShareKey) → is_share_of whose key ≡ true → get s.tables.shares key ≡ get t.tables.shares key)
      → map (share_at s) (shares_of s.tables whose) ≡ map (share_at t) (shares_of t.tables whose)
  same_shares s t own own' each =
      bodies_listed s
      ∙ same_shown share_key.total-law share_exact (listed s) (listed t) s.tables.shares t.tables.shares (λ q.
      listed_as s own q (get s.tables.shares q) refl
      ∙ elim (is_share_of whose q) as (λ b. is_share_of whose q ≡ b → cond b (option_map share_body (get s.tables.shares q)) None
      ≡ cond b (option_map share_body (get t.tables.shares q)) None) [
        | true ↦ λ e. ap (option_map share_body) (each q e)
        | false ↦ λ e. refl
      ] refl
      ∙ sym (listed_as t own' q (get t.tables.shares q) refl))
      ∙ sym (bodies_listed t)

-- ---- share codes

own_codes : (t : State) → AreOwn t → OwnKeys (λ (c : ShareCode). c.id) t.codes
own_codes t own = own_kind t.codes t RowKey.ShareCode Row.ShareCode (λ c. c.id) (λ q. refl) (λ c. refl) (λ a b e. cc) own

-- all of a code that is seen
abbrev as_seen : ℕ → CodeSeen → ShareCode
as_seen id v = record {
  id = id;
  created = v.created;
  expires_at = v.expires_at;
  hash = [];
  scopes = v.scopes;
  server = v.server;
}

abbrev seen_of : ShareCode → CodeSeen
seen_of c = record { created = c.created; expires_at = c.expires_at; scopes = c.scopes; server = c.server }

module _ (whose : CodesOf) where
  abbrev offered : Hub → ShareCode → Option Json
  offered s = where_so (is_code_of whose) (λ (c : ShareCode). code_at s c.id)

  bodies_offered : (s : Hub) → map (code_at s) (codes_of s.tables whose) ≡ filter_map (offered s) (values s.tables.codes)
  bodies_offered s =
      map_twice (code_at s) (λ (c : ShareCode). c.id) (filter (is_code_of whose) (values s.tables.codes))
      ∙ map_filter (is_code_of whose) (λ (c : ShareCode). code_at s c.id) (values s.tables.codes)

  abbrev code_from : ℕ → Option CodeSeen → Option Json
  code_from id v = option_map (λ c. code_body (as_seen id c)) v

  offered_as : (s : Hub) → AreOwn s.tables → (q : ℕ) (a : Option ShareCode) → get s.tables.codes q ≡ a → shown (offered s) a ≡ code_from q (seen_code whose a)
  offered_as s own q None at = refl
  offered_as s own q (Some c) at =
      let own_id : c.id ≡ q = own_codes s.tables own q c at in
      ap (λ (o : Option ShareCode). cond (is_code_of whose c) (Some (body_of_code o)) None) (ap (get s.tables.codes) own_id ∙ at)
      ∙ elim (is_code_of whose c) as (λ b. cond b (Some (code_body c)) None ≡ code_from q (cond b (Some (seen_of c)) None)) [
        | true ↦ ap (λ id. Some (code_body (as_seen id (seen_of c)))) own_id
        | false ↦ refl
      ]

  pub same_codes : (s t : Hub) → AreOwn s.tables → AreOwn t.tables → ((id : ℕ) → code_seen s whose id ≡ code_seen t whose id)
      → map (code_at s) (codes_of s.tables whose) ≡ map (code_at t) (codes_of t.tables whose)
  same_codes s t own own' each =
      bodies_offered s
      ∙ same_shown nat_cmp_total nat_cmp-IsAntisymmetric (offered s) (offered t) s.tables.codes t.tables.codes (λ q.
      offered_as s own q (get s.tables.codes q) refl ∙ ap (code_from q) (each q) ∙ sym (offered_as t own' q (get t.tables.codes q) refl))
      ∙ sym (bodies_offered t)
