-- Which trades tell a token to revoke.
use Rattle.std.proofs.Common.{◌≡◌, ℕ, Bool, true, false, cond, not, ◌&&◌, List, refl, sym, ap, ◌∙◌}
use Rattle.std.specs.Prelude.{Option, Some, None, Result, Ok, Err, is_some, is_none, codes}
use Rattle.std.specs.Option.{option_or}
use Rattle.std.specs.FinMap.{contains_key}
use Rattle.hub_kit.specs.Hashes.{hash_text}
use Rattle.hub_rows.specs.declared.records.OAuthCode.{OAuthCode}
use Rattle.hub_rows.specs.declared.records.Token.{Token}
use Rattle.hub_tables.specs.Ends.{is_over}
use Rattle.hub_tables.specs.State.{State}
use Rattle.oauth_flow.specs.Asks.{is_text, if_so, by_rule}
use Rattle.oauth_flow.specs.Clients.{client_named}
use Rattle.oauth_flow.specs.Trades.{refused, is_whole, has_secret, code_named, is_asked, is_hash_kept, if_kept, unused, by_use, on_code, trade, Revokes, traded_token}
use Rattle.oauth_flow.specs.declared.asks.OAuthError.{OAuthError}
use Rattle.oauth_flow.specs.declared.asks.OAuthError.TheVariants.{InvalidRequest, InvalidClient, InvalidGrant, UnsupportedGrantType, HashKept}
use Rattle.oauth_flow.specs.declared.asks.TradeAsk.{TradeAsk}

abbrev Traded : Type 0
Traded = Result (OAuthCode × Token) OAuthError

abbrev refusing : Option ℕ → Traded
refusing revoke = Err (InvalidGrant revoke)

abbrev revoking : ℕ → Traded
revoking token = refusing (Some token)

false_true : false ≡ true → ⊥
false_true h = cc

abbrev tells : Traded → Bool
tells (Err (InvalidGrant (Some token))) = true
tells _ = false

abbrev told_or : ℕ → Traded → ℕ
told_or token (Err (InvalidGrant (Some told))) = told
told_or token _ = token

-- no rule before the code tells a token
past_rules : (a b c d : Bool) (token : ℕ) (rest : Traded) → by_rule (option_or (if_so a InvalidRequest) (option_or (if_so b UnsupportedGrantType) (option_or (if_so c InvalidRequest) (if_so d InvalidClient)))) rest ≡ revoking token
    → (option_or (if_so a InvalidRequest) (option_or (if_so b UnsupportedGrantType) (option_or (if_so c InvalidRequest) (if_so d InvalidClient))) ≡ None) × (rest ≡ revoking token)
past_rules true b c d token rest h = absurd (false_true (ap tells h))
past_rules false true c d token rest h = absurd (false_true (ap tells h))
past_rules false false true d token rest h = absurd (false_true (ap tells h))
past_rules false false false true token rest h = absurd (false_true (ap tells h))
past_rules false false false false token rest h = (refl, h)

-- nor does a code that wasn't used
unused_tells : (a b : Bool) (token : ℕ) (given : OAuthCode × Token) → by_rule (option_or (if_so a (InvalidGrant None)) (if_so b HashKept)) (Ok given) ≡ revoking token → ⊥
unused_tells true b token given h = false_true (ap tells h)
unused_tells false true token given h = false_true (ap tells h)
unused_tells false false token given h = false_true (ap tells h)

module _ (t : State) (ask : TradeAsk) (text : List ℕ) (id now token : ℕ) where
  is_kept : (used : ℕ) (b : Bool) → contains_key t.tokens used ≡ b → refusing (cond b (Some used) None) ≡ revoking token → (used ≡ token) × (contains_key t.tokens used ≡ true)
  is_kept used true e h = (ap (told_or token) h, e)
  is_kept used false e h = absurd (false_true (ap tells h))

  of_use : (code : OAuthCode) (used : Option ℕ) → by_use t code text id now used ≡ revoking token → (used ≡ Some token) × (contains_key t.tokens token ≡ true)
  of_use code None h = absurd (unused_tells (is_over now (Some code.expires_at)) (is_hash_kept t (hash_text text)) token (record code { token = Some id }, traded_token code (hash_text text) id now) h)
  of_use code (Some used) h =
      let k = is_kept used (contains_key t.tokens used) refl h in
      (ap Some k.0, sym (ap (contains_key t.tokens) k.0) ∙ k.1)

  record OfCode (found : Option OAuthCode) : Type 0 where
    code : OAuthCode
    kept : found ≡ Some code
    asked : is_asked ask code ≡ true
    used : code.token ≡ Some token
    there : contains_key t.tokens token ≡ true

  of_asked : (code : OAuthCode) (b : Bool) → is_asked ask code ≡ b → cond b (by_use t code text id now code.token) (refusing None) ≡ revoking token → OfCode (Some code)
  of_asked code true e h =
      let k = of_use code code.token h in
      record { code = code; kept = refl; asked = e; used = k.0; there = k.1 }
  of_asked code false e h = absurd (false_true (ap tells h))

  of_code : (found : Option OAuthCode) → on_code t ask text id now found ≡ revoking token → OfCode found
  of_code None h = absurd (false_true (ap tells h))
  of_code (Some code) h = of_asked code (is_asked ask code) refl h

  pub to_revoke : trade t ask text id now ≡ revoking token → Revokes t ask token
  to_revoke h =
      let past = past_rules (is_none ask.grant_type) (not (is_text (codes "authorization_code") ask.grant_type)) (not (is_whole ask)) (not (has_secret ask.client_secret (client_named t ask.client_id))) token (on_code t ask text id now (code_named t ask.code)) h in
      let found = of_code (code_named t ask.code) past.1 in
      record { code = found.code; allowed = past.0; kept = found.kept; asked = found.asked; used = found.used; there = found.there }

  pub revoked : Revokes t ask token → trade t ask text id now ≡ revoking token
  revoked r =
      ap (λ rule. by_rule rule (on_code t ask text id now (code_named t ask.code))) r.allowed
      ∙ ap (on_code t ask text id now) r.kept
      ∙ ap (λ b. cond b (by_use t r.code text id now r.code.token) (refusing None)) r.asked
      ∙ ap (by_use t r.code text id now) r.used
      ∙ ap (λ b. refusing (cond b (Some token) None)) r.there
