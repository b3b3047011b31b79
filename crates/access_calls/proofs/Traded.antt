-- What a trade gives: a token of the number and the text that were given, of which no kept token has the hash.
use Rattle.std.proofs.Common.{◌≡◌, ℕ, Bool, true, false, cond, List, Option, refl, ap, sym, ◌∙◌, subst}
use Rattle.std.specs.Prelude.{Some, None, Result, Ok, Err}
use Rattle.std.specs.Option.{option_or}
use Rattle.hub_kit.specs.Hashes.{hash_text}
use Rattle.hub_rows.specs.declared.records.OAuthCode.{OAuthCode}
use Rattle.hub_rows.specs.declared.records.Token.{Token}
use Rattle.hub_tables.specs.Ends.{is_over}
use Rattle.hub_tables.specs.State.{State}
use Rattle.oauth_flow.specs.Asks.{by_rule, if_so}
use Rattle.oauth_flow.specs.Trades.{refused, code_named, is_asked, is_hash_kept, by_use, on_code, trade, traded_token}
use Rattle.oauth_flow.specs.declared.asks.OAuthError.{OAuthError}
use Rattle.oauth_flow.specs.declared.asks.OAuthError.TheVariants.{InvalidGrant, HashKept}
use Rattle.oauth_flow.specs.declared.asks.TradeAsk.{TradeAsk}

abbrev Told : Type 0
Told = Result (OAuthCode × Token) OAuthError

pub record IsNewToken (t : State) (text : List ℕ) (id : ℕ) (token : Token) : Type 0 where
  pub numbered : token.id ≡ id
  pub hashed : token.hash ≡ hash_text text
  pub new : is_hash_kept t (hash_text text) ≡ false

same_ok : (x y : OAuthCode × Token) → (let a : Told = Ok x in let b : Told = Ok y in a ≡ b) → x ≡ y
same_ok x y e = cc

not_ok : (x : OAuthCode × Token) (r : OAuthError) → (let a : Told = Err r in let b : Told = Ok x in a ≡ b) → ⊥
not_ok x r e = cc

past_rule : (rule : Option OAuthError) (rest : Told) (x : OAuthCode × Token) → by_rule rule rest ≡ Ok x → rest ≡ Ok x
past_rule None rest x e = e
past_rule (Some r) rest x e = absurd (not_ok x r e)

module _ (t : State) (ask : TradeAsk) (text : List ℕ) (id now : ℕ) (x : OAuthCode × Token) where
  of_unused : (code : OAuthCode) (over kept : Bool) → is_hash_kept t (hash_text text) ≡ kept
      → by_rule (option_or (if_so over (InvalidGrant None)) (if_so kept HashKept)) (Ok (record code { token = Some id }, traded_token code (hash_text text) id now)) ≡ Ok x
      → IsNewToken t text id x.1
  of_unused code true kept k e = absurd (not_ok x (InvalidGrant None) e)
  of_unused code false true k e = absurd (not_ok x HashKept e)
  of_unused code false false k e =
      let same : (record code { token = Some id }, traded_token code (hash_text text) id now) ≡ x = same_ok _ x e in
      subst (λ (y : OAuthCode × Token). IsNewToken t text id y.1) same (record { numbered = refl; hashed = refl; new = k })

  of_use : (code : OAuthCode) (used : Option ℕ) → by_use t code text id now used ≡ Ok x → IsNewToken t text id x.1
  of_use code None e = of_unused code (is_over now (Some code.expires_at)) (is_hash_kept t (hash_text text)) refl e
  of_use code (Some token) e = absurd (not_ok x _ e)

  of_asked : (code : OAuthCode) (asked : Bool) → cond asked (by_use t code text id now code.token) (Err (InvalidGrant None)) ≡ Ok x → IsNewToken t text id x.1
  of_asked code true e = of_use code code.token e
  of_asked code false e = absurd (not_ok x (InvalidGrant None) e)

  of_code : (code : Option OAuthCode) → on_code t ask text id now code ≡ Ok x → IsNewToken t text id x.1
  of_code None e = absurd (not_ok x (InvalidGrant None) e)
  of_code (Some code) e = of_asked code (is_asked ask code) e

  pub is_new : trade t ask text id now ≡ Ok x → IsNewToken t text id x.1
  is_new e = of_code (code_named t ask.code) (past_rule (refused t ask) (on_code t ask text id now (code_named t ask.code)) x e)
