-- A token or a share code that is answered fits the state, and takes the next number.
use Rattle.std.proofs.Common.{◌≡◌, ◌≤◌, ◌<◌, ◌+◌, ℕ, Bool, true, false, not, cond, List, [], ◌∷◌, map, All, Option, refl, sym, ◌∙◌, ap, subst, codes, arith}
use Rattle.std.specs.Prelude.{Some, None, Result, Ok, Err, nat_lt}
use Rattle.std.specs.Option.{is_some}
use Rattle.std.specs.List.{list_any}
use Rattle.std.specs.Ordering.{is_eq, eq_by_cmp}
use Rattle.std.specs.Cmp.{tied_itself}
use Rattle.std.specs.Cmp.Lexicographic.{nat_list_cmp_total}
use Rattle.std.specs.FinMap.{get, insert, get-insert}
use Rattle.std.proofs.lemmas.List.Elements.{All-cons}
use Rattle.hub_kit.specs.Hashes.{draw_text, hash_text}
use Rattle.hub_kit.specs.KeyOrder.{name_cmp}
use Rattle.hub_kit.specs.declared.names.ServerKey.{ServerKey}
use Rattle.scope_filters.specs.declared.holder.Owner.TheVariants as Own
use Rattle.scope_filters.specs.declared.scope.RawScope.{RawScope}
use Rattle.scope_meet.specs.declared.inside.Inside.{Inside}
use Rattle.hub_rows.specs.RowKeys.{is_put}
use Rattle.hub_rows.specs.declared.changes.RowChange.{RowChange}
use Rattle.hub_rows.specs.declared.changes.RowChange.TheVariants.{Put, Remove}
use Rattle.hub_rows.specs.declared.records.Next.{Next}
use Rattle.hub_rows.specs.declared.records.OAuthCode.{OAuthCode}
use Rattle.hub_rows.specs.declared.records.ShareCode.{ShareCode}
use Rattle.hub_rows.specs.declared.records.Token.{Token}
use Rattle.hub_rows.specs.declared.rows.Row.{Row}
use Rattle.hub_rows.specs.declared.rows.Row.TheVariants as Row
use Rattle.hub_rows.specs.declared.rows.RowKey.TheVariants as RowKey
use Rattle.hub_tables.specs.Changes.{FitAll, puts_of, removals_of, rows_done, with_row}
use Rattle.hub_tables.specs.Hashes.{FitsCode}
use Rattle.hub_tables.specs.Lookups.{code_of_hash, next_of, number_of, token_of_hash}
use Rattle.hub_tables.specs.State.{State}
use Rattle.hub_tables.proofs.Fresh.{fits_fresh, token_fits}
use Rattle.oauth_flow.specs.Trades.{trade}
use Rattle.oauth_flow.specs.declared.asks.OAuthError.{OAuthError}
use Rattle.oauth_flow.specs.declared.asks.TradeAsk.{TradeAsk}
use Rattle.shares.specs.Allowed.{if_refused_scope, by_rules as share_rules, if_so as if_life}
use Rattle.shares.specs.Codes.{expired_codes, made_code, make_code}
use Rattle.shares.specs.declared.allowed.ShareError.{ShareError}
use Rattle.shares.specs.declared.allowed.ShareError.TheVariants.{LifeTooShort}
use Rattle.token_store.specs.Finding.{expired_tokens}
use Rattle.token_store.specs.Issuing.{is_hash_kept}
use Rattle.token_store.specs.declared.issuing.TokenAsk.{TokenAsk}
use Rattle.hub_view.specs.Fields.{Rights}
use Rattle.hub_machine.specs.Apply.{change_done, is_past_trail, rows_of}
use Rattle.hub_machine.specs.Carry.{FitsIn, touches_lives}
use Rattle.hub_machine.specs.Replies.{Answer, refuses, refuses_with, gives, changes, works, rows_then, or_refusal, first_refusal, if_so}
use Rattle.hub_machine.specs.State.{Hub}
use Rattle.hub_machine.specs.Trails.{in_trail}
use Rattle.hub_machine.specs.declared.call.Asked.{Asked}
use Rattle.hub_machine.specs.declared.call.Call.{Call}
use Rattle.hub_machine.specs.declared.call.Call.TheVariants.{PostCode, PostToken, PostTrade}
use Rattle.hub_machine.specs.declared.change.Change.{Change}
use Rattle.hub_machine.specs.declared.change.Change.TheVariants.{Rows}
use Rattle.hub_machine.specs.declared.refusal.Refusal.{Refusal}
use Rattle.hub_machine.specs.declared.refusal.Refusal.TheVariants.{Exists, Full, SeenPast, NotFound, TrailFull}
use Rattle.hub_opening.specs.Opening.{next_token}
use Rattle.access_calls.specs.CodeCalls as on_codes
use Rattle.access_calls.specs.CodeCalls.{code_rows}
use Rattle.access_calls.specs.GrantCalls as on_grants
use Rattle.access_calls.specs.ShareCalls as on_shares
use Rattle.access_calls.proofs.Traded.{IsNewToken, is_new}
use Rattle.access_calls.specs.TokenCalls.{if_not_held, if_unknown, is_without_room, issue, made, new_token, post_token, token_rows}
use Rattle.hub_calls.specs.UserCalls.{get_version}
use Rattle.hub_core.specs.Answer.{Judgement, action_rules, by_call, by_nobody, by_token, caller, if_no_client, if_there, is_past, named, row}
use Rattle.hub_core.specs.Current.{AreNumbered, next_code}
use Rattle.hub_core.specs.History.{Answers, change_of}
use Rattle.hub_core.specs.Needs.{is_there, needs, needs_token}
use Rattle.hub_core.proofs.Calm.{issues}
use Rattle.hub_core.proofs.Lively.{no_such, unheld}
use Rattle.hub_core.proofs.Numbered.{IsNumbered, NumbersTokens, are_numbered, code_removed, neither, nexts_same, none_filtered, numbers, numbers_tokens, token_removed}

-- the change fits, and each token and share code that it puts is new
abbrev pub Issued : Hub → Answer → Type 0
Issued s r = (c : Change) → change_of r ≡ Some c → FitsIn s c × NumbersTokens (rows_of c) s.tables

none_some : (c : Change) → None ≡ Some c → ⊥
none_some c h = cc

same_some : (c d : Change) → Some c ≡ Some d → c ≡ d
same_some c d h = cc

unchanged : (s : Hub) (r : Answer) → change_of r ≡ None → Issued s r
unchanged s r e c h = absurd (none_some c (sym e ∙ h))

-- ---- the rows of a new row with a number, and the removals of those that are over

module _ (t : State) (row : Row) (name : List ℕ) (id : ℕ) (removed : List RowChange) (plain : list_any numbers removed ≡ false) (keeps : (with_row row t).nexts ≡ t.nexts) where
  abbrev after : Next
  after = record { name = name; next = id + 1 }

  abbrev rows : List RowChange
  rows = Put row ∷ Put (Row.Next after) ∷ removed

  nexts_after : (change_done rows t).nexts ≡ insert t.nexts name after
  nexts_after =
      let put : State = with_row (Row.Next after) (with_row row t) in
      nexts_same (removals_of removed) (rows_done (puts_of rows) t) (none_filtered (λ r. not (is_put r)) numbers removed plain)
      ∙ nexts_same (puts_of removed) put (none_filtered is_put numbers removed plain)
      ∙ ap (λ nexts. insert nexts name after) keeps

  next_after : next_of (change_done rows t) name ≡ id + 1
  next_after =
      ap (λ nexts. number_of (get nexts name)) nexts_after
      ∙ ap number_of (get-insert nat_list_cmp_total t.nexts name after name
      ∙ ap (λ o. cond (is_eq o) (Some after) (get t.nexts name)) (tied_itself nat_list_cmp_total name))

  other_after : (other : List ℕ) → eq_by_cmp name_cmp other name ≡ false → next_of (change_done rows t) other ≡ next_of t other
  other_after other apart =
      ap (λ nexts. number_of (get nexts other)) nexts_after
      ∙ ap number_of (get-insert nat_list_cmp_total t.nexts name after other
      ∙ ap (λ b. cond b (Some after) (get t.nexts other)) apart)

-- ---- a new token

abbrev tokens_removed : List ℕ → List RowChange
tokens_removed over = map (λ id. Remove (RowKey.Token id)) over

tokens_fit : (over : List ℕ) (t : State) → FitAll (tokens_removed over) t
tokens_fit [] t = tt
tokens_fit (id ∷ over) t = tokens_fit over t

tokens_apart : (over : List ℕ) → list_any touches_lives (tokens_removed over) ≡ false
tokens_apart [] = refl
tokens_apart (id ∷ over) = tokens_apart over

tokens_plain : (over : List ℕ) → list_any numbers (tokens_removed over) ≡ false
tokens_plain [] = refl
tokens_plain (id ∷ over) = neither (numbers (Remove (RowKey.Token id))) (list_any numbers (tokens_removed over)) (token_removed id) (tokens_plain over)

token_numbers : (t : State) (token : Token) (over : List ℕ) → token.id ≡ next_token t → NumbersTokens (token_rows token over) t
token_numbers t token over is_next =
    let removed = tokens_removed over in
    let t' = change_done (token_rows token over) t in
    let next : next_token t' ≡ token.id + 1 = next_after t (Row.Token token) (codes "token") token.id removed (tokens_plain over) refl in
    let stays : next_code t' ≡ next_code t = other_after t (Row.Token token) (codes "token") token.id removed (tokens_plain over) refl (codes "code") refl in
    let low : next_token t ≤ token.id = omega (arith, is_next) in
    let high : token.id < next_token t' = omega (arith, next) in
    let following : RowChange = Put (Row.Next (record { name = codes "token"; next = token.id + 1 })) in
    record {
      each = All-cons (IsNumbered t t') (Put (Row.Token token)) (following ∷ removed) (low, high)
          (All-cons (IsNumbered t t') following removed tt (are_numbered t t' removed (tokens_plain over)));
      rises = omega (arith, next, is_next);
      codes_rise = omega (arith, stays);
    }

made_issued : (s : Hub) (now : ℕ) (text : List ℕ) (ask : TokenAsk) (over : List ℕ) → AreNumbered s.tables → token_of_hash s.tables (hash_text text) ≡ None
    → Issued s (made (new_token s.tables now text ask) over text)
made_issued s now text ask over numbered new c h =
    let t = s.tables in
    let token : Token = new_token t now text ask in
    let rows : List RowChange = token_rows token over in
    subst (λ (d : Change). FitsIn s d × NumbersTokens (rows_of d) t) (same_some (Rows rows) c h) (
      record { puts = (token_fits t.tokens token (no_such t numbered) new, (tt, tokens_fit over (with_row (Row.Next (record { name = codes "token"; next = token.id + 1 })) (with_row (Row.Token token) t)))); apart = tokens_apart over },
      token_numbers t token over refl,
    )

-- ---- a new share code

abbrev codes_removed : List ℕ → List RowChange
codes_removed over = map (λ id. Remove (RowKey.ShareCode id)) over

codes_fit : (over : List ℕ) (t : State) → FitAll (codes_removed over) t
codes_fit [] t = tt
codes_fit (id ∷ over) t = codes_fit over t

codes_apart : (over : List ℕ) → list_any touches_lives (codes_removed over) ≡ false
codes_apart [] = refl
codes_apart (id ∷ over) = codes_apart over

codes_plain : (over : List ℕ) → list_any numbers (codes_removed over) ≡ false
codes_plain [] = refl
codes_plain (id ∷ over) = neither (numbers (Remove (RowKey.ShareCode id))) (list_any numbers (codes_removed over)) (code_removed id) (codes_plain over)

code_numbers : (t : State) (code : ShareCode) (over : List ℕ) → code.id ≡ next_code t → NumbersTokens (code_rows code over) t
code_numbers t code over is_next =
    let removed = codes_removed over in
    let t' = change_done (code_rows code over) t in
    let next : next_code t' ≡ code.id + 1 = next_after t (Row.ShareCode code) (codes "code") code.id removed (codes_plain over) refl in
    let stays : next_token t' ≡ next_token t = other_after t (Row.ShareCode code) (codes "code") code.id removed (codes_plain over) refl (codes "token") refl in
    let low : next_code t ≤ code.id = omega (arith, is_next) in
    let high : code.id < next_code t' = omega (arith, next) in
    let following : RowChange = Put (Row.Next (record { name = codes "code"; next = code.id + 1 })) in
    record {
      each = All-cons (IsNumbered t t') (Put (Row.ShareCode code)) (following ∷ removed) (low, high)
          (All-cons (IsNumbered t t') following removed tt (are_numbered t t' removed (codes_plain over)));
      rises = omega (arith, stays);
      codes_rise = omega (arith, next, is_next);
    }

no_such_code : (t : State) → AreNumbered t → get t.codes (next_code t) ≡ None
no_such_code t numbered = by (get t.codes (next_code t)) refl
  where
    by : (o : Option ShareCode) → get t.codes (next_code t) ≡ o → o ≡ None
    by None e = refl
    by (Some c) e = let below : next_code t < next_code t = numbered.codes (next_code t) c e in absurd (omega (arith, below))

some_none : {X : Type 0} {x : X} → Some x ≡ None → ⊥
some_none h = cc

code_fits : (t : State) (code : ShareCode) → get t.codes code.id ≡ None → code_of_hash t code.hash ≡ None → FitsCode t.codes code
code_fits t code new none = record {
  hash = fits_fresh (λ (row : ShareCode). row.id) (λ (row : ShareCode). row.hash) t.codes code new none;
  server = λ row at. absurd (some_none (sym at ∙ new));
}

offered : (s : Hub) (text : List ℕ) (code : ShareCode) (over : List ℕ) → AreNumbered s.tables → code.id ≡ next_code s.tables → code_of_hash s.tables code.hash ≡ None
    → Issued s (on_codes.made code over text)
offered s text code over numbered is_next new c h =
    let t = s.tables in
    let rows : List RowChange = code_rows code over in
    let fresh : get t.codes code.id ≡ None = ap (get t.codes) is_next ∙ no_such_code t numbered in
    subst (λ (d : Change). FitsIn s d × NumbersTokens (rows_of d) t) (same_some (Rows rows) c h) (
      record { puts = (code_fits t code fresh new, (tt, codes_fit over (with_row (Row.Next (record { name = codes "code"; next = code.id + 1 })) (with_row (Row.ShareCode code) t)))); apart = codes_apart over },
      code_numbers t code over is_next,
    )

-- ---- past the rules

issued_or : (s : Hub) (o : Option Refusal) (r : Answer) → Issued s r → Issued s (or_refusal r o)
issued_or s None r h = h
issued_or s (Some x) r h = unchanged s (refuses x) refl

-- past the rules no kept token has its hash
past_rules : (s : Hub) (a b : Option Refusal) (kept full : Bool) (x y : Refusal) (r : Answer) → (kept ≡ false → Issued s r)
    → Issued s (or_refusal r (first_refusal (a ∷ b ∷ if_so kept x ∷ if_so full y ∷ [])))
past_rules s (Some a) b kept full x y r h = unchanged s (refuses a) refl
past_rules s None (Some b) kept full x y r h = unchanged s (refuses b) refl
past_rules s None None true full x y r h = unchanged s (refuses x) refl
past_rules s None None false true x y r h = unchanged s (refuses y) refl
past_rules s None None false false x y r h = h refl

token_issued : (s : Hub) (now : ℕ) (draw : Option (List ℕ)) (inside : Inside) (ask : TokenAsk) → AreNumbered s.tables → Issued s (post_token s now draw inside ask)
token_issued s now None inside ask numbered = unchanged s (post_token s now None inside ask) refl
token_issued s now (Some draw) inside ask numbered =
    let t = s.tables in
    let text = draw_text draw in
    let over = expired_tokens t now (Own.User ask.owner) in
    past_rules s (if_unknown t ask) (if_not_held inside) (is_hash_kept t (hash_text text)) (is_without_room t over) (Exists (codes "token")) (Full 5 t.limits.tokens)
    (made (new_token t now text ask) over text)
    (λ new. made_issued s now text ask over numbered (unheld (token_of_hash t (hash_text text)) new))

-- past the rules on a code no kept one has its hash
past_code_rules : (s : Hub) (kept full : Bool) (x y : Refusal) (r : Answer) → (kept ≡ false → Issued s r) → Issued s (or_refusal r (first_refusal (if_so kept x ∷ if_so full y ∷ [])))
past_code_rules s true full x y r h = unchanged s (refuses x) refl
past_code_rules s false true x y r h = unchanged s (refuses y) refl
past_code_rules s false false x y r h = h refl

put_issued : (s : Hub) (over text : List ℕ) (code : ShareCode) → AreNumbered s.tables → code.id ≡ next_code s.tables → Issued s (on_codes.put_code s over text code)
put_issued s over text code numbered is_next =
    past_code_rules s (is_some (code_of_hash s.tables code.hash)) (on_codes.is_without_room s.tables over) (Exists (codes "code")) (Full 9 s.tables.limits.codes) (on_codes.made code over text)
    (λ new. offered s text code over numbered is_next (unheld (code_of_hash s.tables code.hash) new))

same_ok : (x y : ShareCode) → (let a : Result ShareCode ShareError = Ok x in let b : Result ShareCode ShareError = Ok y in a ≡ b) → x ≡ y
same_ok x y e = cc

not_ok : (x : ShareCode) (r : ShareError) → (let a : Result ShareCode ShareError = Err r in let b : Result ShareCode ShareError = Ok x in a ≡ b) → ⊥
not_ok x r e = cc

-- what the rules give is the code that is asked for
asked_for : (checks : List (Option ShareError)) (asked code : ShareCode) → share_rules checks asked ≡ Ok code → asked ≡ code
asked_for [] asked code e = same_ok asked code e
asked_for (None ∷ checks) asked code e = asked_for checks asked code e
asked_for (Some r ∷ checks) asked code e = absurd (not_ok code r e)

told_issued : (s : Hub) (told : Result ShareCode ShareError) (answer : ShareCode → Answer) → ((code : ShareCode) → told ≡ Ok code → Issued s (answer code)) → Issued s (on_shares.by_rules told answer)
told_issued s (Ok code) answer h = h code refl
told_issued s (Err e) answer h = unchanged s (refuses (on_shares.refusal_of e)) refl

code_issued : (s : Hub) (now : ℕ) (draw : Option (List ℕ)) (server : ServerKey) (scopes : List RawScope) (life : ℕ) → AreNumbered s.tables → Issued s (on_codes.post_code s now draw server scopes life)
code_issued s now None server scopes life numbered = unchanged s (on_codes.post_code s now None server scopes life) refl
code_issued s now (Some draw) server scopes life numbered =
    let text = draw_text draw in
    let over = expired_codes s.tables now server in
    let asked : ShareCode = made_code server scopes life text (next_code s.tables) now in
    told_issued s (make_code server scopes life text (next_code s.tables) now) (on_codes.put_code s over text)
    (λ code e. put_issued s over text code numbered
    (sym (ap (λ (c : ShareCode). c.id) (asked_for (if_refused_scope server scopes ∷ if_life (nat_lt life 60) (LifeTooShort life) ∷ []) asked code e))))

-- ---- a trade

trade_numbers : (t : State) (code : OAuthCode) (token : Token) (over : List ℕ) → token.id ≡ next_token t → NumbersTokens (on_grants.trade_rows code token over) t
trade_numbers t code token over is_next =
    let removed = tokens_removed over in
    let used : State = with_row (Row.OAuthCode code) t in
    let t' = change_done (on_grants.trade_rows code token over) t in
    let next : next_token t' ≡ token.id + 1 = next_after used (Row.Token token) (codes "token") token.id removed (tokens_plain over) refl in
    let stays : next_code t' ≡ next_code t = other_after used (Row.Token token) (codes "token") token.id removed (tokens_plain over) refl (codes "code") refl in
    let low : next_token t ≤ token.id = omega (arith, is_next) in
    let high : token.id < next_token t' = omega (arith, next) in
    let following : RowChange = Put (Row.Next (record { name = codes "token"; next = token.id + 1 })) in
    record {
      each = All-cons (IsNumbered t t') (Put (Row.OAuthCode code)) (Put (Row.Token token) ∷ following ∷ removed) tt
          (All-cons (IsNumbered t t') (Put (Row.Token token)) (following ∷ removed) (low, high)
          (All-cons (IsNumbered t t') following removed tt (are_numbered t t' removed (tokens_plain over))));
      rises = omega (arith, next, is_next);
      codes_rise = omega (arith, stays);
    }

traded_issued : (s : Hub) (text : List ℕ) (code : OAuthCode) (token : Token) (over : List ℕ) → AreNumbered s.tables → token.id ≡ next_token s.tables → token_of_hash s.tables token.hash ≡ None
    → Issued s (rows_then (on_grants.trade_rows code token over) (on_grants.bearer text))
traded_issued s text code token over numbered is_next new c h =
    let t = s.tables in
    let rows : List RowChange = on_grants.trade_rows code token over in
    let fresh : get t.tokens token.id ≡ None = ap (get t.tokens) is_next ∙ no_such t numbered in
    let after : State = with_row (Row.Next (record { name = codes "token"; next = token.id + 1 })) (with_row (Row.Token token) (with_row (Row.OAuthCode code) t)) in
    subst (λ (d : Change). FitsIn s d × NumbersTokens (rows_of d) t) (same_some (Rows rows) c h) (
      record { puts = (tt, (token_fits t.tokens token fresh new, (tt, tokens_fit over after))); apart = tokens_apart over },
      trade_numbers t code token over is_next,
    )

-- a refused trade puts nothing
revoked : (s : Hub) (id : ℕ) (refusal : Refusal) → Issued s (refuses_with (Rows (Remove (RowKey.Token id) ∷ [])) refusal)
revoked s id refusal c h =
    let rows : List RowChange = Remove (RowKey.Token id) ∷ [] in
    subst (λ (d : Change). FitsIn s d × NumbersTokens (rows_of d) s.tables) (same_some (Rows rows) c h) (
      record { puts = tt; apart = refl },
      numbers_tokens rows s.tables (neither (numbers (Remove (RowKey.Token id))) false (token_removed id) refl),
    )

refused_issued : (s : Hub) (token : Option ℕ) (refusal : Refusal) → Issued s (on_grants.refuses_without token refusal)
refused_issued s None refusal = unchanged s (refuses refusal) refl
refused_issued s (Some id) refusal = revoked s id refusal

given_issued : (s : Hub) (told : Result (OAuthCode × Token) OAuthError) (answer : OAuthCode × Token → Answer) → ((given : OAuthCode × Token) → told ≡ Ok given → Issued s (answer given))
    → Issued s (on_grants.by_trade told answer)
given_issued s (Ok given) answer h = h given refl
given_issued s (Err e) answer h = refused_issued s (on_grants.revoked e) (on_grants.refusal_of e)

given_rows_issued : (s : Hub) (now : ℕ) (text : List ℕ) (given : OAuthCode × Token) → AreNumbered s.tables → IsNewToken s.tables text (next_token s.tables) given.1
    → Issued s (on_grants.traded s.tables now text given)
given_rows_issued s now text given numbered new =
    let t = s.tables in
    let over = expired_tokens t now given.1.owner in
    let none : token_of_hash t given.1.hash ≡ None = ap (token_of_hash t) new.hashed ∙ unheld (token_of_hash t (hash_text text)) new.new in
    issued_or s (first_refusal (if_so (is_without_room t over) (Full 5 t.limits.tokens) ∷ [])) (rows_then (on_grants.trade_rows given.0 given.1 over) (on_grants.bearer text))
    (traded_issued s text given.0 given.1 over numbered new.numbered none)

trade_issued : (s : Hub) (now : ℕ) (draw : Option (List ℕ)) (ask : TradeAsk) → AreNumbered s.tables → Issued s (on_grants.post_trade s now draw ask)
trade_issued s now None ask numbered = unchanged s (on_grants.post_trade s now None ask) refl
trade_issued s now (Some draw) ask numbered =
    let t = s.tables in
    let text = draw_text draw in
    given_issued s (trade t ask text (next_token t) now) (on_grants.traded t now text)
    (λ given e. given_rows_issued s now text given numbered (is_new t ask text (next_token t) now given e))

not_issued : (b : Bool) → b ≡ false → b ≡ true → ⊥
not_issued true h k = cc
not_issued false h k = cc

row_issued : (s : Hub) (may : Rights) (inside : Inside) (now : ℕ) (draw : Option (List ℕ)) (k : Token) (call : Call) → AreNumbered s.tables → issues call ≡ true
    → Issued s (row s may inside now draw k call)
row_issued s may inside now draw k (PostToken ask) numbered e = token_issued s now draw inside ask numbered
row_issued s may inside now draw k (PostCode server scopes expires_in) numbered e = code_issued s now draw server scopes expires_in numbered
row_issued s may inside now draw k (PostTrade ask) numbered e = trade_issued s now draw ask numbered
row_issued s may inside now draw k _ numbered e = absurd (not_issued false refl e)

-- ---- through the frame

nobody_issued : (s : Hub) (now : ℕ) (draw : Option (List ℕ)) (call : Call) → AreNumbered s.tables → issues call ≡ true → Issued s (by_nobody s now draw call)
nobody_issued s now draw (PostTrade ask) numbered e = trade_issued s now draw ask numbered
nobody_issued s now draw _ numbered e = unchanged s get_version refl

call_issued : (s : Hub) (j : Judgement) (now : ℕ) (draw : Option (List ℕ)) (call : Call) (k : Option Token) (b : Bool) → AreNumbered s.tables → issues call ≡ true
    → Issued s (cond b (by_token s j now draw call k) (by_nobody s now draw call))
call_issued s j now draw call k false numbered e = nobody_issued s now draw call numbered e
call_issued s j now draw call None true numbered e = unchanged s (by_token s j now draw call None) refl
call_issued s j now draw call (Some k) true numbered e =
    issued_or s (first_refusal (if_no_client s.tables call ∷ action_rules j (needs call))) (if_there s j.may j.inside now draw k call)
    (issued_or s (first_refusal (if_so (not (is_there s.tables call)) NotFound ∷ [])) (row s j.may j.inside now draw k call) (row_issued s j.may j.inside now draw k call numbered e))

issued_if : (s : Hub) (r : Answer) (b : Bool) → Issued s r → Issued s (cond b (refuses TrailFull) r)
issued_if s r true h = unchanged s (refuses TrailFull) refl
issued_if s r false h = h

trail_issued : (s : Hub) (r : Answer) → Issued s r → Issued s (in_trail s r)
trail_issued s (refuses x) h = h
trail_issued s (gives g) h = h
trail_issued s (refuses_with c x) h = issued_if s (refuses_with c x) (is_past_trail s c) h
trail_issued s (changes c g) h = issued_if s (changes c g) (is_past_trail s c) h
trail_issued s (works c w) h = issued_if s (works c w) (is_past_trail s c) h

pub answer_issued : (s : Hub) (now : ℕ) (draw : Option (List ℕ)) (asked : Asked) (r : Answer) → AreNumbered s.tables → issues asked.call ≡ true → Answers s now draw asked r → Issued s r
answer_issued s now draw asked r numbered e a =
    let by : Answer = by_call s a.judgement now draw (caller s now asked) asked.call in
    subst (Issued s) (sym a.is)
    (issued_or s (first_refusal (if_so (is_past s.length asked.seen) (SeenPast (named asked.seen) s.length) ∷ [])) (in_trail s by)
    (trail_issued s by (call_issued s a.judgement now draw asked.call (caller s now asked) (needs_token asked.call) numbered e)))
