-- A token that was removed isn't found again, until an entry puts its hash.
use Rattle.std.proofs.Common.{◌≡◌, ◌⊎◌, inl, inr, ℕ, Bool, true, false, not, cond, List, [], ◌∷◌, ◌++◌, map, All, Option, Result, refl, sym, ◌∙◌, ap, subst}
use Rattle.std.specs.Prelude.{Some, None, Ok, Err}
use Rattle.std.specs.Cmp.{nat_cmp_total, tied_itself}
use Rattle.std.specs.Cmp.Lexicographic.{nat_list_cmp_total}
use Rattle.std.specs.List as scan
use Rattle.std.specs.List.{AllByRecursion, filter}
use Rattle.std.specs.Ordering.{nat_cmp, eq_by_cmp, is_eq}
use Rattle.std.specs.FinMap.{FinMap, get, values, entries, get-entries, nat_cmp-IsAntisymmetric}
use Rattle.std.specs.FinMap.Entries as rows
use Rattle.std.proofs.lemmas.List.Elements.{recursion_from_All}
use Rattle.hub_kit.specs.Hashes.{hash_text}
use Rattle.hub_kit.specs.KeyOrder.{name_cmp}
use Rattle.keyed_rows.proofs.Finite.{insert_cases, remove_cases, tied}
use Rattle.server_life.specs.LifeTable.{life_after}
use Rattle.server_life.specs.declared.life.Life.{Life}
use Rattle.server_life.specs.declared.life.LifeEvent.{LifeEvent}
use Rattle.server_life.specs.declared.life.Phase.{Phase}
use Rattle.server_life.specs.declared.life.Phase.TheVariants.{Stopped}
use Rattle.hub_rows.specs.RowKeys.{is_put}
use Rattle.hub_rows.specs.ShareOrder.{names_exact}
use Rattle.hub_rows.specs.declared.changes.RowChange.{RowChange}
use Rattle.hub_rows.specs.declared.changes.RowChange.TheVariants.{Put, Remove}
use Rattle.hub_rows.specs.declared.records.ServerRow.{ServerRow}
use Rattle.hub_rows.specs.declared.records.Token.{Token}
use Rattle.hub_rows.specs.declared.rows.Row.TheVariants as Row
use Rattle.hub_rows.specs.declared.rows.RowKey.TheVariants as RowKey
use Rattle.hub_tables.specs.Changes.{row_done, rows_done, puts_of, removals_of}
use Rattle.hub_tables.specs.Lookups.{token_of_hash}
use Rattle.hub_tables.specs.State.{State}
use Rattle.hub_lives.specs.Lives.{LifeStep}
use Rattle.hub_lives.specs.declared.lives.Leased.{Leased}
use Rattle.hub_machine.specs.Apply.{apply, change_done, rows_of, rested, start_tokens, end_rows, moved, stepped, of_lease}
use Rattle.hub_machine.specs.Replies.{Answer, refuses, rules, if_so}
use Rattle.hub_machine.specs.State.{Hub}
use Rattle.hub_machine.specs.Trails.{in_trail}
use Rattle.hub_machine.specs.declared.call.Asked.{Asked}
use Rattle.hub_machine.specs.declared.change.Change.{Change}
use Rattle.hub_machine.specs.declared.change.Change.TheVariants.{Rows, Begin, Life as Lived}
use Rattle.hub_machine.specs.declared.refusal.Refusal.TheVariants.{NoValidToken, SeenPast}
use Rattle.hub_machine.specs.declared.call.Call.{Call}
use Rattle.hub_core.specs.Answer.{Judgement, by_call, by_nobody, caller, good_token, if_good, is_past, named}
use Rattle.hub_core.specs.History.{Answers, state_after}
use Rattle.hub_core.specs.Needs.{needs_token}
use Rattle.hub_core.specs.Removed.{PutsNoToken, IsRemoved, IsTokenRefused}
use Rattle.hub_core.proofs.Keys.{found_under}

-- ---- a hash that no row has

none_some : {X : Type 0} (x : X) → Some x ≡ None → ⊥
none_some x h = cc

some_one : {X : Type 0} (x y : X) → Some x ≡ Some y → x ≡ y
some_one x y h = cc

true_false : {b : Bool} → b ≡ true → b ≡ false → ⊥
true_false h k = cc

same_tied : (a b : List ℕ) → a ≡ b → eq_by_cmp name_cmp a b ≡ true
same_tied a b e = ap (eq_by_cmp name_cmp a) (sym e) ∙ ap is_eq (tied_itself nat_list_cmp_total a)

-- no row that stands under a key passes a test that no value passes
passes_none : {X : Type 0} (p : X → Bool) (es : List (ℕ × X)) (q : ℕ) (x : X) → rows.find nat_cmp q es ≡ Some x → scan.find p (map (λ e. e.1) es) ≡ None → p x ≡ true → ⊥
passes_none p [] q x at none px = none_some x (sym at)
passes_none {X = X} p (e ∷ es) q x at none px =
    elim (p e.1) as (λ b. p e.1 ≡ b → cond b (Some e.1) (scan.find p (map (λ e. e.1) es)) ≡ None → ⊥) [
      | true ↦ λ pe none. none_some e.1 none
      | false ↦ λ pe none. elim (eq_by_cmp nat_cmp q e.0) as (λ b. cond b (Some e.1) (rows.find nat_cmp q es) ≡ Some x → ⊥) [
        | true ↦ λ at. true_false px (ap p (sym (some_one e.1 x at)) ∙ pe)
        | false ↦ λ at. passes_none p es q x at none px
      ] at
    ] refl none

-- the value that is found passes
found_passes : {X : Type 0} (p : X → Bool) (xs : List X) (x : X) → scan.find p xs ≡ Some x → p x ≡ true
found_passes p [] x h = absurd (none_some x (sym h))
found_passes p (y ∷ ys) x h =
    elim (p y) as (λ b. p y ≡ b → cond b (Some y) (scan.find p ys) ≡ Some x → p x ≡ true) [
      | true ↦ λ py h. ap p (sym (some_one y x h)) ∙ py
      | false ↦ λ py h. found_passes p ys x h
    ] refl h

-- no token of the hash is kept
abbrev HasNone : List ℕ → State → Type 0
HasNone hash t = (id : ℕ) (k : Token) → get t.tokens id ≡ Some k → k.hash ≡ hash → ⊥

abbrev is_of : List ℕ → Token → Bool
is_of hash k = eq_by_cmp name_cmp k.hash hash

none_of_hash : (hash : List ℕ) (t : State) → token_of_hash t hash ≡ None → HasNone hash t
none_of_hash hash t none id k at same =
    passes_none (is_of hash) (entries t.tokens) id k (sym (get-entries t.tokens id) ∙ at) none (same_tied k.hash hash same)

hash_of_none : (hash : List ℕ) (t : State) → HasNone hash t → token_of_hash t hash ≡ None
hash_of_none hash t none = by_found (token_of_hash t hash) refl
  where
    by_found : (o : Option Token) → token_of_hash t hash ≡ o → o ≡ None
    by_found None e = refl
    by_found (Some k) e =
        let under = found_under t.tokens (is_of hash) k e in
        absurd (none under.0 k under.1 (names_exact k.hash hash (tied (name_cmp k.hash hash) (found_passes (is_of hash) (values t.tokens) k e))))

-- ---- after a change of rows

row_none : (hash : List ℕ) (c : RowChange) (t : State) → PutsNoToken hash c → HasNone hash t → HasNone hash (row_done c t)
row_none hash (Put (Row.Token put)) t other none = λ id k at same.
    elim (insert_cases nat_cmp_total nat_cmp-IsAntisymmetric t.tokens put.id put id k at) as (λ _. ⊥) [
      | inl here ↦ other (ap (λ (x : Token). x.hash) here.1 ∙ same)
      | inr there ↦ none id k there.1 same
    ]
row_none hash (Remove (RowKey.Token gone)) t other none = λ id k at same. none id k (remove_cases nat_cmp_total nat_cmp-IsAntisymmetric t.tokens gone id k at).1 same
row_none hash _ t other none = none

abbrev PutNone : List ℕ → List RowChange → Type 0
PutNone hash cs = AllByRecursion (PutsNoToken hash) cs

rows_none : (hash : List ℕ) (cs : List RowChange) (t : State) → PutNone hash cs → HasNone hash t → HasNone hash (rows_done cs t)
rows_none hash [] t others none = none
rows_none hash (c ∷ cs) t others none = rows_none hash cs (row_done c t) others.1 (row_none hash c t others.0 none)

some_put_none : (hash : List ℕ) (p : RowChange → Bool) (cs : List RowChange) → PutNone hash cs → PutNone hash (filter p cs)
some_put_none hash p [] others = tt
some_put_none hash p (c ∷ cs) others =
    let rest = some_put_none hash p cs others.1 in
    elim (p c) as (λ b. PutNone hash (cond b (c ∷ filter p cs) (filter p cs))) [ true ↦ (others.0, rest) | false ↦ rest ]

change_none : (hash : List ℕ) (cs : List RowChange) (t : State) → PutNone hash cs → HasNone hash t → HasNone hash (change_done cs t)
change_none hash cs t others none =
    rows_none hash (removals_of cs) (rows_done (puts_of cs) t) (some_put_none hash (λ c. not (is_put c)) cs others)
    (rows_none hash (puts_of cs) t (some_put_none hash is_put cs others) none)

-- ---- after an entry

both_put_none : (hash : List ℕ) (cs ds : List RowChange) → PutNone hash cs → PutNone hash ds → PutNone hash (cs ++ ds)
both_put_none hash [] ds others more = more
both_put_none hash (c ∷ cs) ds others more = (others.0, both_put_none hash cs ds others.1 more)

rested_none : (hash : List ℕ) (row : Option ServerRow) → PutNone hash (rested row)
rested_none hash None = tt
rested_none hash (Some row) = (tt, tt)

removals_none : (hash : List ℕ) (ids : List ℕ) → PutNone hash (map (λ id. Remove (RowKey.Token id)) ids)
removals_none hash [] = tt
removals_none hash (id ∷ ids) = (tt, removals_none hash ids)

end_none : (hash : List ℕ) (t : State) (l : Leased) → PutNone hash (end_rows t l)
end_none hash t l =
    both_put_none hash _ _ (rested_none hash (get t.servers l.server)) (both_put_none hash _ _ (removals_none hash (start_tokens t l.server)) (tt, (tt, tt)))

moved_none : (hash : List ℕ) (g : ℕ) (l : Leased) (life : Life) (phase : Phase) (s : Hub) → HasNone hash s.tables → HasNone hash (moved g l life phase s).tables
moved_none hash g l life Stopped s none = change_none hash (end_rows s.tables l) s.tables (end_none hash s.tables l) none
moved_none hash g l life phase s none = none

step_none : (hash : List ℕ) (g : ℕ) (l : Leased) (step : LifeStep) (s : Hub) → HasNone hash s.tables → HasNone hash (stepped g l step s).tables
step_none hash g l (Err e) s none = none
step_none hash g l (Ok next) s none = moved_none hash g l next.0 next.0.phase s none

lease_none : (hash : List ℕ) (g : ℕ) (event : LifeEvent) (l : Option Leased) (s : Hub) → HasNone hash s.tables → HasNone hash (of_lease g event l s).tables
lease_none hash g event None s none = none
lease_none hash g event (Some l) s none = step_none hash g l (life_after l.life g event) s none

entry_none : (hash : List ℕ) (c : Change) (s : Hub) → PutNone hash (rows_of c) → HasNone hash s.tables → HasNone hash (apply c s).tables
entry_none hash (Rows cs) s others none = change_none hash cs s.tables others none
entry_none hash (Begin g server cs) s others none = change_none hash cs s.tables others none
entry_none hash (Lived g event) s others none = lease_none hash g event (get s.lives g) s none

abbrev NonePut : List ℕ → List Change → Type 0
NonePut hash h = AllByRecursion (λ (c : Change). All (PutsNoToken hash) (rows_of c)) h

history_none : (hash : List ℕ) (h : List Change) (s : Hub) → NonePut hash h → HasNone hash s.tables → HasNone hash (state_after s h).tables
history_none hash [] s others none = none
history_none hash (c ∷ h) s others none = history_none hash h (apply c s) others.1 (entry_none hash c s (recursion_from_All (PutsNoToken hash) (rows_of c) others.0) none)

state_joined : (s : Hub) (h k : List Change) → state_after s (h ++ k) ≡ state_after (state_after s h) k
state_joined s [] k = refl
state_joined s (c ∷ h) k = state_joined (apply c s) h k

-- ---- what is answered

-- without a token that is kept
no_token : (s : Hub) (now : ℕ) (draw : Option (List ℕ)) (j : Judgement) (call : Call) (k : Option Token) → k ≡ None → needs_token call ≡ true → in_trail s (by_call s j now draw k call) ≡ refuses NoValidToken
no_token s now draw j call k none needed =
    ap (λ (x : Option Token). in_trail s (by_call s j now draw x call)) none
    ∙ ap (λ b. in_trail s (cond b (refuses NoValidToken) (by_nobody s now draw call))) needed

unkept : (t : State) (now : ℕ) (text : List ℕ) (token : Option (List ℕ)) → token ≡ Some text → token_of_hash t (hash_text text) ≡ None → good_token t now token ≡ None
unkept t now text token is none = ap (good_token t now) is ∙ ap (if_good now) none

refused_by : (s : Hub) (now : ℕ) (draw : Option (List ℕ)) (j : Judgement) (asked : Asked) (text : List ℕ) (past : Bool) → asked.token ≡ Some text → needs_token asked.call ≡ true
    → (past ≡ false → token_of_hash s.tables (hash_text text) ≡ None)
    → IsTokenRefused s asked (rules (if_so past (SeenPast (named asked.seen) s.length) ∷ []) (in_trail s (by_call s j now draw (caller s now asked) asked.call)))
refused_by s now draw j asked text true token needed none = inr refl
refused_by s now draw j asked text false token needed none =
    inl (no_token s now draw j asked.call (caller s now asked) (unkept s.tables now text asked.token token (none refl)) needed)

-- a call whose token isn't kept, where it hasn't seen more than there is
pub refused_unkept : (s : Hub) (now : ℕ) (draw : Option (List ℕ)) (asked : Asked) (a : Answer) (text : List ℕ) → Answers s now draw asked a → asked.token ≡ Some text → needs_token asked.call ≡ true
    → (is_past s.length asked.seen ≡ false → token_of_hash s.tables (hash_text text) ≡ None) → IsTokenRefused s asked a
refused_unkept s now draw asked a text answers token needed none =
    subst (IsTokenRefused s asked) (sym answers.is) (refused_by s now draw answers.judgement asked text (is_past s.length asked.seen) token needed none)

pub stays_removed : (start : Hub) (text : List ℕ) (gone later : List Change) → IsRemoved start text gone later → token_of_hash (state_after start (gone ++ later)).tables (hash_text text) ≡ None
stays_removed start text gone later removed =
    let hash : List ℕ = hash_text text in
    ap (λ (s : Hub). token_of_hash s.tables hash) (state_joined start gone later)
    ∙ hash_of_none hash (state_after (state_after start gone) later).tables
    (history_none hash later (state_after start gone) (recursion_from_All _ later removed.never_again) (none_of_hash hash (state_after start gone).tables removed.removed))

pub removed_refused : (start : Hub) (text : List ℕ) (gone later : List Change) (now : ℕ) (draw : Option (List ℕ)) (asked : Asked) (a : Answer) → IsRemoved start text gone later
    → asked.token ≡ Some text → needs_token asked.call ≡ true → Answers (state_after start (gone ++ later)) now draw asked a → IsTokenRefused (state_after start (gone ++ later)) asked a
removed_refused start text gone later now draw asked a removed token needed answers =
    refused_unkept (state_after start (gone ++ later)) now draw asked a text answers token needed (λ _. stays_removed start text gone later removed)
