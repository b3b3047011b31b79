-- What a tree of texts holds after a place is written or taken away.
use Rattle.std.proofs.Common.{◌≡◌, ℕ, Bool, true, false, cond, ◌&&◌, ◌==◌, List, [], ◌∷◌, ◌++◌, Option, Some, None, is_some, bytes_eq, Result, Ok, Err, OnOk, OnErr, arith, rules, refl, sym, ap, ◌∙◌, subst}
use Rattle.std.proofs.Math.Path.{subst₂}
use Rattle.std.proofs.lemmas.Slice.Eq.{bytes_eq-Decides}
use Rattle.std.specs.FinMap.{get, insert, remove, contains_key, get-insert, get-remove}
use Rattle.std.specs.Borrow.{Bor}
use Rattle.std.specs.Cmp.{tied_itself}
use Rattle.std.specs.Option.{option_copied}
use Rattle.std.specs.declared.alloc.AllocError.{AllocError}
use Rattle.std.specs.Ordering.{eq_by_cmp, is_eq}
use Rattle.keyed_rows.proofs.Finite.{tied}
use Rattle.keeper.specs.contracts.row_key.RowKeyOrd.TheImpl.Laws as order
use Rattle.keeper.specs.declared.row_key.RowKey.{RowKey}
use Rattle.keeper.specs.RowOrder.{key_cmp, key_exact}
use Rattle.keeper.specs.Rows.{Rows, AreSame, is_at, with_text}
use Rattle.keeper.specs.Held.{HeldTexts, held, text_in, is_bare, HaveRoom, KeepsPlaces}

both : (a b : Bool) → (a && b) ≡ true → (a ≡ true) × (b ≡ true)
both true true e = (refl, refl)
both true false e = absurd cc
both false b e = absurd cc

same_number : (k l : ℕ) → (k == l) ≡ true → k ≡ l
same_number k l e = grind arith

-- two kinds and keys that test alike are the same
pub at_same : (k : ℕ) (key : List ℕ) (l : ℕ) (other : List ℕ) → is_at k key l other ≡ true → (k ≡ l) × (key ≡ other)
at_same k key l other e = let p = both (k == l) (bytes_eq key other) e in (same_number k l p.0, search (rules, bytes_eq-Decides))

number_itself : (k : ℕ) → (k == k) ≡ true
number_itself k = grind arith

bytes_itself : (key : List ℕ) → bytes_eq key key ≡ true
bytes_itself key = (bytes_eq-Decides key key).1 refl

pub at_itself : (k : ℕ) (key : List ℕ) → is_at k key k key ≡ true
at_itself k key = rw (number_itself k, bytes_itself key) refl

key_there : (kind : ℕ) (key : List ℕ) (at : RowKey) → record { kind = kind; key = key } ≡ at → is_at at.kind at.key kind key ≡ true
key_there kind key at e = subst (λ (p : RowKey). is_at p.kind p.key kind key ≡ true) e (at_itself kind key)

key_of_test : (kind : ℕ) (key : List ℕ) (at : RowKey) → is_at at.kind at.key kind key ≡ true → record { kind = kind; key = key } ≡ at
key_of_test kind key at e = let p = at_same at.kind at.key kind key e in subst₂ (λ k l. record { kind = k; key = l } ≡ at) p.0 p.1 refl

not_true : (b : Bool) → (b ≡ true → ⊥) → b ≡ false
not_true true h = absurd (h refl)
not_true false h = refl

both_false : (a b : Bool) → (a ≡ true → b ≡ true) → (b ≡ true → a ≡ true) → a ≡ b
both_false true b f g = sym (f refl)
both_false false true f g = absurd (let e = g refl in cc)
both_false false false f g = refl

pub tied_key : (q k : RowKey) → eq_by_cmp key_cmp q k ≡ true → q ≡ k
tied_key q k e = key_exact q k (tied (key_cmp q k) e)

itself_tied : (k : RowKey) → eq_by_cmp key_cmp k k ≡ true
itself_tied k = ap is_eq (tied_itself order.total-law k)

-- the order of the tree tells the same keys as the test of rows
pub same_test : (kind : ℕ) (key : List ℕ) (at : RowKey) → eq_by_cmp key_cmp (record { kind = kind; key = key }) at ≡ is_at at.kind at.key kind key
same_test kind key at =
    both_false _ _ (λ e. key_there kind key at (tied_key _ at e))
    (λ e. subst (λ q. eq_by_cmp key_cmp q at ≡ true) (sym (key_of_test kind key at e)) (itself_tied at))

text_at_test : (b : Bool) (v : Option (List ℕ)) (x : Option (Option (List ℕ))) → text_in (cond b (Some v) x) ≡ cond b v (text_in x)
text_at_test true v x = refl
text_at_test false v x = refl

no_text_at_test : (b : Bool) (x : Option (Option (List ℕ))) → text_in (cond b None x) ≡ cond b None (text_in x)
no_text_at_test true x = refl
no_text_at_test false x = refl

-- a text that is written at a place
pub held_written : (m : HeldTexts) (at : RowKey) (text : Option (List ℕ)) → AreSame (held (insert m at text)) (with_text at.kind at.key text (held m))
held_written m at text kind key =
    ap text_in (get-insert order.total-law m at text (record { kind = kind; key = key }))
    ∙ text_at_test (eq_by_cmp key_cmp (record { kind = kind; key = key }) at) text (get m (record { kind = kind; key = key }))
    ∙ ap (λ b. cond b text (held m kind key)) (same_test kind key at)

-- no text where none was
pub none_there : (rows : Rows) (at : RowKey) → rows at.kind at.key ≡ None → AreSame (with_text at.kind at.key None rows) rows
none_there rows at none kind key =
    elim (is_at at.kind at.key kind key) as (λ b. is_at at.kind at.key kind key ≡ b → cond b None (rows kind key) ≡ rows kind key) [
      | true ↦ λ e. let p = at_same at.kind at.key kind key e in sym (subst₂ (λ k l. rows k l ≡ None) p.0 p.1 none)
      | false ↦ λ e. refl
    ] refl

not_some : (x : Option (Option (List ℕ))) → is_some x ≡ false → text_in x ≡ None
not_some None h = refl
not_some (Some x) h = cc

-- a new place without a text is no row
pub held_made : (m : HeldTexts) (at : RowKey) → contains_key m at ≡ false → AreSame (held (insert m at None)) (held m)
held_made m at new kind key = held_written m at None kind key ∙ none_there (held m) at (not_some (get m at) new) kind key

-- a place without a text is taken away
pub held_swept : (m : HeldTexts) (at : RowKey) → get m at ≡ Some None → AreSame (held (remove m at)) (held m)
held_swept m at none kind key =
    ap text_in (get-remove order.total-law m at (record { kind = kind; key = key }))
    ∙ no_text_at_test (eq_by_cmp key_cmp (record { kind = kind; key = key }) at) (get m (record { kind = kind; key = key }))
    ∙ ap (λ b. cond b None (held m kind key)) (same_test kind key at)
    ∙ none_there (held m) at (ap text_in none) kind key

some_at_test : {X : Type 0} (b : Bool) (v : X) (x : Option X) → is_some x ≡ true → is_some (cond b (Some v) x) ≡ true
some_at_test true v x h = refl
some_at_test false v x h = h

pub places_kept : (m : HeldTexts) (at : RowKey) (text : Option (List ℕ)) → KeepsPlaces m (insert m at text)
places_kept m at text place there =
    ap is_some (get-insert order.total-law m at text place) ∙ some_at_test (eq_by_cmp key_cmp place at) text (get m place) there

pub place_made : (m : HeldTexts) (at : RowKey) (text : Option (List ℕ)) → contains_key (insert m at text) at ≡ true
place_made m at text = ap is_some (get-insert order.total-law m at text at ∙ ap (λ b. cond b (Some text) (get m at)) (itself_tied at))

pub room_kept : (m n : HeldTexts) → KeepsPlaces m n → (places : List RowKey) → HaveRoom m places → HaveRoom n places
room_kept m n kept [] h = tt
room_kept m n kept (place ∷ places) h = (kept place h.0, room_kept m n kept places h.1)

pub room_more : (m : HeldTexts) (places : List RowKey) (place : RowKey) → HaveRoom m places → contains_key m place ≡ true → HaveRoom m (places ++ place ∷ [])
room_more m [] place h there = (there, tt)
room_more m (p ∷ places) place h there = (h.0, room_more m places place h.1 there)

-- a place that was to be made, where none was
pub made : (m n : HeldTexts) (at place : RowKey) (r : Result (Unit {0}) AllocError) → at ≡ place → contains_key m place ≡ false
    → OnOk r (n ≡ insert m at None) → OnErr r (n ≡ m)
    → AreSame (held n) (held m) × OnOk r (contains_key n place ≡ true) × KeepsPlaces m n
made m n at place (Ok u) e new ok err =
    let written : n ≡ insert m place None = ok ∙ ap (λ p. insert m p None) e in (
      λ kind key. ap (λ x. held x kind key) written ∙ held_made m place new kind key,
      ap (λ x. contains_key x place) written ∙ place_made m place None,
      λ p there. ap (λ x. contains_key x p) written ∙ places_kept m place None p there,
    )
made m n at place (Err a) e new ok err =
    (λ kind key. ap (λ x. held x kind key) err, tt, λ p there. ap (λ x. contains_key x p) err ∙ there)

bare_place : (x : Option (Option (List ℕ))) → is_bare x ≡ true → x ≡ Some None
bare_place None h = cc
bare_place (Some None) h = refl
bare_place (Some (Some t)) h = cc

-- a place without a text that was taken away
pub swept : (m n : HeldTexts) (at : RowKey) → is_bare (get m at) ≡ true → n ≡ remove m at → AreSame (held n) (held m)
swept m n at bare removed kind key = ap (λ x. held x kind key) removed ∙ held_swept m at (bare_place (get m at) bare) kind key

-- what was looked up isn't there
pub copied_none : (r : Option (Bor (Option (List ℕ)))) (x : Option (Option (List ℕ))) → option_copied r ≡ x → is_some r ≡ false → is_some x ≡ false
copied_none None x e h = ap is_some (sym e)
copied_none (Some b) x e h = cc
