-- Lists of texts, beside lists of values.
use Rattle.std.proofs.Common.{◌≡◌, ◌<◌, ℕ, zero, suc, List, [], ◌∷◌, ◌++◌, map, length, get_or, refl, sym, ap, ◌∙◌, arith}
use Rattle.std.specs.List.{AllByRecursion}
use Rattle.std.proofs.lemmas.List.{map-append, length-map}
use Rattle.serde_json.specs.Data.{Data, string}
use Rattle.serde_json.specs.View.{view, items_view, items_of}
use Rattle.serde_json.specs.declared.value.Value.{Value}
use Rattle.record_texts.specs.Fields.{strings}

data_push : (ds : List Data) (s : List ℕ) (ss : List (List ℕ)) → items_of ds ≡ strings ss → items_of (ds ++ string s ∷ []) ≡ strings (ss ++ s ∷ [])
data_push [] s [] h = refl
data_push [] s (t ∷ ss) h = absurd cc
data_push (d ∷ ds) s [] h = absurd cc
data_push (d ∷ ds) s (t ∷ ss) h = let head : d ≡ string t = cc in let rest : items_of ds ≡ strings ss = cc in rw (head, data_push ds s ss rest) refl

map_push : (vs : List Value) (v : Value) → map view (vs ++ v ∷ []) ≡ map view vs ++ view v ∷ []
map_push [] v = refl
map_push (x ∷ vs) v = ap (λ ds. view x ∷ ds) (map_push vs v)

pub items_push : (vs : List Value) (v : Value) (s : List ℕ) (ss : List (List ℕ)) → items_view vs ≡ strings ss → view v ≡ string s → items_view (vs ++ v ∷ []) ≡ strings (ss ++ s ∷ [])
items_push vs v s ss h e = ap items_of (map_push vs v ∙ ap (λ d. map view vs ++ d ∷ []) e) ∙ data_push (map view vs) s ss h

-- the value at a place stands for the text there
pub item_at : (vs : List Value) (ss : List (List ℕ)) (i : ℕ) (d : Value) (e : List ℕ) → items_view vs ≡ strings ss → i < length vs → view (get_or vs i d) ≡ string (get_or ss i e)
item_at [] ss i d e h lt = absurd (omega arith)
item_at (v ∷ vs) [] i d e h lt = absurd cc
item_at (v ∷ vs) (s ∷ ss) zero d e h lt = cc
item_at (v ∷ vs) (s ∷ ss) (suc i) d e h lt = let rest : items_view vs ≡ strings ss = cc in item_at vs ss i d e rest (omega arith)

pub same_length : (vs : List Value) (ss : List (List ℕ)) → items_view vs ≡ strings ss → length vs ≡ length ss
same_length [] [] h = refl
same_length [] (s ∷ ss) h = absurd cc
same_length (v ∷ vs) [] h = absurd cc
same_length (v ∷ vs) (s ∷ ss) h = let rest : items_view vs ≡ strings ss = cc in omega (arith, same_length vs ss rest)

module _ {T : Type 0} (text_of : T → List ℕ) (valid : T → Type 0) where
  -- one text more
  pub texts_more : (vs : List Value) (v : Value) (xs : List T) (x : T) → items_view vs ≡ strings (map text_of xs) → view v ≡ string (text_of x) → items_view (vs ++ v ∷ []) ≡ strings (map text_of (xs ++ x ∷ []))
  texts_more vs v xs x h e = items_push vs v (text_of x) (map text_of xs) h e ∙ ap strings (sym (map-append text_of xs (x ∷ [])))

  pub valid_more : (xs : List T) (x : T) → AllByRecursion valid xs → valid x → AllByRecursion valid (xs ++ x ∷ [])
  valid_more [] x h there = (there, tt)
  valid_more (y ∷ xs) x h there = (h.0, valid_more xs x h.1 there)

  -- the item at a place, whose text the value there is
  pub nth : (vs : List Value) (xs : List T) (i : ℕ) (d : Value) → items_view vs ≡ strings (map text_of xs) → AllByRecursion valid xs → i < length vs
      → (x : T) × valid x × (view (get_or vs i d) ≡ string (text_of x)) × ((e : T) → get_or xs i e ≡ x)
  nth [] xs i d h all lt = absurd (omega arith)
  nth (v ∷ vs) [] i d h all lt = absurd cc
  nth (v ∷ vs) (x ∷ xs) zero d h all lt = (x, all.0, cc, λ e. refl)
  nth (v ∷ vs) (x ∷ xs) (suc i) d h all lt = let rest : items_view vs ≡ strings (map text_of xs) = cc in nth vs xs i d rest all.1 (omega arith)

  pub as_long : (vs : List Value) (xs : List T) → items_view vs ≡ strings (map text_of xs) → length vs ≡ length xs
  as_long vs xs h = same_length vs (map text_of xs) h ∙ length-map xs text_of
