-- Lists that are made one item after the other.
use Rattle.std.proofs.Common.{◌≡◌, ℕ, ◌+◌, ◌<◌, ◌≤◌, List, [], ◌∷◌, ◌++◌, map, length, get_or, drop, add-one, drop-cons, sym, ap, ◌∙◌, Vec, Global}
use Rattle.std.proofs.lemmas.List.{append_assoc, append-nil, map-append, drop_all}
use Rattle.json.specs.Token.{key, begin_array, end_array, begin_object, end_object}
use Rattle.hub_view.specs.Json.{Json, line, lines, items, pairs}
use Rattle.hub_view.specs.Body.{body_tokens, bodies, members, items_tokens, pairs_tokens}
use Rattle.hub_view.specs.declared.body.Body.{Body}
use Rattle.hub_view.specs.declared.body.Body.TheVariants.{Items, Pairs, Record}
use Rattle.hub_view.proofs.Tokens.{tokens_of_items, tokens_of_pairs, tokens_of_record}

-- what is left begins with the item at hand
pub left_at : {A : Type 0} (xs : List A) (i : ℕ) (x : A) → i < length xs → x ≡ get_or xs i x → drop i xs ≡ x ∷ drop (i + 1) xs
left_at xs i x below here = drop-cons xs i x below ∙ (λ k. sym here k ∷ drop (sym (add-one i) k) xs)

pub one_more : {A : Type 0} (text : A → List ℕ) (xs : List A) (i : ℕ) (x : A) (made more : List Body) (b : Body)
    → i < length xs → x ≡ get_or xs i x → more ≡ made ++ b ∷ [] → body_tokens b ≡ line (text x)
    → bodies made ++ map line (map text (drop i xs)) ≡ map line (map text xs)
    → bodies more ++ map line (map text (drop (i + 1) xs)) ≡ map line (map text xs)
one_more {A} text xs i x made more b below here added is_text so_far =
    let rest : List Json = map line (map text (drop (i + 1) xs)) in
    ap (λ (bs : List Body). bodies bs ++ rest) added
    ∙ ap (λ (js : List Json). js ++ rest) (map-append body_tokens made (b ∷ []))
    ∙ append_assoc (bodies made) (body_tokens b ∷ []) rest
    ∙ ap (λ (j : Json). bodies made ++ j ∷ rest) is_text
    ∙ ap (λ (left : List A). bodies made ++ map line (map text left)) (sym (left_at xs i x below here))
    ∙ so_far

pub all_made : {A : Type 0} (text : A → List ℕ) (xs : List A) (i : ℕ) (made : List Body) → length xs ≤ i
    → bodies made ++ map line (map text (drop i xs)) ≡ map line (map text xs)
    → items (bodies made) ≡ lines (map text xs)
all_made {A} text xs i made past so_far =
    ap items (sym (append-nil (bodies made)) ∙ ap (λ (left : List A). bodies made ++ map line (map text left)) (sym (drop_all i xs past)) ∙ so_far)

-- what was written so far, with what is left to write, one item or one pair more

pub item_written : (list : List Body) (i : ℕ) (b : Body) (before after whole : Json) → i < length list → b ≡ get_or list i b
    → after ≡ before ++ body_tokens b → before ++ items_tokens (drop i list) ≡ whole
    → after ++ items_tokens (drop (i + 1) list) ≡ whole
item_written list i b before after whole below here wrote so_far =
    let rest : Json = items_tokens (drop (i + 1) list) in
    ap (λ (tokens : Json). tokens ++ rest) wrote
    ∙ append_assoc before (body_tokens b) rest
    ∙ ap (λ (left : List Body). before ++ items_tokens left) (sym (left_at list i b below here))
    ∙ so_far

pub pair_written : (list : List (List ℕ × Body)) (i : ℕ) (p : List ℕ × Body) (before at_value after whole : Json) → i < length list → p ≡ get_or list i p
    → at_value ≡ before ++ key p.0 ∷ [] → after ≡ at_value ++ body_tokens p.1 → before ++ pairs_tokens (drop i list) ≡ whole
    → after ++ pairs_tokens (drop (i + 1) list) ≡ whole
pair_written list i p before at_value after whole below here wrote_key wrote so_far =
    let rest : Json = pairs_tokens (drop (i + 1) list) in
    ap (λ (tokens : Json). tokens ++ rest) (wrote ∙ ap (λ (tokens : Json). tokens ++ body_tokens p.1) wrote_key)
    ∙ append_assoc (before ++ key p.0 ∷ []) (body_tokens p.1) rest
    ∙ append_assoc before (key p.0 ∷ []) (body_tokens p.1 ++ rest)
    ∙ ap (λ (left : List (List ℕ × Body)). before ++ pairs_tokens left) (sym (left_at list i p below here))
    ∙ so_far

-- all was written, and its end

pub items_ended : (list : List Body) (i : ℕ) (before whole : Json) → length list ≤ i → before ++ items_tokens (drop i list) ≡ whole
    → before ++ end_array ∷ [] ≡ whole
items_ended list i before whole past so_far = ap (λ (left : List Body). before ++ items_tokens left) (sym (drop_all i list past)) ∙ so_far

pub pairs_ended : (list : List (List ℕ × Body)) (i : ℕ) (before whole : Json) → length list ≤ i → before ++ pairs_tokens (drop i list) ≡ whole
    → before ++ end_object ∷ [] ≡ whole
pairs_ended list i before whole past so_far = ap (λ (left : List (List ℕ × Body)). before ++ pairs_tokens left) (sym (drop_all i list past)) ∙ so_far

pub array_written : (b : Body) (v : Vec Body Global) (list : List Body) (before opened after : Json) → b ≡ Items v → list ≡ v.items
    → opened ≡ before ++ begin_array ∷ [] → after ≡ opened ++ items_tokens list → after ≡ before ++ body_tokens b
array_written b v list before opened after is same begun wrote =
    wrote ∙ ap (λ (tokens : Json). tokens ++ items_tokens list) begun
    ∙ append_assoc before (begin_array ∷ []) (items_tokens list)
    ∙ ap (λ (xs : List Body). before ++ items (bodies xs)) same
    ∙ ap (λ (tokens : Json). before ++ tokens) (sym (tokens_of_items v))
    ∙ ap (λ (x : Body). before ++ body_tokens x) (sym is)

pub object_written : (b : Body) (v : Vec (List ℕ × Body) Global) (list : List (List ℕ × Body)) (before opened after : Json) → b ≡ Pairs v → list ≡ v.items
    → opened ≡ before ++ begin_object ∷ [] → after ≡ opened ++ pairs_tokens list → after ≡ before ++ body_tokens b
object_written b v list before opened after is same begun wrote =
    wrote ∙ ap (λ (tokens : Json). tokens ++ pairs_tokens list) begun
    ∙ append_assoc before (begin_object ∷ []) (pairs_tokens list)
    ∙ ap (λ (xs : List (List ℕ × Body)). before ++ pairs (members xs)) same
    ∙ ap (λ (tokens : Json). before ++ tokens) (sym (tokens_of_pairs v))
    ∙ ap (λ (x : Body). before ++ body_tokens x) (sym is)

pub record_written : (b : Body) (v : Vec (List ℕ × Body) Global) (list : List (List ℕ × Body)) (before opened after : Json) → b ≡ Record v → list ≡ v.items
    → opened ≡ before ++ begin_object ∷ [] → after ≡ opened ++ pairs_tokens list → after ≡ before ++ body_tokens b
record_written b v list before opened after is same begun wrote =
    wrote ∙ ap (λ (tokens : Json). tokens ++ pairs_tokens list) begun
    ∙ append_assoc before (begin_object ∷ []) (pairs_tokens list)
    ∙ ap (λ (xs : List (List ℕ × Body)). before ++ pairs (members xs)) same
    ∙ ap (λ (tokens : Json). before ++ tokens) (sym (tokens_of_record v))
    ∙ ap (λ (x : Body). before ++ body_tokens x) (sym is)
