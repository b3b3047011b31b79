-- What stands at the front of a text, and what stands behind it.
use Rattle.std.proofs.Common.{◌≡◌, ◌≢◌, Bor, ℕ, suc, ◌+◌, ◌*◌, ◌/◌, ◌%◌, ◌<◌, Bool, true, false, cond, not, ◌==◌, ◌||◌, List, [], ◌∷◌, ◌++◌, length, take, drop, get_or, map, position, codes, Option, Some, None, Ok, decimal, refl, sym, ap, subst, ◌∙◌, arith, append_assoc, append-nil, length-append}
use Rattle.std.specs.Option.{MatchOption, IfSome}
use Rattle.std.specs.List.{position_or_len, AllByRecursion}
use Rattle.std.proofs.lemmas.Bool.{or_parts, eqb-false, ltb-false}
use Rattle.std.proofs.lemmas.Fmt.{decimal_step, decimal_digit}
use Rattle.std.proofs.lemmas.List.{take-append-drop, take_more, map-append}
use Rattle.json.specs.Print.{escape, quoted}
use Rattle.json.specs.Run.{is_stop}
use Rattle.json.proofs.Printed.Strings.{escape_byte_plain}
use Rattle.serde_json.specs.Written.{comma_if, compact_text, items_text}
use Rattle.hub_kit.specs.Names.{name_read, IsName}
use Rattle.scope_filters.specs.Scopes.{scope_read, scope_text}
use Rattle.scope_filters.specs.declared.scope.RawScope.{RawScope}
use Rattle.scope_filters.proofs.NameTexts.{name_only}
use Rattle.scope_filters.proofs.ScopeTexts.{scope_only}
use Rattle.key_texts.specs.KeyTexts.{IsScope}
use Rattle.record_texts.specs.Fields.{lines, strings}

pub front_is : (s p : List ℕ) (r : Option (Bor (List ℕ))) → MatchOption r ((rest : List ℕ) → s ≢ p ++ rest) (λ x. s ≡ p ++ x.now) → IfSome r (λ rest. s ≡ p ++ rest.now)
front_is s p None h = tt
front_is s p (Some x) h = h

-- ---- strings that need no escape

escape_first : (p : Bool) (x n : ℕ) (xs : List ℕ) → p ≡ is_stop x → escape (take n xs) ≡ take n xs → escape (take (cond (not p) (1 + n) 0) (x ∷ xs)) ≡ take (cond (not p) (1 + n) 0) (x ∷ xs)
escape_first true x n xs e h = refl
escape_first false x n xs e h =
    let next : suc n ≡ 1 + n = omega arith in
    let none = or_parts ((x == 34) || (x == 92)) _ (sym e) in
    let tests = or_parts (x == 34) _ none.0 in
    subst (λ k. escape (take k (x ∷ xs)) ≡ take k (x ∷ xs)) next (λ i. escape_byte_plain x (eqb-false x 34 tests.0) (eqb-false x 92 tests.1) (ltb-false x 32 none.1) i ++ h i)

escape_run : (xs : List ℕ) → escape (take (position_or_len is_stop xs) xs) ≡ take (position_or_len is_stop xs) xs
escape_run [] = refl
escape_run (x ∷ xs) = escape_first (is_stop x) x (position_or_len is_stop xs) xs refl (escape_run xs)

place_is : (found : Bool) (n at : ℕ) → cond found (Some n) None ≡ Some at → n ≡ at
place_is true n at h = cc
place_is false n at h = cc

-- a string whose first byte that isn't plain is the quotation mark behind it
pub string_cut : (inside : List ℕ) (end : ℕ) → position is_stop inside ≡ Some end → end < length inside → get_or inside end 0 ≡ 34
    → 34 ∷ inside ≡ quoted (take end inside) ++ drop (end + 1) inside
string_cut inside end h lt mark =
    let same : position_or_len is_stop inside ≡ end = place_is _ _ end h in
    let plain : escape (take end inside) ≡ take end inside = subst (λ k. escape (take k inside) ≡ take k inside) same (escape_run inside) in
    let front : take (end + 1) inside ≡ escape (take end inside) ++ 34 ∷ [] = take_more inside end 0 lt ∙ (λ i. sym plain i ++ mark i ∷ []) in
    ap (λ s. 34 ∷ s) (sym (take-append-drop (end + 1) inside) ∙ ap (λ s. s ++ drop (end + 1) inside) front)

-- ---- numbers

pub decimal_one : (text : List ℕ) (digit : ℕ) → 0 < length text → digit < 10 → get_or text 0 0 ≡ 48 + digit → decimal digit ≡ take 1 text
decimal_one text digit some below is = decimal_digit digit below ∙ ap (λ b. b ∷ []) (sym is) ∙ sym (take_more text 0 0 some)

pub decimal_more : (text : List ℕ) (at number digit : ℕ) → at < length text → 0 < number → number < 1000000000000000000 → digit < 10 → get_or text at 0 ≡ 48 + digit
    → decimal number ≡ take at text → decimal (number * 10 + digit) ≡ take (at + 1) text
decimal_more text at number digit lt some small below is front =
    let more = number * 10 + digit in
    let before : more / 10 ≡ number = omega arith in
    let last : more % 10 ≡ digit = omega arith in
    decimal_step more (omega arith) (omega arith) ∙ (λ i. decimal (before i) ++ (48 + last i) ∷ []) ∙ (λ i. front i ++ sym is i ∷ []) ∙ sym (take_more text at 0 lt)

pub number_cut : (text : List ℕ) (at number : ℕ) → decimal number ≡ take at text → text ≡ decimal number ++ drop at text
number_cut text at number front = sym (take-append-drop at text) ∙ ap (λ s. s ++ drop at text) (sym front)

-- ---- what a text was read as

pub name_is : (bytes name : List ℕ) → name_read bytes ≡ Ok name → (bytes ≡ name) × IsName name
name_is bytes name h = let same = name_only bytes name h in (same, subst (λ b. name_read b ≡ Ok name) same h)

pub scope_is : (text : List ℕ) (scope : RawScope) → scope_read text ≡ Ok scope → (text ≡ scope_text scope) × IsScope scope
scope_is text scope h = let same = scope_only scope text h in (same, subst (λ t. scope_read t ≡ Ok scope) same h)

-- ---- a list of scopes that is the last member of an object

-- the list goes on with what is left of the text
abbrev pub GoesOn : List ℕ → Bool → List RawScope → List ℕ → Type 0
GoesOn text later scopes rest = (more : List (List ℕ)) (behind : List ℕ) → rest ≡ items_text later (strings more) ++ behind
    → text ≡ 91 ∷ (items_text false (strings (map scope_text scopes ++ more)) ++ behind)

-- what stands behind a scope and its comma is shorter
pub is_shorter : (later : Bool) (s text rest : List ℕ) → text ≡ comma_if later ++ (quoted s ++ rest) → length rest < length text
is_shorter true s text rest h = omega (arith, ap length h, length-append (escape s ++ 34 ∷ []) rest)
is_shorter false s text rest h = omega (arith, ap length h, length-append (escape s ++ 34 ∷ []) rest)

pub list_begins : (text rest : List ℕ) → text ≡ codes "[" ++ rest → GoesOn text false [] rest
list_begins text rest h more behind e = h ∙ ap (λ s. 91 ∷ s) e

one_more : (later : Bool) (s rest next behind : List ℕ) (more : List (List ℕ)) → rest ≡ comma_if later ++ (quoted s ++ next) → next ≡ items_text true (strings more) ++ behind
    → rest ≡ items_text later (strings (s ∷ more)) ++ behind
one_more later s rest next behind more h e =
    let items = items_text true (strings more) in
    h ∙ ap (λ t. comma_if later ++ (quoted s ++ t)) e
    ∙ sym (append_assoc (comma_if later) (quoted s ++ items) behind ∙ ap (λ t. comma_if later ++ t) (append_assoc (quoted s) items behind))

pub list_goes_on : (text : List ℕ) (later : Bool) (scopes : List RawScope) (rest : List ℕ) (scope : RawScope) (next : List ℕ) → GoesOn text later scopes rest
    → rest ≡ comma_if later ++ (quoted (scope_text scope) ++ next) → GoesOn text true (scopes ++ scope ∷ []) next
list_goes_on text later scopes rest scope next on h more behind e =
    let together : map scope_text scopes ++ scope_text scope ∷ more ≡ map scope_text (scopes ++ scope ∷ []) ++ more =
    sym (ap (λ l. l ++ more) (map-append scope_text scopes (scope ∷ [])) ∙ append_assoc (map scope_text scopes) (scope_text scope ∷ []) more) in
    on (scope_text scope ∷ more) behind (one_more later (scope_text scope) rest next behind more h e)
    ∙ ap (λ l. 91 ∷ (items_text false (strings l) ++ behind)) together

pub list_ends : (text : List ℕ) (later : Bool) (scopes : List RawScope) (rest : List ℕ) → GoesOn text later scopes rest → rest ≡ codes "]}"
    → text ≡ compact_text (lines scope_text scopes) ++ codes "}"
list_ends text later scopes rest on h =
    on [] (codes "}") h ∙ ap (λ l. 91 ∷ (items_text false (strings l) ++ codes "}")) (append-nil (map scope_text scopes))

pub scopes_more : (scopes : List RawScope) (scope : RawScope) → AllByRecursion IsScope scopes → IsScope scope → AllByRecursion IsScope (scopes ++ scope ∷ [])
scopes_more [] scope h one = (one, tt)
scopes_more (s ∷ scopes) scope h one = (h.0, scopes_more scopes scope h.1 one)
