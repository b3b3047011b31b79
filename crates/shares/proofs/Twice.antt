-- Keys that are put at their places twice stand there as after once, whatever list they are put in.
use Rattle.std.proofs.Common.{◌≡◌, ℕ, Bool, true, false, List, [], ◌∷◌, refl, sym, ap, ◌∙◌}
use Rattle.std.specs.Prelude.{Option, Some, None}
use Rattle.std.specs.List.{fold}
use Rattle.std.specs.Cmp.{IsTotalOrder, tied_itself}
use Rattle.std.specs.Ordering.{ordering_reverse}
use Rattle.std.specs.declared.cmp.Ordering.{Ordering}
use Rattle.std.specs.declared.cmp.Ordering.TheVariants.{Less, Equal, Greater}
use Rattle.keyed_rows.specs.Sorted.{placed, with_key}
use Rattle.scope_filters.specs.declared.scope.RawScope.{RawScope}
use Rattle.hub_rows.specs.declared.keys.ShareKey.{ShareKey}
use Rattle.hub_rows.specs.declared.records.Share.{Share}
use Rattle.hub_rows.specs.SharedScopes.{scope_cmp, with_scopes}
use Rattle.hub_rows.proofs.InOrder.{scope_total}
use Rattle.shares.specs.Granting.{granted}

false_true : false ≡ true → ⊥
false_true h = cc

abbrev reached : Ordering → Bool → Bool
reached Less rest = false
reached Equal rest = true
reached Greater rest = rest

module _ {K : Type 0} (R : K → K → Ordering) (o : IsTotalOrder R) where
  -- a put of the key would find it there
  abbrev found : K → List K → Bool
  found x [] = false
  found x (m ∷ ms) = reached (R x m) (found x ms)

  stays : (x : K) (l : List K) → found x l ≡ true → with_key R x l ≡ l
  stays x [] h = absurd (false_true h)
  stays x (m ∷ ms) h = by_order (R x m) h (stays x ms)
    where
      by_order : (r : Ordering) → reached r (found x ms) ≡ true → (found x ms ≡ true → with_key R x ms ≡ ms) → placed r x m ms (with_key R x ms) ≡ m ∷ ms
      by_order Less h f = absurd (false_true h)
      by_order Equal h f = refl
      by_order Greater h f = ap (λ l. m ∷ l) (f h)

  put_found : (x : K) (l : List K) → found x (with_key R x l) ≡ true
  put_found x [] = ap (λ r. reached r false) (tied_itself o x)
  put_found x (m ∷ ms) = by_order (R x m) refl (put_found x ms)
    where
      by_order : (r : Ordering) → R x m ≡ r → found x (with_key R x ms) ≡ true → found x (placed r x m ms (with_key R x ms)) ≡ true
      by_order Less e f = ap (λ r. reached r (found x (m ∷ ms))) (tied_itself o x)
      by_order Equal e f = ap (λ r. reached r (found x ms)) e
      by_order Greater e f = ap (λ r. reached r (found x (with_key R x ms))) e ∙ f

  -- a key that is at or after one that another is before comes after that other
  after : (x y m : K) (rest : Bool) (r : Ordering) → R x m ≡ r → R y m ≡ Less → reached r rest ≡ true → R x y ≡ Greater
  after x y m rest Less e less h = absurd (false_true h)
  after x y m rest Equal e less h = o.congr x m y e ∙ o.antisymm m y ∙ ap ordering_reverse less
  after x y m rest Greater e less h = o.antisymm x y ∙ ap ordering_reverse (o.trans y m x less (o.antisymm m x ∙ ap ordering_reverse e))

  still : (x y : K) (l : List K) → found x l ≡ true → found x (with_key R y l) ≡ true
  still x y [] h = absurd (false_true h)
  still x y (m ∷ ms) h = by_order (R y m) refl (still x y ms)
    where
      further : (r : Ordering) → reached r (found x ms) ≡ true → (found x ms ≡ true → found x (with_key R y ms) ≡ true) → reached r (found x (with_key R y ms)) ≡ true
      further Less h f = absurd (false_true h)
      further Equal h f = refl
      further Greater h f = f h

      by_order : (r : Ordering) → R y m ≡ r → (found x ms ≡ true → found x (with_key R y ms) ≡ true) → found x (placed r y m ms (with_key R y ms)) ≡ true
      by_order Less e f = ap (λ r. reached r (found x (m ∷ ms))) (after x y m (found x ms) (R x m) refl e h) ∙ h
      by_order Equal e f = h
      by_order Greater e f = further (R x m) h f

  abbrev puts : List K → List K → List K
  puts l more = fold (λ l k. with_key R k l) l more

  still_all : (x : K) (more l : List K) → found x l ≡ true → found x (puts l more) ≡ true
  still_all x [] l h = h
  still_all x (k ∷ ks) l h = still_all x ks (with_key R k l) (still x k l h)

  abbrev AllFound : List K → List K → Type 0
  AllFound [] l = Unit {0}
  AllFound (x ∷ xs) l = (found x l ≡ true) × AllFound xs l

  all_found : (xs l : List K) → AllFound xs (puts l xs)
  all_found [] l = tt
  all_found (x ∷ xs) l = (still_all x xs (with_key R x l) (put_found x l), all_found xs (with_key R x l))

  unchanged : (xs l : List K) → AllFound xs l → puts l xs ≡ l
  unchanged [] l h = refl
  unchanged (x ∷ xs) l h = ap (λ l. puts l xs) (stays x l h.0) ∙ unchanged xs l h.1

  twice : (xs l : List K) → puts (puts l xs) xs ≡ puts l xs
  twice xs l = unchanged xs (puts l xs) (all_found xs l)

pub granted_twice : (key : ShareKey) (scopes : List RawScope) (kept : Option Share) (now later : ℕ) → granted later key scopes (Some (granted now key scopes kept)) ≡ granted now key scopes kept
granted_twice key scopes None now later = ap (λ s. record { key = key; created = now; scopes = s }) (twice scope_cmp scope_total scopes [])
granted_twice key scopes (Some kept) now later = ap (λ s. record kept { scopes = s }) (twice scope_cmp scope_total scopes kept.scopes)
