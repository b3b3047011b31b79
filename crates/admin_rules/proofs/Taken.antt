-- The changes of rows that are gone through one after the other.
use Rattle.std.proofs.Common.{◌≡◌, ℕ, ◌+◌, ◌<◌, ◌≤◌, Bool, true, false, cond, List, [], ◌∷◌, ◌++◌, length, get_or, take, map, filter, refl, sym, ap, ◌∙◌, append_assoc}
use Rattle.std.proofs.lemmas.List.{map-append, take_all, take_more}
use Rattle.hub_rows.specs.declared.changes.RowChange.{RowChange}
use Rattle.admin_rules.specs.Purges.{changes_of}

-- ---- the changes of the rows that are taken

module _ {X : Type 0} (takes : X → Bool) (change : X → RowChange) (row : X) (rest : List X) where
  whether_taken : (b : Bool) → map change (cond b (row ∷ filter takes rest) (filter takes rest)) ≡ map change (cond b (row ∷ []) []) ++ map change (filter takes rest)
  whether_taken true = refl
  whether_taken false = refl

  pub one_further : (rows : List X) (before after whole : List RowChange) → rows ≡ row ∷ rest → after ≡ before ++ changes_of takes change (row ∷ []) → before ++ changes_of takes change rows ≡ whole → after ++ changes_of takes change rest ≡ whole
  one_further rows before after whole are e h =
      ap (λ l. l ++ changes_of takes change rest) e
      ∙ append_assoc before (changes_of takes change (row ∷ [])) (changes_of takes change rest)
      ∙ ap (λ l. before ++ l) (sym (ap (changes_of takes change) are ∙ whether_taken (takes row)))
      ∙ h

-- ---- the removals of keys, one after the other

module _ {K : Type 0} (removal : K → RowChange) (keys : List K) (i : ℕ) where
  one_more_key : (key : K) → i < length keys → key ≡ get_or keys i key → map removal (take i keys) ++ removal key ∷ [] ≡ map removal (take (i + 1) keys)
  one_more_key key within at =
      ap (λ k. map removal (take i keys) ++ removal k ∷ []) at ∙ sym (ap (map removal) (take_more keys i key within) ∙ map-append removal (take i keys) (get_or keys i key ∷ []))

  pub removed_more : (key : K) → i < length keys → key ≡ get_or keys i key → (first before after : List RowChange) → before ≡ first ++ map removal (take i keys) → after ≡ before ++ removal key ∷ [] → after ≡ first ++ map removal (take (i + 1) keys)
  removed_more key within at first before after h more =
      more ∙ ap (λ l. l ++ removal key ∷ []) h ∙ append_assoc first (map removal (take i keys)) (removal key ∷ []) ∙ ap (λ l. first ++ l) (one_more_key key within at)

  pub removed_all : (found : List K) → keys ≡ found → length keys ≤ i → (first after : List RowChange) → after ≡ first ++ map removal (take i keys) → after ≡ first ++ map removal found
  removed_all found are over first after h = h ∙ ap (λ l. first ++ map removal l) (take_all i keys over ∙ are)
