-- Where a scope has to be put among scopes in the order of their texts.
use Rattle.std.proofs.Common.{◌≡◌, ℕ, ◌+◌, ◌<◌, ◌≤◌, List, [], ◌∷◌, ◌++◌, length, get_or, take, drop, append_assoc, sym, ap, ◌∙◌}
use Rattle.std.proofs.lemmas.List.{drop_all, drop_more, take_more, take-append-drop}
use Rattle.std.specs.Prelude.{Some, None}
use Rattle.std.specs.declared.cmp.Ordering.{Ordering}
use Rattle.std.specs.declared.cmp.Ordering.TheVariants.{Less, Equal, Greater}
use Rattle.keyed_rows.specs.Sorted.{placed, with_key}
use Rattle.scope_filters.specs.declared.scope.RawScope.{RawScope}
use Rattle.hub_rows.specs.SharedScopes.{scope_cmp, placed_at}

-- the scopes before a place, and the scope put into those from there on
abbrev pub put_from : RawScope → List RawScope → ℕ → List RawScope
put_from x scopes i = take i scopes ++ with_key scope_cmp x (drop i scopes)

module _ (x : RawScope) (scopes : List RawScope) (i : ℕ) (so_far : put_from x scopes i ≡ with_key scope_cmp x scopes) where
  module _ (m : RawScope) (at : m ≡ get_or scopes i m) (within : i < length scopes) where
    here : drop i scopes ≡ m ∷ drop (i + 1) scopes
    here = drop_more scopes i m within ∙ ap (λ k. k ∷ drop (i + 1) scopes) (sym at)

    judged : (r : Ordering) → scope_cmp x m ≡ r → take i scopes ++ placed r x m (drop (i + 1) scopes) (with_key scope_cmp x (drop (i + 1) scopes)) ≡ with_key scope_cmp x scopes
    judged r e =
        ap (λ r. take i scopes ++ placed r x m (drop (i + 1) scopes) (with_key scope_cmp x (drop (i + 1) scopes))) (sym e)
        ∙ sym (ap (λ ms. take i scopes ++ with_key scope_cmp x ms) here) ∙ so_far

    pub less : scope_cmp x m ≡ Less → placed_at (Some i) x scopes ≡ with_key scope_cmp x scopes
    less e = ap (λ ms. take i scopes ++ x ∷ ms) here ∙ judged Less e

    pub equal : scope_cmp x m ≡ Equal → placed_at None x scopes ≡ with_key scope_cmp x scopes
    equal e = sym (take-append-drop i scopes) ∙ ap (λ ms. take i scopes ++ ms) here ∙ judged Equal e

    pub greater : scope_cmp x m ≡ Greater → put_from x scopes (i + 1) ≡ with_key scope_cmp x scopes
    greater e =
        ap (λ l. l ++ with_key scope_cmp x (drop (i + 1) scopes)) (take_more scopes i m within ∙ ap (λ k. take i scopes ++ k ∷ []) (sym at))
        ∙ append_assoc (take i scopes) (m ∷ []) (with_key scope_cmp x (drop (i + 1) scopes)) ∙ judged Greater e

  pub over : length scopes ≤ i → placed_at (Some i) x scopes ≡ with_key scope_cmp x scopes
  over past =
      ap (λ ms. take i scopes ++ x ∷ ms) (drop_all i scopes past) ∙ sym (ap (λ ms. take i scopes ++ with_key scope_cmp x ms) (drop_all i scopes past)) ∙ so_far
