-- The first of names that isn't known.
use Rattle.std.proofs.Common.{◌≡◌, ◌∙◌, ◌<◌, ◌+◌, ℕ, Bool, true, false, not, ◌&&◌, if◌then◌else◌, List, [], ◌∷◌, ◌++◌, Option, Some, None, is_some, length, drop, get_or, add-one, drop-cons, suc, inr, refl, sym, ap, subst}
use Rattle.std.specs.List.{find, flat_map, list_all}
use Rattle.std.specs.Option.{option_or}
use Rattle.std.proofs.lemmas.List.Folds.{find-append}
use Rattle.keeper.specs.Rows.{Rows, Lists}
use Rattle.keeper.specs.declared.keeper.Row.{Row}
use Rattle.hub_opening.specs.declared.config.HubConfig.{HubConfig}
use Rattle.hub_main.specs.Known.{are_known, first_unknown, is_known, listed, names_of, unknown_name}
use Rattle.hub_main.specs.Opened.{AreNames}
use Rattle.hub_main.specs.declared.known_names.AnyName.{AnyName}
use Rattle.hub_main.specs.declared.known_names.Names.{Names}

pub unknown_of_both : (known : Names) (xs ys : List AnyName)
    → first_unknown known (xs ++ ys) ≡ option_or (first_unknown known xs) (first_unknown known ys)
unknown_of_both known xs ys = find-append (λ name. not (is_known known name)) xs ys

-- a row at a place, in a walk over rows
module _ {X : Type 0} (known : Names) (names : X → List AnyName) (rows : List X) (i : ℕ) (row : X) (below : i < length rows) where
  row_and_rest : first_unknown known (flat_map names (drop i rows))
      ≡ option_or (first_unknown known (names (get_or rows i row))) (first_unknown known (flat_map names (drop (i + 1) rows)))
  row_and_rest = rw (add-one, drop-cons rows i row) (unknown_of_both known (names (get_or rows i row)) (flat_map names (drop (suc i) rows)))

  pub from_the_row : (unknown : Option AnyName) → unknown ≡ first_unknown known (names row) → row ≡ get_or rows i row
      → first_unknown known (flat_map names (drop i rows)) ≡ option_or unknown (first_unknown known (flat_map names (drop (i + 1) rows)))
  from_the_row unknown is at = subst (λ (u : Option AnyName). first_unknown known (flat_map names (drop i rows)) ≡ option_or u (first_unknown known (flat_map names (drop (i + 1) rows)))) (sym is)
      (subst (λ (x : X). first_unknown known (flat_map names (drop i rows)) ≡ option_or (first_unknown known (names x)) (first_unknown known (flat_map names (drop (i + 1) rows)))) (sym at) row_and_rest)

-- none fails where all pass
module _ {X : Type 0} (p : X → Bool) where
  none_fails : (xs : List X) → is_some (find (λ x. not (p x)) xs) ≡ not (list_all p xs)
  none_fails [] = refl
  none_fails (x ∷ xs) = elim (p x) as (λ (b : Bool). is_some (if not b then Some x else find (λ y. not (p y)) xs) ≡ not (b && list_all p xs)) [
    | true ↦ none_fails xs
    | false ↦ refl
  ]

-- there is one where not all are known
pub unknown_where : (config : HubConfig) (kept : List Row) → is_some (unknown_name config kept) ≡ not (are_known config kept)
unknown_where config kept = none_fails (is_known (names_of config kept)) (listed config)

not_same : (a b : Bool) → not a ≡ not b → a ≡ b
not_same true true e = refl
not_same false false e = refl
not_same true false e = sym e
not_same false true e = sym e

pub all_or_one : (config : HubConfig) (kept : List Row) (unknown : Option AnyName) (all : Bool) → unknown ≡ unknown_name config kept
    → is_some unknown ≡ not all → all ≡ are_known config kept
all_or_one config kept unknown all is some =
    not_same all (are_known config kept) (sym some ∙ (ap (λ (u : Option AnyName). is_some u) is ∙ unknown_where config kept))

-- these rows are what a store has, if it tells them, and by them no name is unknown
pub names_by : (config : HubConfig) (Tells : Type 0) (has : Rows) (kept items : List Row) (unknown : Option AnyName) → items ≡ kept
    → (Tells → Lists has kept) → unknown ≡ unknown_name config items → unknown ≡ None → AreNames config Tells has
names_by config Tells has kept items unknown same lists is none = inr (
  kept,
  lists,
  sym (all_or_one config kept unknown true (is ∙ ap (unknown_name config) same) (ap (λ (u : Option AnyName). is_some u) none)),
)
