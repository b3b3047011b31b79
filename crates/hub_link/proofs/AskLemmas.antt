-- How the asks of a link follow one another.
use Rattle.std.proofs.Common.{◌≡◌, ℕ, List, [], ◌∷◌, ◌++◌, map, Option, Result, refl, sym, subst, ◌∙◌}
use Rattle.std.proofs.lemmas.List.{map-append}
use Rattle.hub_devices.specs.declared.link_error.LinkError.{LinkError}
use Rattle.hub_devices.specs.Calls.{Grows}
use Rattle.hub_devices.proofs.CallLemmas.{Grows_none, Grows_then}
use Rattle.hub_link.specs.Links.{Exchange, reply_of, told_of, Chain, Asks}

module _ {L : Type 0} (asked : L → Option (List (List ℕ × Option (List ℕ)))) (does : L → List ℕ → Result (List ℕ) LinkError → L → Type 0) where
  -- nothing was asked
  pub no_ask : (link : L) → Asks asked does link [] link
  no_ask link = record { meets = refl; tells = Grows_none (asked link) }

  -- one ask
  pub one_ask : (old new : L) (said request : List ℕ) (given : Result (List ℕ) LinkError) → said ≡ request → does old said given new
      → Grows (asked old) ((said, reply_of given) ∷ []) (asked new) → Asks asked does old ((request, given) ∷ []) new
  one_ask old new said request given is met told =
      subst (λ (r : List ℕ). Asks asked does old ((r, given) ∷ []) new) is (record { meets = (new, met, refl); tells = told })

  Chain_then : (old between new : L) (xs ys : List Exchange) → Chain does old xs between → Chain does between ys new → Chain does old (xs ++ ys) new
  Chain_then old between new [] ys is two = subst (λ (l : L). Chain does l ys new) is two
  Chain_then old between new (x ∷ xs) ys (next, one, more) two = (next, one, Chain_then next between new xs ys more two)

  -- some asks and then others
  pub asks_then : (old between new : L) (xs ys : List Exchange) → Asks asked does old xs between → Asks asked does between ys new → Asks asked does old (xs ++ ys) new
  asks_then old between new xs ys one two = record {
    meets = Chain_then old between new xs ys one.meets two.meets;
    tells = subst (λ (more : List (List ℕ × Option (List ℕ))). Grows (asked old) more (asked new)) (sym (map-append told_of xs ys))
        (Grows_then (asked old) (asked between) (asked new) (map told_of xs) (map told_of ys) one.tells two.tells);
  }
