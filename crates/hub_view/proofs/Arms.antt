-- What each arm of a choice comes to.
use Rattle.std.proofs.Common.{◌≡◌, ℕ, Bool, true, false, ◌||◌, not, if◌then◌else◌, true≢false, refl, List, ◌∙◌, ap, sym, subst, Option, Some, None, Result, Ok}
use Rattle.std.specs.Prelude.{IfOk}
use Rattle.hub_view.specs.Json.{Json, maybe}
use Rattle.hub_view.specs.Body.{body_tokens}
use Rattle.hub_view.specs.Pages.{page_at}
use Rattle.hub_view.specs.declared.body.Body.{Body}
use Rattle.hub_view.specs.declared.body.Body.TheVariants.{Null}
use Rattle.hub_view.specs.declared.pages.Page.{Page}
use Rattle.hub_view.proofs.Chains.{retold}
use Rattle.hub_view.proofs.Tokens.{tokens_of_null}

pub either : (a b c : Bool) → c ≡ a → a ≡ true → c ≡ (a || b)
either a b c e t = e ∙ t ∙ ap (λ (x : Bool). x || b) (sym t)

pub other : (a b c : Bool) → c ≡ b → a ≡ false → c ≡ (a || b)
other a b c e f = e ∙ ap (λ (x : Bool). x || b) (sym f)

pub next_made : {E : Type 0} (next made : Result Body E) (path : List ℕ) (p : Page) (found due : Option ℕ) (n : ℕ)
    → next ≡ made → IfOk made (λ b. body_tokens b ≡ page_at path p n) → found ≡ due → found ≡ Some n
    → IfOk next (λ b. body_tokens b ≡ maybe (page_at path p) due)
next_made {E} next made path p found due n e h f s =
    subst (λ (r : Result Body E). IfOk r (λ b. body_tokens b ≡ maybe (page_at path p) due)) (sym e)
    (retold made _ _ h (ap (maybe (page_at path p)) (sym s ∙ f)))

pub next_none : {E : Type 0} (next : Result Body E) (path : List ℕ) (p : Page) (found due : Option ℕ)
    → next ≡ Ok Null → found ≡ due → found ≡ None → IfOk next (λ b. body_tokens b ≡ maybe (page_at path p) due)
next_none {E} next path p found due e f s =
    subst (λ (r : Result Body E). IfOk r (λ b. body_tokens b ≡ maybe (page_at path p) due)) (sym e)
    (tokens_of_null ∙ ap (maybe (page_at path p)) (sym s ∙ f))

pub with_place : (paged : Bool) (whole part : Json) → not paged ≡ false → whole ≡ (if paged then whole else part)
with_place true whole part e = refl
with_place false whole part e = absurd (true≢false e)
