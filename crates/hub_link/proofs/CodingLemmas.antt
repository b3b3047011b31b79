-- What one value more makes of the coding that values say.
use Rattle.std.proofs.Common.{◌≡◌, ℕ, Bool, true, false, if◌then◌else◌, List, [], ◌∷◌, ◌++◌, refl}
use Rattle.hub_link.specs.declared.codings.Coding.{Coding}
use Rattle.hub_link.specs.declared.codings.Coding.TheVariants as coding
use Rattle.hub_link.specs.Chunked.{coding_of, is_chunked}

one_says : (b : Bool) → coding.Nothing ≡ (if b then coding.Chunked else coding.Other) → ⊥
one_says true is = cc is
one_says false is = cc is

pub coding_first : (values : List (List ℕ)) (value : List ℕ) → coding.Nothing ≡ coding_of values → coding_of (value ∷ []) ≡ coding_of (values ++ value ∷ [])
coding_first [] value none = refl
coding_first (a ∷ []) value none = absurd (one_says (is_chunked a) none)
coding_first (a ∷ b ∷ more) value none = absurd (cc none)

pub coding_more : (values : List (List ℕ)) (value : List ℕ) (c : Coding) → c ≡ coding_of values → (c ≡ coding.Nothing → ⊥)
    → coding.Other ≡ coding_of (values ++ value ∷ [])
coding_more [] value c is some = absurd (some is)
coding_more (a ∷ []) value c is some = refl
coding_more (a ∷ b ∷ more) value c is some = refl
