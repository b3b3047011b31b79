-- The connections that a server serves one after the other.
use Rattle.std.specs.Prelude.{◌≡◌, ℕ, zero, suc, ◌+◌, List, [], ◌∷◌}

-- How many these are in all
abbrev pub sum_of : List ℕ → ℕ
sum_of [] = 0
sum_of (n ∷ ns) = n + sum_of ns

-- each that stands in the first list came by what stands at its own place of the second to what stands there in the third; what has no
-- place in the second is as it was
abbrev pub AreOf : {K X : Type 0} → (K → X → K → Type 0) → List K → List X → List K → Type 0
AreOf comes ks [] ks' = ks ≡ ks'
AreOf comes [] (x ∷ xs) ks' = ⊥
AreOf comes (k ∷ ks) (x ∷ xs) [] = ⊥
AreOf comes (k ∷ ks) (x ∷ xs) (k' ∷ ks') = comes k x k' × AreOf comes ks xs ks'

-- A connection with two sides of one (`are_sides`) was served (`served`): it found this server, and left that one
pub record IsServed {S I O : Type 0} (are_sides : I → O → Type 0) (served : S → I → O → S → I → O → Type 0) (old new : S) : Type 0 where
  pub input : I
  pub output : O
  pub input_after : I
  pub output_after : O
  pub sides : are_sides input output
  pub is : served old input output new input_after output_after

module _ {S I O : Type 0} (are_sides : I → O → Type 0) (served : S → I → O → S → I → O → Type 0) where
  -- So many connections were served one after the other, each by the server as the one before it had left it
  abbrev pub IsShift : S → ℕ → S → Type 0
  IsShift old zero new = old ≡ new
  IsShift old (suc n) new = (between : S) × IsShift old n between × IsServed are_sides served between new

  -- So many connections in all were served by these servers, each server's own one after the other; and these are left
  pub record AreServed (old : List S) (count : ℕ) (new : List S) : Type 0 where
    pub counts : List ℕ
    pub sum : sum_of counts ≡ count
    pub each : AreOf IsShift old counts new
