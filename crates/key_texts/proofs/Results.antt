-- Answers that are the same, and those that can't be.
use Rattle.std.proofs.Common.{◌≡◌, Option, Some, None, Result, Ok, Err, sym, subst}
use Rattle.std.specs.Result.{IsErrAnd}
use Rattle.key_texts.specs.declared.unread.Unread.{Unread}
use Rattle.key_texts.specs.declared.unread.Unread.TheVariants.{Bad, Memory}
use Rattle.key_texts.specs.Finds.{Finds}

pub same_ok : {A E : Type 0} (a b : A) → ◌≡◌ {A = Result A E} (Ok a) (Ok b) → a ≡ b
same_ok a b e = cc

pub not_err : {A E : Type 0} (e : E) (a : A) → ◌≡◌ {A = Result A E} (Err e) (Ok a) → ⊥
not_err e a h = absurd cc

pub same_some : {A : Type 0} (a b : A) → Some a ≡ Some b → a ≡ b
same_some a b e = cc

pub not_none : {A : Type 0} (a : A) → None ≡ Some a → ⊥
not_none a h = absurd cc

-- what isn't there, isn't there for any
pub not_found : {X Y : Type 0} (e : Unread) (x : X) (y : Y) → Finds (Err e) x → Finds (Err e) y
not_found Bad x y h = h
not_found Memory x y h = tt

-- what failed for a part, fails for the whole
pub absent : {X Y : Type 0} (out : Result Y Unread) (e : Unread) (x : X) (y : Y) → IsErrAnd out (λ given. given ≡ e) → Finds (Err e) x → Finds out y
absent (Ok v) e x y h f = absurd h
absent (Err given) e x y h f = not_found given x y (subst (λ z. Finds (Err z) x) (sym h) f)
