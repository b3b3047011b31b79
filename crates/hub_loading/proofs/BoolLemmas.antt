-- Two tests at once, and one turned round.
use Rattle.std.proofs.Common.{◌≡◌, ◌&&◌, Bool, true, false, not, refl}

pub both : (x y : Bool) → x ≡ true → y ≡ true → (x && y) ≡ true
both x y one two = rw one two

pub both_first : (x y : Bool) → (x && y) ≡ true → x ≡ true
both_first true y is = refl
both_first false y is = is

pub both_rest : (x y : Bool) → (x && y) ≡ true → y ≡ true
both_rest true y is = is
both_rest false y is = absurd (cc is)

pub off : (x : Bool) → not x ≡ true → x ≡ false
off true is = cc is
off false is = refl
