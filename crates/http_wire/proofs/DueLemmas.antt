-- What a head can't say of its body.
use Rattle.std.proofs.Common.{◌≡◌, ℕ, Bool, true, false, nat_le, if◌then◌else◌, List, Option, Some, None, Result, Ok, Err}
use Rattle.http_wire.specs.Due.{due, body_due, body_limit, length_said, seen_said, has_coding}
use Rattle.http_wire.specs.declared.decimal.Decimal.{Decimal}
use Rattle.http_wire.specs.declared.decimal.Decimal.TheVariants.{Number, Past, Other}
use Rattle.http_wire.specs.declared.error.WireError.{WireError}
use Rattle.http_wire.specs.declared.error.WireError.TheVariants.{TooLarge, Ended}
use Rattle.http_wire.specs.declared.head.Header.{Header}

abbrev Due : Type 0
Due = Result ℕ WireError

abbrev an_end : Due
an_end = Err Ended

size_not_ended : (b : Bool) (n : ℕ) (d : Due) → d ≡ (if b then Ok n else Err (TooLarge n)) → d ≡ an_end → ⊥
size_not_ended true n d is e = cc
size_not_ended false n d is e = cc

due_not_ended : (said seen : Option Decimal) (coding : Bool) (d : Due) → d ≡ due said seen coding → d ≡ an_end → ⊥
due_not_ended (Some Other) seen coding d is e = cc
due_not_ended (Some Past) None true d is e = cc
due_not_ended (Some Past) None false d is e = cc
due_not_ended (Some Past) (Some (Number m)) true d is e = cc
due_not_ended (Some Past) (Some (Number m)) false d is e = cc
due_not_ended (Some Past) (Some Past) coding d is e = cc
due_not_ended (Some Past) (Some Other) coding d is e = cc
due_not_ended (Some (Number n)) None true d is e = cc
due_not_ended (Some (Number n)) None false d is e = size_not_ended (nat_le n body_limit) n d is e
due_not_ended (Some (Number n)) (Some (Number m)) true d is e = cc
due_not_ended (Some (Number n)) (Some (Number m)) false d is e = size_not_ended (nat_le n body_limit) n d is e
due_not_ended (Some (Number n)) (Some Past) coding d is e = cc
due_not_ended (Some (Number n)) (Some Other) coding d is e = cc
due_not_ended None None true d is e = cc
due_not_ended None None false d is e = cc
due_not_ended None (Some (Number m)) true d is e = cc
due_not_ended None (Some (Number m)) false d is e = cc
due_not_ended None (Some Past) coding d is e = cc
due_not_ended None (Some Other) coding d is e = cc

-- no head refuses its body by an end of the input
pub body_due_not_ended : (headers : List Header) (d : Result ℕ WireError) → d ≡ body_due headers → d ≡ Err Ended → ⊥
body_due_not_ended headers d is e = due_not_ended (length_said headers) (seen_said headers) (has_coding headers) d is e
