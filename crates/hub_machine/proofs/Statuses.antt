-- Which answers are said by a 503: none that the rules give, since that status is for a keeper's refusal alone.
use Rattle.std.proofs.Common.{◌≡◌, ◌==◌, Bool, true, false, [], ◌∷◌, List, Option}
use Rattle.hub_rows.specs.declared.changes.RowChange.{RowChange}
use Rattle.hub_machine.specs.Replies.{Answer, refuses, refuses_with, gives, changes, works, Good, rows_then, status_of, rules, if_so}
use Rattle.hub_machine.specs.declared.refusal.Refusal.{Refusal}

abbrev pub is_503 : Answer → Bool
is_503 (refuses r) = status_of r == 503
is_503 (refuses_with c r) = status_of r == 503
is_503 (gives g) = g.status == 503
is_503 (changes c g) = g.status == 503
is_503 (works c w) = false

pub no_rows : (rows : List RowChange) (g : Good) → (g.status == 503) ≡ false → is_503 (rows_then rows g) ≡ false
no_rows [] g h = h
no_rows (r ∷ rest) g h = h

-- one rule more in front of others
pub no_rule : (b : Bool) (x : Refusal) (rest : List (Option Refusal)) (r : Answer) → (status_of x == 503) ≡ false → is_503 (rules rest r) ≡ false
    → is_503 (rules (if_so b x ∷ rest) r) ≡ false
no_rule true x rest r h k = h
no_rule false x rest r h k = k
