-- What is shown of new users once all of them are put.
use Rattle.std.proofs.Common.{◌≡◌, ℕ, Bool, List, [], ◌∷◌, map, refl, sym, ◌∙◌, ap, subst, inl, inr}
use Rattle.std.specs.Prelude.{Some, None, Ok, length}
use Rattle.std.specs.FinMap.{len}
use Rattle.admin_rules.specs.Rules as rules
use Rattle.admin_rules.specs.Users as users
use Rattle.std.specs.Cmp.Lexicographic.{nat_list_cmp_total}
use Rattle.std.specs.FinMap.{FinMap, get, insert}
use Rattle.hub_kit.specs.KeyOrder.{name_cmp}
use Rattle.keyed_rows.proofs.Finite.{insert_same, insert_other, same_or_apart}
use Rattle.hub_rows.specs.ShareOrder.{names_exact}
use Rattle.hub_tables.specs.State.{State}
use Rattle.hub_tables.specs.Changes.{rows_done, puts_of, removals_of}
use Rattle.hub_machine.specs.Apply.{change_done}
use Rattle.hub_rows.specs.declared.records.User.{User}
use Rattle.hub_rows.specs.declared.changes.RowChange.{RowChange}
use Rattle.admin_rules.specs.Users.{new_user, add_users, unkept_users}
use Rattle.hub_calls.proofs.Ruling.{ruled}
use Rattle.hub_view.specs.Json.{Json}
use Rattle.hub_view.specs.Fields.{Rights}
use Rattle.hub_machine.specs.State.{Hub}
use Rattle.hub_calls.specs.Calling.{after_rows}
use Rattle.hub_calls.specs.Facts.{body_of_user, user_at}
use Rattle.hub_calls.specs.Puts.{bodies_put}

-- a new user
abbrev made : Bool → ℕ → List ℕ → User
made admin now u = record { name = u; admin = admin; created = now; last_activity = None }

abbrev added : Bool → ℕ → List (List ℕ) → FinMap name_cmp User → FinMap name_cmp User
added admin now [] m = m
added admin now (u ∷ us) m = added admin now us (insert m u (made admin now u))

-- rows of new users change nothing else
rows_added : (admin : Bool) (now : ℕ) (us : List (List ℕ)) (t : State) → rows_done (map (new_user admin now) us) t ≡ record t { users = added admin now us t.users }
rows_added admin now [] t = refl
rows_added admin now (u ∷ us) t = rows_added admin now us (record t { users = insert t.users u (made admin now u) })

puts_added : (admin : Bool) (now : ℕ) (us : List (List ℕ)) → puts_of (map (new_user admin now) us) ≡ map (new_user admin now) us
puts_added admin now [] = refl
puts_added admin now (u ∷ us) = ap (λ (r : List RowChange). new_user admin now u ∷ r) (puts_added admin now us)

no_removals : (admin : Bool) (now : ℕ) (us : List (List ℕ)) → removals_of (map (new_user admin now) us) ≡ []
no_removals admin now [] = refl
no_removals admin now (u ∷ us) = no_removals admin now us

change_added : (admin : Bool) (now : ℕ) (us : List (List ℕ)) (t : State) → change_done (map (new_user admin now) us) t ≡ record t { users = added admin now us t.users }
change_added admin now us t =
    ap (λ (r : List RowChange). rows_done r (rows_done (puts_of (map (new_user admin now) us)) t)) (no_removals admin now us)
    ∙ ap (λ (r : List RowChange). rows_done r t) (puts_added admin now us)
    ∙ rows_added admin now us t

-- a name that has its new user keeps it
keeps : (admin : Bool) (now : ℕ) (us : List (List ℕ)) (m : FinMap name_cmp User) (n : List ℕ) → get m n ≡ Some (made admin now n) → get (added admin now us m) n ≡ Some (made admin now n)
keeps admin now [] m n h = h
keeps admin now (u ∷ us) m n h =
    keeps admin now us (insert m u (made admin now u)) n
    (elim (same_or_apart nat_list_cmp_total names_exact n u) as (λ _. get (insert m u (made admin now u)) n ≡ Some (made admin now n)) [
      | inl here ↦ ap (get (insert m u (made admin now u))) here ∙ insert_same nat_list_cmp_total names_exact m u (made admin now u) ∙ ap (λ k. Some (made admin now k)) (sym here)
      | inr apart ↦ insert_other nat_list_cmp_total names_exact m u (made admin now u) n apart ∙ h
    ])

-- each name has its new user
abbrev Have : Bool → ℕ → FinMap name_cmp User → List (List ℕ) → Type 0
Have admin now M [] = Unit {0}
Have admin now M (u ∷ us) = (get M u ≡ Some (made admin now u)) × Have admin now M us

have : (admin : Bool) (now : ℕ) (us : List (List ℕ)) (m : FinMap name_cmp User) → Have admin now (added admin now us m) us
have admin now [] m = tt
have admin now (u ∷ us) m = (
  keeps admin now us (insert m u (made admin now u)) u (insert_same nat_list_cmp_total names_exact m u (made admin now u)),
  have admin now us (insert m u (made admin now u)),
)

shown : (may : Rights) (s : Hub) (admin : Bool) (now : ℕ) (M : FinMap name_cmp User) (us : List (List ℕ)) → Have admin now M us
    → map (λ n. body_of_user may s (get M n)) us ≡ bodies_put may s (map (new_user admin now) us)
shown may s admin now M [] there = refl
shown may s admin now M (u ∷ us) there = λ i. body_of_user may s (there.0 i) ∷ shown may s admin now M us there.1 i

abbrev bodies_in : Rights → Hub → State → List (List ℕ) → List Json
bodies_in may s t us = map (user_at may (record s { tables = t })) us

pub users_shown : (may : Rights) (s : Hub) (admin : Bool) (now : ℕ) (us : List (List ℕ))
    → map (user_at may (after_rows (map (new_user admin now) us) s)) us ≡ bodies_put may s (map (new_user admin now) us)
users_shown may s admin now [] = refl
users_shown may s admin now (u ∷ us) =
    ap (λ (t : State). bodies_in may s t (u ∷ us)) (change_added admin now (u ∷ us) s.tables)
    ∙ shown may s admin now (added admin now (u ∷ us) s.tables.users) (u ∷ us) (have admin now (u ∷ us) s.tables.users)

-- what is shown of the rows that the rules made of these names
pub shown_when_added : (may : Rights) (s : Hub) (admin : Bool) (now : ℕ) (names : List (List ℕ)) (rows : List RowChange)
    → add_users s.tables names admin now ≡ Ok rows → bodies_put may s rows ≡ map (user_at may (after_rows rows s)) (unkept_users s.tables names)
shown_when_added may s admin now names rows e =
    let new : List (List ℕ) = unkept_users s.tables names in
    let P : List RowChange → Type 0 = λ r. bodies_put may s r ≡ map (user_at may (after_rows r s)) new in
    subst P (ruled (users.if_none_new new names ∷ rules.if_full 1 s.tables.limits.users (len s.tables.users) (length new) ∷ []) (map (new_user admin now) new) rows e) (sym (users_shown may s admin now new))
