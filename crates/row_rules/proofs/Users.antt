-- Users that are put from the last one on are those that are put from the first one on.
use Rattle.std.proofs.Common.{◌≡◌, ℕ, Bool, true, false, cond, List, [], ◌∷◌, Option, Some, None, refl, ap, sym, ◌∙◌}
use Rattle.std.specs.Option.{is_some}
use Rattle.std.specs.declared.cmp.Ordering.{Ordering}
use Rattle.std.specs.declared.cmp.Ordering.TheVariants.{Less, Equal, Greater}
use Rattle.std.specs.Cmp.Lexicographic.{nat_list_cmp_total}
use Rattle.std.specs.Ordering.{eq_by_cmp, is_eq}
use Rattle.std.specs.FinMap.{FinMap, get, insert, contains_key, empty, get-insert, get-empty, get_tied, same_map, slice_cmp-IsAntisymmetric, nat_cmp-IsAntisymmetric}
use Rattle.hub_kit.specs.KeyOrder.{name_cmp}
use Rattle.hub_rows.specs.declared.records.User.{User}
use Rattle.hub_rows.specs.declared.rows.Row.{Row}
use Rattle.hub_tables.specs.Changes.{with_row}
use Rattle.hub_tables.specs.State.{State}
use Rattle.row_rules.specs.Across.{rows_put}
use Rattle.row_rules.specs.Judged.{users_back}

abbrev Users : Type 0
Users = FinMap name_cmp User

abbrev no_users : Users
no_users = empty

-- from the first one on
put_user : Users → Row → Users
put_user users (Row.User u) = insert users u.name u
put_user users _ = users

put_users : Users → List Row → Users
put_users users [] = users
put_users users (row ∷ rows) = put_users (put_user users row) rows

of_row : (row : Row) (t : State) → (with_row row t).users ≡ put_user t.users row
unfolding put_user
of_row (Row.User u) t = refl
of_row row t = refl

of_rows : (rows : List Row) (t : State) → (rows_put rows t).users ≡ put_users t.users rows
unfolding put_users
of_rows [] t = refl
of_rows (row ∷ rows) t = of_rows rows (with_row row t) ∙ ap (λ u. put_users u rows) (of_row row t)

-- the first, or else the other
abbrev or_else : Option User → Option User → Option User
or_else (Some u) other = Some u
or_else None other = other

or_none : (a : Option User) → or_else a None ≡ a
or_none None = refl
or_none (Some u) = refl

or_grouped : (a b c : Option User) → or_else a (or_else b c) ≡ or_else (or_else a b) c
or_grouped None b c = refl
or_grouped (Some u) b c = refl

or_cond : (b : Bool) (u : User) (x : Option User) → cond b (Some u) x ≡ or_else (cond b (Some u) None) x
or_cond true u x = refl
or_cond false u x = refl

found : (users : Users) (u : User) (key : List ℕ) → get (insert users u.name u) key ≡ or_else (get (insert no_users u.name u) key) (get users key)
found users u key =
    get-insert nat_list_cmp_total users u.name u key ∙ or_cond (eq_by_cmp name_cmp key u.name) u (get users key)
    ∙ sym (ap (λ x. or_else x (get users key)) (get-insert nat_list_cmp_total no_users u.name u key ∙ ap (λ x. cond (eq_by_cmp name_cmp key u.name) (Some u) x) (get-empty name_cmp key)))

found_in : (rows : List Row) (users : Users) (key : List ℕ) → get (put_users users rows) key ≡ or_else (get (put_users no_users rows) key) (get users key)
unfolding put_users put_user
found_in [] users key = sym (ap (λ x. or_else x (get users key)) (get-empty name_cmp key))
found_in (Row.User u ∷ rows) users key =
    found_in rows (insert users u.name u) key
    ∙ ap (or_else (get (put_users no_users rows) key)) (found users u key)
    ∙ or_grouped (get (put_users no_users rows) key) (get (insert no_users u.name u) key) (get users key)
    ∙ ap (λ x. or_else x (get users key)) (sym (found_in rows (insert no_users u.name u) key))
found_in (row ∷ rows) users key = found_in rows users key

-- ---- from the last one on

some_of : (x : Option User) (u : User) → is_some x ≡ true → x ≡ or_else x (Some u)
some_of (Some v) u is = refl
some_of None u is = cc

none_of : (x : Option User) (u : User) → is_some x ≡ false → Some u ≡ or_else x (Some u)
none_of None u is = refl
none_of (Some v) u is = cc

kept_first : (there : Bool) (users : Users) (u : User) (key : List ℕ) → contains_key users u.name ≡ there → (same : Ordering) → name_cmp key u.name ≡ same
    → get (cond there users (insert users u.name u)) key ≡ or_else (get users key) (cond (is_eq same) (Some u) None)
kept_first true users u key is Equal same = some_of (get users key) u (sym (ap is_some (get_tied nat_list_cmp_total users key u.name same)) ∙ is)
kept_first true users u key is Less same = sym (or_none (get users key))
kept_first true users u key is Greater same = sym (or_none (get users key))
kept_first false users u key is Equal same = get-insert nat_list_cmp_total users u.name u key ∙ ap (λ o. cond (is_eq o) (Some u) (get users key)) same
    ∙ none_of (get users key) u (sym (ap is_some (get_tied nat_list_cmp_total users key u.name same)) ∙ is)
kept_first false users u key is Less same = get-insert nat_list_cmp_total users u.name u key ∙ ap (λ o. cond (is_eq o) (Some u) (get users key)) same ∙ sym (or_none (get users key))
kept_first false users u key is Greater same = get-insert nat_list_cmp_total users u.name u key ∙ ap (λ o. cond (is_eq o) (Some u) (get users key)) same ∙ sym (or_none (get users key))

same_users : (rows : List Row) (key : List ℕ) → get (users_back rows no_users) key ≡ get (put_users no_users rows) key
unfolding put_users put_user
same_users [] key = refl
same_users (Row.User u ∷ rows) key =
    kept_first (contains_key (users_back rows no_users) u.name) (users_back rows no_users) u key refl (name_cmp key u.name) refl
    ∙ ap (λ x. or_else x (cond (eq_by_cmp name_cmp key u.name) (Some u) None)) (same_users rows key)
    ∙ ap (or_else (get (put_users no_users rows) key))
    (sym (get-insert nat_list_cmp_total no_users u.name u key ∙ ap (λ x. cond (eq_by_cmp name_cmp key u.name) (Some u) x) (get-empty name_cmp key)))
    ∙ sym (found_in rows (insert no_users u.name u) key)
same_users (row ∷ rows) key = same_users rows key

pub all_users : (rows : List Row) (t : State) → t.users ≡ empty → users_back rows t.users ≡ (rows_put rows t).users
all_users rows t bare =
    ap (users_back rows) bare
    ∙ same_map nat_list_cmp_total (slice_cmp-IsAntisymmetric nat_cmp-IsAntisymmetric) (users_back rows no_users) (put_users no_users rows) (same_users rows)
    ∙ ap (λ u. put_users u rows) (sym bare) ∙ sym (of_rows rows t)
