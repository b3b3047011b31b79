-- What is shown of users and groups once they are put.
use Rattle.std.proofs.Common.{◌≡◌, ℕ, List, [], ◌∷◌, refl, sym, ◌∙◌, ap}
use Rattle.std.specs.Prelude.{Some}
use Rattle.std.specs.Cmp.Lexicographic.{nat_list_cmp_total}
use Rattle.std.specs.FinMap.{FinMap, get, insert}
use Rattle.hub_kit.specs.KeyOrder.{name_cmp}
use Rattle.keyed_rows.proofs.Finite.{insert_same}
use Rattle.hub_rows.specs.ShareOrder.{names_exact}
use Rattle.hub_rows.specs.declared.changes.RowChange.{RowChange}
use Rattle.hub_rows.specs.declared.changes.RowChange.TheVariants.{Put}
use Rattle.hub_rows.specs.declared.rows.Row.TheVariants as Row
use Rattle.hub_view.specs.Fields.{Rights}
use Rattle.hub_machine.specs.State.{Hub}
use Rattle.hub_calls.specs.Calling.{after_rows}
use Rattle.hub_calls.specs.Facts.{body_of_user, user_at, body_of_group, group_at}
use Rattle.hub_calls.specs.Puts.{PutsUser, PutsGroup, user_put, group_put, with_put_user, with_put_group}

put_under : {X : Type 0} (m : FinMap name_cmp X) (key k : List ℕ) (x : X) → key ≡ k → get (insert m key x) k ≡ Some x
put_under m key k x e = ap (get (insert m key x)) (sym e) ∙ insert_same nat_list_cmp_total names_exact m key x

-- the user that the rows put, or the kept one
pub user_shown : (may : Rights) (s : Hub) (rows : List RowChange) (u : List ℕ) → PutsUser u rows
    → user_at may (after_rows rows s) u ≡ with_put_user may s u (user_put rows)
user_shown may s [] u h = refl
user_shown may s (Put (Row.User x) ∷ []) u h = ap (body_of_user may s) (put_under s.tables.users x.name u x h)
user_shown may s _ u h = absurd h

pub group_shown : (may : Rights) (s : Hub) (rows : List RowChange) (g : List ℕ) → PutsGroup g rows
    → group_at may (after_rows rows s) g ≡ with_put_group may s g (group_put rows)
group_shown may s [] g h = refl
group_shown may s (Put (Row.Group x) ∷ []) g h = ap (body_of_group may s) (put_under s.tables.groups x.name g x h)
group_shown may s _ g h = absurd h
