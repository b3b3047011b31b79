use Rattle.std.proofs.Common.{◌≡◌, ℕ, ◌+◌, ◌-◌, ◌<◌, List, ◌∷◌, length, drop, get_or, sym, ap, ◌∙◌, arith}
use Rattle.std.proofs.lemmas.List.{drop_all, drop_more}
use Rattle.std.specs.FinMap.{FinMap}
use Rattle.hub_kit.specs.KeyOrder.{name_cmp}
use Rattle.hub_rows.specs.declared.records.User.{User}
use Rattle.hub_rows.specs.declared.rows.Row.{Row}
use Rattle.hub_tables.specs.State.{State}
use Rattle.row_rules.specs.Judged.{with_user, users_back}
use Rattle.row_rules.proofs.put.put_users.Goals as goal

one_more : (rows : List Row) (left n : ℕ) (row : Row) (users : FinMap name_cmp User) → n + 1 ≡ left → n < length rows → row ≡ get_or rows n row
    → with_user row (users_back (drop left rows) users) ≡ users_back (drop n rows) users
one_more rows left n row users next within here =
    sym (ap (λ xs. users_back xs users) (drop_more rows n row within ∙ ap (λ r. r ∷ drop (n + 1) rows) (sym here) ∙ ap (λ m. row ∷ drop m rows) next))

pub users-init : goal.users-init
users-init c =
    let t = c.args.tables.now in
    let rows = c.args.rows.now in (
      omega arith,
      ap (λ u. record t { users = u }) (sym (ap (λ xs. users_back xs t.users) (drop_all (length rows) rows (omega arith)))),
    )

pub users-preserved : goal.users-preserved
users-preserved c =
    let t = c.args.tables.now in
    let rows = c.args.rows.now in
    let at = c.users in
    let row = c.index-rows-left.result in
    let some : 0 < at.left = c.users-test.true in
    let few = at.invariant.0 in (
      omega arith,
      c.in_ok-put_user.ensures ∙ ap (λ (s : State). record s { users = with_user row s.users }) at.invariant.1
          ∙ ap (λ u. record t { users = u }) (one_more rows at.left (at.left - 1) row t.users (omega arith) (omega arith) c.index-rows-left.is),
    )

pub returns : goal.returns
returns c =
    let t = c.args.tables.now in
    let none : c.users.left ≡ 0 = omega arith in
    c.users.invariant.1 ∙ ap (λ n. record t { users = users_back (drop n c.args.rows.now) t.users }) none
