-- Calls that answer by the rules.
use Rattle.std.proofs.Common.{◌≡◌, ℕ, Bool, true, false, not, cond, List, [], ◌∷◌, map, length, Option, refl, sym, ◌∙◌, ap, subst}
use Rattle.std.specs.Prelude.{Some, None, Ok, Err, Result, IfOk}
use Rattle.std.specs.declared.vec.Vec.{Vec}
use Rattle.std.specs.declared.alloc.Global.{Global}
use Rattle.std.specs.FinMap.{get, contains_key, len}
use Rattle.keyed_rows.specs.Sorted.{in_order, with_keys, without_keys}
use Rattle.admin_rules.specs.declared.refusals.RuleRefusal.TheVariants.{Exists}
use Rattle.hub_kit.specs.KeyOrder.{name_cmp}
use Rattle.hub_tables.specs.State.{State}
use Rattle.hub_rows.specs.declared.records.User.{User}
use Rattle.hub_rows.specs.declared.records.Group.{Group}
use Rattle.hub_rows.specs.declared.changes.RowChange.{RowChange}
use Rattle.hub_rows.specs.declared.changes.RowChange.TheVariants.{Put}
use Rattle.hub_rows.specs.declared.rows.Row.TheVariants as Row
use Rattle.admin_rules.specs.declared.refusals.RuleRefusal.{RuleRefusal}
use Rattle.admin_rules.specs.Rules as rules
use Rattle.admin_rules.specs.Users as users
use Rattle.admin_rules.specs.Groups as groups
use Rattle.admin_rules.specs.Services as services
use Rattle.hub_view.specs.Fields.{Rights}
use Rattle.hub_calls.specs.Facts.{service_body}
use Rattle.hub_machine.specs.State.{Hub}
use Rattle.hub_machine.specs.Replies.{Good, rows_then}
use Rattle.hub_calls.specs.Calling.{after_rows, by_rules}
use Rattle.hub_calls.specs.Puts.{PutsUser, PutsGroup}

-- the Ok of the rules
pub ok_rows : (s : Hub) (answer : rules.Answer) (rows : List RowChange) (reply : Hub → Good) (g : Good)
    → answer ≡ Ok rows → g ≡ reply (after_rows rows s) → rows_then rows g ≡ by_rules s answer reply
ok_rows s answer rows reply g e h = ap (rows_then rows) h ∙ sym (ap (λ (a : rules.Answer). by_rules s a reply) e)

same_ok : (x y : List RowChange) → (let a : rules.Answer = Ok x in let b : rules.Answer = Ok y in a ≡ b) → x ≡ y
same_ok x y e = cc

not_ok : (x : List RowChange) (r : RuleRefusal) → (let a : rules.Answer = Err r in let b : rules.Answer = Ok x in a ≡ b) → ⊥
not_ok x r e = cc

-- the rows that no rule refuses
pub ruled : (checks : List (Option RuleRefusal)) (made rows : List RowChange) → rules.by_rules checks made ≡ Ok rows → made ≡ rows
ruled [] made rows e = same_ok made rows e
ruled (None ∷ checks) made rows e = ruled checks made rows e
ruled (Some r ∷ checks) made rows e = absurd (not_ok rows r e)

-- ---- rows that put one user or group

puts_admin : (admin : Bool) (u : List ℕ) (kept : Option User) → ((x : User) → kept ≡ Some x → x.name ≡ u) → PutsUser u (users.with_admin admin kept)
puts_admin admin u None own = tt
puts_admin admin u (Some x) own =
    elim (users.same_bool x.admin admin) as (λ b. PutsUser u (cond b [] (Put (Row.User (record x { admin = admin })) ∷ []))) [ true ↦ tt | false ↦ own x refl ]

pub set_admin_puts : (t : State) (u : List ℕ) (admin : Bool) (rows : List RowChange)
    → ((x : User) → get t.users u ≡ Some x → x.name ≡ u) → users.set_admin t u admin ≡ Ok rows → PutsUser u rows
set_admin_puts t u admin rows own e =
    let P : List RowChange → Type 0 = λ r. PutsUser u r in
    subst P (same_ok _ _ e) (puts_admin admin u (get t.users u) own)

puts_new : (admin : Bool) (now : ℕ) (u : List ℕ) (kept : Bool) → PutsUser u (map (users.new_user admin now) (cond kept (u ∷ []) []))
puts_new admin now u true = refl
puts_new admin now u false = tt

pub add_user_puts : (t : State) (u : List ℕ) (admin : Bool) (now : ℕ) (rows : List RowChange)
    → users.add_users t (u ∷ []) admin now ≡ Ok rows → PutsUser u rows
add_user_puts t u admin now rows e =
    let P : List RowChange → Type 0 = λ r. PutsUser u r in
    let new : List (List ℕ) = users.unkept_users t (u ∷ []) in
    subst P (ruled (users.if_none_new new (u ∷ []) ∷ rules.if_full 1 t.limits.users (len t.users) (length new) ∷ []) (map (users.new_user admin now) new) rows e)
    (puts_new admin now u (not (contains_key t.users u)))

puts_members : (change : List (List ℕ) → List (List ℕ)) (g : List ℕ) (kept : Option Group) → ((x : Group) → kept ≡ Some x → x.name ≡ g) → PutsGroup g (groups.with_members change kept)
puts_members change g None own = tt
puts_members change g (Some x) own =
    elim (groups.same_names (change x.users) x.users) as (λ b. PutsGroup g (cond b [] (Put (Row.Group (record x { users = change x.users })) ∷ []))) [ true ↦ tt | false ↦ own x refl ]

members_put : (t : State) (g : List ℕ) (checks : List (Option RuleRefusal)) (change : List (List ℕ) → List (List ℕ)) (rows : List RowChange)
    → ((x : Group) → get t.groups g ≡ Some x → x.name ≡ g) → rules.by_rules checks (groups.with_members change (get t.groups g)) ≡ Ok rows → PutsGroup g rows
members_put t g checks change rows own e =
    let P : List RowChange → Type 0 = λ r. PutsGroup g r in
    subst P (ruled checks _ rows e) (puts_members change g (get t.groups g) own)

pub join_group_puts : (t : State) (g : List ℕ) (names : List (List ℕ)) (rows : List RowChange)
    → ((x : Group) → get t.groups g ≡ Some x → x.name ≡ g) → groups.join_group t g names ≡ Ok rows → PutsGroup g rows
join_group_puts t g names rows own e = members_put t g (groups.if_unknown_user t names ∷ []) (with_keys name_cmp names) rows own e

pub leave_group_puts : (t : State) (g : List ℕ) (names : List (List ℕ)) (rows : List RowChange)
    → ((x : Group) → get t.groups g ≡ Some x → x.name ≡ g) → groups.leave_group t g names ≡ Ok rows → PutsGroup g rows
leave_group_puts t g names rows own e = members_put t g (groups.if_unknown_user t names ∷ []) (without_keys name_cmp names) rows own e

pub add_group_puts : (t : State) (g : List ℕ) (names : List (List ℕ)) (rows : List RowChange) → groups.add_group t g names ≡ Ok rows → PutsGroup g rows
add_group_puts t g names rows e =
    let P : List RowChange → Type 0 = λ r. PutsGroup g r in
    let made : List RowChange = Put (Row.Group (record { name = g; users = in_order name_cmp names })) ∷ [] in
    subst P (ruled (rules.if_so (contains_key t.groups g) (Exists g) ∷ groups.if_unknown_user t names ∷ rules.if_full 2 t.limits.groups (len t.groups) 1 ∷ []) made rows e) refl

-- a new service changes nothing that its body shows
pub add_service_keeps : (may : Rights) (s : Hub) (v : List ℕ) (rows : List RowChange)
    → services.add_service s.tables v ≡ Ok rows → service_body may s v ≡ service_body may (after_rows rows s) v
add_service_keeps may s v rows e =
    let P : List RowChange → Type 0 = λ r. service_body may s v ≡ service_body may (after_rows r s) v in
    let made : List RowChange = Put (Row.Service (record { name = v })) ∷ [] in
    subst P (ruled (rules.if_so (contains_key s.tables.services v) (Exists v) ∷ rules.if_full 3 s.tables.limits.services (len s.tables.services) 1 ∷ []) made rows e) refl

-- what holds of the rows that an answer gives holds where a call says that answer
pub says_rows : (answer : rules.Answer) (r : Result (Vec RowChange Global) RuleRefusal) (P : List RowChange → Type 0)
    → ((rows : List RowChange) → answer ≡ Ok rows → P rows) → rules.Says answer r → IfOk r (λ v. P v.items)
says_rows answer (Ok v) P f h = f v.items h
says_rows answer (Err x) P f h = tt
