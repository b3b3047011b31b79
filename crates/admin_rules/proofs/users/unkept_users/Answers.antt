use Rattle.std.proofs.Common.{◌≡◌, ◌∙◌, ◌++◌, ◌∷◌, [], Bool, true, false, cond, not, List, ℕ, Bor, ap, sym}
use Rattle.std.specs.Prelude.{Option, Some, None}
use Rattle.std.specs.FinMap.{contains_key, get}
use Rattle.std.specs.Option.{is_some, option_copied}
use Rattle.admin_rules.proofs.Walked.{picked_more, picked_all}
use Rattle.admin_rules.proofs.users.unkept_users.Goals as goal
use Rattle.admin_rules.proofs.users.unkept_users.Goals.{then-is_none+in_ok-push, else-is_none}

-- what is looked for is kept exactly where the look-up finds it
none_kept : {X : Type 0} (found : Option (Bor X)) (kept : Option X) (none : Bool) → option_copied found ≡ kept → is_some found ≡ not none → not (is_some kept) ≡ none
none_kept None kept true e h = ap (λ o. not (is_some o)) (sym e)
none_kept None kept false e h = ap (λ o. not (is_some o)) (sym e) ∙ ap not h
none_kept (Some x) kept true e h = ap (λ o. not (is_some o)) (sym e) ∙ ap not h
none_kept (Some x) kept false e h = ap (λ o. not (is_some o)) (sym e)

pub loop-name-preserved : goal.loop-name-preserved
loop-name-preserved c =
    let name = c.name-item.result in
    let before = c.loop-name.new.items in
    let is_new = λ (name : List ℕ). not (contains_key c.args.tables.now.users name) in
    let test = none_kept c.user.result (get c.args.tables.now.users name) c.is_none.result c.user.ensures.value c.is_none.ensures in
    let more = λ (step : c.if-is_none.new.items ≡ cond c.is_none.result (before ++ name ∷ []) before). picked_more c.args.names.now c.loop-name.name-index name c.name-item.is c.loop-name-test.true is_new before c.if-is_none.new.items c.is_none.result test step c.loop-name.invariant in
    let grown = λ (b : Bool). cond b (before ++ name ∷ []) before in
    elim c.if-is_none.branch [
      | then-is_none+in_ok-push w ↦ more (ap (λ new. new.items) w.new-is ∙ w.in_ok-push.ensures.items ∙ ap grown (sym w.if-is_none.true))
      | else-is_none w ↦ more (ap (λ new. new.items) w.new-is ∙ ap grown (sym w.if-is_none.false))
    ]

pub returns : goal.returns
returns c = picked_all c.args.names.now c.loop-name.name-index (λ name. not (contains_key c.args.tables.now.users name)) c.loop-name.new.items c.loop-name-test.false c.loop-name.invariant
