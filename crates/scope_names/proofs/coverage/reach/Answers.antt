use Rattle.std.proofs.Common.{◌≡◌, ◌+◌, ◌≤◌, ◌++◌, ◌-◌, ◌∷◌, [], List, take, false, arith, length, length-append, sym, ap, ◌∙◌, subst}
use Rattle.scope_names.specs.declared.action.Action.{Action}
use Rattle.scope_names.specs.Coverage.{is_among, subscopes}
use Rattle.scope_names.proofs.Among.{among_last}
use Rattle.scope_names.proofs.Reach.{Search, inside, search_begun, search_ended, search_goes, search_skips, universe, work, work_falls}
use Rattle.scope_names.proofs.coverage.reach.Goals as goal

pub loop-action-init : goal.loop-action-init
loop-action-init c = rw c.new-reached.ensures.empty (search_begun c.args.rows.now c.args.from.items)

pub loop-action-preserved : goal.loop-action-preserved
loop-action-preserved c = search_skips c.args.rows.now c.args.from.items c.in-Some.action c.loop-action.reached.keys c.pop.new.self.items (sym c.contains.ensures ∙ c.if-not-contains.false) (subst (λ (p : List Action). Search c.args.rows.now c.args.from.items c.loop-action.reached.keys p) c.in-Some.ensures.items c.loop-action.invariant)

pub loop-action-preserved-in_ok-insert : goal.loop-action-preserved-in_ok-insert
loop-action-preserved-in_ok-insert c = rw c.in_ok-push_subscopes.ensures (search_goes c.args.rows.now c.args.from.items c.in-Some.action c.loop-action.reached.keys c.pop.new.self.items c.insert.new.self.keys c.in_ok-insert.ensures.updates.0 (subst (λ (p : List Action). Search c.args.rows.now c.args.from.items c.loop-action.reached.keys p) c.in-Some.ensures.items c.loop-action.invariant))

pub loop-action-smaller-in_ok-insert : goal.loop-action-smaller-in_ok-insert
loop-action-smaller-in_ok-insert c =
    let s : Search c.args.rows.now c.args.from.items c.loop-action.reached.keys (c.pop.new.self.items ++ c.in-Some.action ∷ []) = subst (λ (p : List Action). Search c.args.rows.now c.args.from.items c.loop-action.reached.keys p) c.in-Some.ensures.items c.loop-action.invariant in
    let new : is_among c.in-Some.action c.loop-action.reached.keys ≡ false = sym c.contains.ensures ∙ c.if-not-contains.true in
    let falls : work c.args.rows.now c.insert.new.self.keys (universe c.args.rows.now c.args.from.items) + (1 + length (subscopes c.args.rows.now c.in-Some.action)) ≤ work c.args.rows.now c.loop-action.reached.keys (universe c.args.rows.now c.args.from.items)
    = work_falls c.args.rows.now c.in-Some.action c.loop-action.reached.keys c.insert.new.self.keys (universe c.args.rows.now c.args.from.items) c.in_ok-insert.ensures.updates.0 new (inside c.args.rows.now c.args.from.items c.in-Some.action (s.pending_reached c.in-Some.action (among_last c.in-Some.action c.pop.new.self.items))) in
    let longer : length c.push_subscopes.new.pending.items ≡ length c.pop.new.self.items + length (subscopes c.args.rows.now c.in-Some.action) = ap length c.in_ok-push_subscopes.ensures ∙ length-append c.pop.new.self.items (subscopes c.args.rows.now c.in-Some.action) in
    let shorter : length c.loop-action.pending.items ≡ length c.pop.new.self.items + 1 = ap length c.in-Some.ensures.items ∙ length-append c.pop.new.self.items (c.in-Some.action ∷ []) in
    omega (arith, falls, longer, shorter)

pub returns : goal.returns
returns c =
    let rest : c.pop.new.self.items ≡ [] = c.in_default.ensures.rest ∙ ap (λ n. take (n - 1) c.loop-action.pending.items) c.in_default.ensures.cases.0 in
    let none : c.loop-action.pending.items ≡ [] = c.in_default.ensures.items ∙ ap (λ (p : List Action). p ++ []) rest in
    rw c.in_ok-actions.ensures.items (search_ended c.args.rows.now c.args.from.items c.loop-action.reached.keys c.in_ok-actions.ensures.ascends (subst (λ (p : List Action). Search c.args.rows.now c.args.from.items c.loop-action.reached.keys p) none c.loop-action.invariant))
