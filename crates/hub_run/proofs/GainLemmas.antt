-- What turns gain, one after the other.
use Rattle.std.proofs.Common.{◌≡◌, ◌≤◌, ◌+◌, ℕ, Bool, true, false, ltb, if◌then◌else◌, List, [], ◌∷◌, ◌++◌, length, drop, map, Option, inl, inr, refl, sym, ap, ◌∙◌, subst, arith}
use Rattle.std.proofs.lemmas.Bool.{ltb-false}
use Rattle.std.proofs.lemmas.List.{append-nil}
use mathlib.Core.List.{IsPrefix}
use Rattle.desk.proofs.Prefixes.{prefix_trans}
use Rattle.desk.specs.OwnEntries.{placed, added}
use Rattle.desk.specs.Passes.{PassState}
use Rattle.hub_core.specs.LifeBook.{LeadsToLives, Notes}
use Rattle.hub_core.specs.Visits.{Entry}
use Rattle.hub_core.specs.declared.start.Start.{Start}
use Rattle.hub_devices.proofs.CallLemmas.{Grows_none}
use Rattle.hub_devices.specs.Calls.{Grows}
use Rattle.hub_devices.specs.declared.calls.Routing.{Routing}
use Rattle.hub_devices.specs.declared.calls.Spawning.{Spawning}
use Rattle.hub_devices.specs.declared.calls.Told.{Told}
use Rattle.hub_run.specs.Gained.{visit_gain, errand_gain, asking_gain, turn_gain}
use Rattle.hub_run.specs.Routed.{Asking}
use Rattle.hub_run.specs.Turns.{Turn, View, Visit, Errand, Visits, Drives, Works, AsksLink, Routes, IsUndrawn, at_chain, visited, worked, routed, declined, undrawn, refused, unsaid, unfinished, unrouted, wanting, Moves, Turns}
use Rattle.server_work.proofs.Gaining.{gains_none, gains_then, chain_gains}
use Rattle.server_work.specs.Chains.{Sight}
use Rattle.server_work.specs.Gains.{Gain, Gains, no_gain, plus, sum_of, without_place}

unplaced : (n : ℕ) (xs : List Entry) → map without_place (placed n xs) ≡ xs
unplaced n [] = refl
unplaced n (x ∷ xs) = ap (λ l. x ∷ l) (unplaced (n + 1) xs)

rest_of : (xs zs : List Entry) → drop (length xs) (xs ++ zs) ≡ zs
rest_of [] zs = refl
rest_of (x ∷ xs) zs = rest_of xs zs

-- what was added stands behind what was there
behind : (xs ys : List Entry) → IsPrefix xs ys → ys ≡ xs ++ map without_place (added xs ys)
behind xs ys (zs, e) =
    sym e ∙ ap (λ l. xs ++ l) (sym (unplaced (length xs) (drop (length xs) ys) ∙ (ap (drop (length xs)) (sym e) ∙ rest_of xs zs)))

unrisen : (m n : ℕ) (b : Bool) → ltb m n ≡ b → ◌≡◌ {A = ℕ} (if b then 1 else 0) 0 → m ≤ n → n ≡ m
unrisen m n true e none le = absurd (omega (arith, none))
unrisen m n false e none le = omega (arith, ltb-false m n e, le)

visit_gains : (x y : View) (v : Visit) → Visits x v y → Gains (at_chain x) (visit_gain v) (at_chain y)
visit_gains x y v visit = record {
  same = visit.same;
  begins = subst (λ (h : List Entry). IsPrefix x.pass.seen h) (sym visit.seen) (prefix_trans x.pass.seen v.before v.after visit.begins visit.appends);
  counted = omega (arith, visit.known, visit.grown, visit.count);
  alone = λ one. visit.seen ∙ (behind v.before v.after visit.appends ∙ ap (λ h. h ++ map without_place (added v.before v.after)) (visit.whole one));
  still = λ one none. visit.count ∙ (unrisen v.faults v.faults_after (ltb v.faults v.faults_after) refl none visit.grown ∙ visit.exact one);
  mine = visit.mine;
  failed = visit.failed;
  spawner = subst (λ (calls : Option (List (Spawning × Told))). Grows x.spawner [] calls) (sym visit.spawner) (Grows_none x.spawner);
  routes = subst (λ (calls : Option (List (Routing × Told))). Grows x.routes [] calls) (sym visit.routes) (Grows_none x.routes);
}

works_gain : (x y : View) (v : Visit) (e : Errand) → Works x v e y → Gains (at_chain x) (plus (visit_gain v) (errand_gain e)) (at_chain y)
works_gain x y v e works =
    gains_then (at_chain x) (at_chain works.0) (at_chain y) (visit_gain v) (errand_gain e) (visit_gains x works.0 v works.1)
    (chain_gains LeadsToLives Notes e.work (at_chain works.0) (at_chain y) e.owed e.chain e.tale works.2.chain)

link_gains : (x y : View) (a : Asking) → AsksLink x a y → Gains (at_chain x) (asking_gain a) (at_chain y)
link_gains x y a asks = record {
  same = asks.same;
  begins = asks.comes.0;
  counted = asks.comes.1;
  alone = λ one. ap (λ (h : Sight Entry). h.entries) (asks.comes.2 one) ∙ sym (append-nil x.pass.seen);
  still = λ one none. ap (λ (h : Sight Entry). h.faults) (asks.comes.2 one);
  mine = asks.mine ∙ sym (append-nil x.pass.mine);
  failed = omega (arith, asks.failed);
  spawner = subst (λ (calls : Option (List (Spawning × Told))). Grows x.spawner [] calls) (sym asks.spawner) (Grows_none x.spawner);
  routes = asks.routes;
}

routes_gain : (x y : View) (v : Visit) (a : Asking) → Routes x v a y → Gains (at_chain x) (plus (visit_gain v) (asking_gain a)) (at_chain y)
routes_gain x y v a routes =
    gains_then (at_chain x) (at_chain routes.0) (at_chain y) (visit_gain v) (asking_gain a) (visit_gains x routes.0 v routes.1) (link_gains routes.0 y a routes.2)

still_gains : (x y : View) → y ≡ x → Gains (at_chain x) no_gain (at_chain y)
still_gains x y same = subst (λ (z : View). Gains (at_chain x) no_gain (at_chain z)) (sym same) (gains_none (at_chain x))

undrawn_gains : (x y : View) → IsUndrawn x y → Gains (at_chain x) no_gain (at_chain y)
undrawn_gains x y none =
    subst (λ (p : PassState Entry Start). Gains (at_chain x) no_gain (record { pass = p; spawner = y.spawner; routes = y.routes })) (sym none.pass)
    (subst (λ (s : Option (List (Spawning × Told))). Gains (at_chain x) no_gain (record { pass = x.pass; spawner = s; routes = y.routes })) (sym none.spawner)
    (subst (λ (r : Option (List (Routing × Told))). Gains (at_chain x) no_gain (record { pass = x.pass; spawner = x.spawner; routes = r })) (sym none.routes) (gains_none (at_chain x))))

pub turn_gains : (x y : View) (t : Turn) → Moves x t y → Gains (at_chain x) (turn_gain t) (at_chain y)
turn_gains x y (visited text q v r) moves = visit_gains x y v moves
turn_gains x y (worked text q v e r) moves = works_gain x y v e moves
turn_gains x y (routed text q v a r) moves = routes_gain x y v a moves
turn_gains x y (declined text q e) moves = still_gains x y moves
turn_gains x y (undrawn text q) moves = undrawn_gains x y moves
turn_gains x y (refused e) moves = still_gains x y moves
turn_gains x y (unsaid text q v) moves = visit_gains x y v moves
turn_gains x y (unfinished text q v e) moves = works_gain x y v e moves
turn_gains x y (unrouted text q v a) moves = routes_gain x y v a moves
turn_gains x y wanting (inl same) = still_gains x y same
turn_gains x y wanting (inr moves) = undrawn_gains x y moves

pub turns_gain : (x y : View) (ts : List Turn) → Turns x ts y → Gains (at_chain x) (sum_of (map turn_gain ts)) (at_chain y)
turns_gain x y [] done = still_gains x y done
turns_gain x y (t ∷ ts) done =
    gains_then (at_chain x) (at_chain done.0) (at_chain y) (turn_gain t) (sum_of (map turn_gain ts)) (turn_gains x done.0 t done.1) (turns_gain done.0 y ts done.2)
