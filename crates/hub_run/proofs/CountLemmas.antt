-- The counts of a connection: they don't fall, and where none of its visits was counted none met a failing keeper.
use Rattle.std.proofs.Common.{◌≡◌, ◌<◌, ◌≤◌, ◌+◌, ◌-◌, ◌^◌, ◌++◌, ◌∷◌, ℕ, Bool, true, false, ltb, List, [], Option, Result, Ok, Err, inl, inr, refl, sym, subst, arith, if◌then◌else◌}
use Rattle.std.proofs.lemmas.Bool.{ltb-false}
use Rattle.http_wire.specs.declared.error.SessionFault.{SessionFault}
use Rattle.http_wire.specs.declared.error.SessionFault.TheVariants.{ReadFault, WriteFault}
use Rattle.http_wire.specs.declared.request.Request.{Request}
use Rattle.desk.specs.Passes.{PassState}
use Rattle.hub_core.specs.LifeBook.{LeadsToLives, Notes}
use Rattle.hub_core.specs.Visits.{Entry}
use Rattle.hub_core.specs.declared.start.Start.{Start}
use Rattle.hub_devices.specs.Faults.{Rises}
use Rattle.hub_machine.specs.Replies.{Reply}
use Rattle.hub_run.specs.Connections.{ConnectionEnds, Known}
use Rattle.server_work.proofs.Gaining.{chain_gains}
use Rattle.hub_run.specs.Routed.{Asking}
use Rattle.hub_run.specs.Turns.{AsksLink, routed, unrouted, Turn, View, Visit, Errand, Visits, Drives, IsUndrawn, at_chain, visited, worked, declined, undrawn, refused, unsaid, unfinished, wanting, Moves, Turns}
use Rattle.hub_run.specs.declared.served.Served.{Served}
use Rattle.hub_run.specs.declared.served.Served.TheVariants.{Ended, Cut, Closed}

-- the counts of a pass don't fall
pub record Grows (x y : View) : Type 0 where
  pub faults : x.pass.faults ≤ y.pass.faults
  pub failed : x.pass.failed ≤ y.pass.failed

pub grows_same : (x y : View) → y ≡ x → Grows x y
grows_same x y same = subst (λ (z : View). Grows x z) (sym same) record { faults = omega arith; failed = omega arith }

grows_then : (x y z : View) → Grows x y → Grows y z → Grows x z
grows_then x y z first second = record { faults = omega (arith, first.faults, second.faults); failed = omega (arith, first.failed, second.failed) }

pub visit_grows : (x y : View) (v : Visit) → Visits x v y → Grows x y
visit_grows x y v visits = record {
  faults = omega (arith, visits.known, visits.grown, visits.count);
  failed = omega (arith, visits.failed);
}

-- a chain only adds to the counts
drive_grows : (x y : View) (e : Errand) → Drives x e y → Grows x y
drive_grows x y e drives =
    let gains = chain_gains LeadsToLives Notes e.work (at_chain x) (at_chain y) e.owed e.chain e.tale drives.chain in
    record { faults = gains.counted; failed = omega (arith, gains.failed) }

-- the route link adds to no count of the pass
link_grows : (x y : View) (a : Asking) → AsksLink x a y → Grows x y
link_grows x y a asks = record { faults = asks.comes.1; failed = omega (arith, asks.failed) }

undrawn_grows : (x y : View) → IsUndrawn x y → Grows x y
undrawn_grows x y moves = record {
  faults = subst (λ (p : PassState Entry Start). x.pass.faults ≤ p.faults) (sym moves.pass) (omega arith);
  failed = subst (λ (p : PassState Entry Start). x.pass.failed ≤ p.failed) (sym moves.pass) (omega arith);
}

turn_grows : (x y : View) (t : Turn) → Moves x t y → Grows x y
turn_grows x y (visited text q v r) moves = visit_grows x y v moves
turn_grows x y (worked text q v e r) moves = grows_then x moves.0 y (visit_grows x moves.0 v moves.1) (drive_grows moves.0 y e moves.2)
turn_grows x y (routed text q v a r) moves = grows_then x moves.0 y (visit_grows x moves.0 v moves.1) (link_grows moves.0 y a moves.2)
turn_grows x y (declined text q e) moves = grows_same x y moves
turn_grows x y (undrawn text q) moves = undrawn_grows x y moves
turn_grows x y (refused e) moves = grows_same x y moves
turn_grows x y (unsaid text q v) moves = visit_grows x y v moves
turn_grows x y (unfinished text q v e) moves = grows_then x moves.0 y (visit_grows x moves.0 v moves.1) (drive_grows moves.0 y e moves.2)
turn_grows x y (unrouted text q v a) moves = grows_then x moves.0 y (visit_grows x moves.0 v moves.1) (link_grows moves.0 y a moves.2)
turn_grows x y wanting (inl same) = grows_same x y same
turn_grows x y wanting (inr moves) = undrawn_grows x y moves

pub turns_grow : (x y : View) (ts : List Turn) → Turns x ts y → Grows x y
turns_grow x y [] done = grows_same x y done
turns_grow x y (t ∷ ts) done = grows_then x done.0 y (turn_grows x done.0 t done.1) (turns_grow done.0 y ts done.2)

-- a turn stands between two views
pub record IsBetween (x y : View) (t : Turn) : Type 0 where
  pub from : View
  pub to : View
  pub moves : Moves from t to
  pub before : Grows x from
  pub after : Grows to y

pub between : (x y : View) (before : List Turn) (t : Turn) (after : List Turn) → Turns x (before ++ t ∷ after) y → IsBetween x y t
between x y [] t after done = record { from = x; to = done.0; moves = done.1; before = grows_same x x refl; after = turns_grow done.0 y after done.2 }
between x y (s ∷ ss) t after done =
    let rest = between done.0 y ss t after done.2 in
    record { from = rest.from; to = rest.to; moves = rest.moves; before = grows_then x done.0 rest.from (turn_grows x done.0 s done.1) rest.before; after = rest.after }

not_risen : (n n' : ℕ) (b : Bool) → n' ≡ n + (if b then 1 else 0) → n' ≤ n → b ≡ false
not_risen n n' true is le = absurd (omega (arith, is, le))
not_risen n n' false is le = refl

-- where no visit of the connection was counted, the keeper's count didn't rise in any
pub never_risen : (x y : View) (text : List ℕ) (q : Request) (v : Visit) (r : Reply) → IsBetween x y (visited text q v r) → y.pass.failed ≡ x.pass.failed
    → y.pass.faults < 2 ^ 64 - 1 → Rises v.faults v.faults_after → ⊥
never_risen x y text q v r at same below rises =
    let visits : Visits at.from v at.to = at.moves in
    let le = ltb-false v.faults v.faults_after (not_risen at.from.pass.failed at.to.pass.failed (ltb v.faults v.faults_after) visits.failed (omega (arith, at.before.failed, at.after.failed, same))) in
    let small : v.faults < 2 ^ 64 - 1 = omega (arith, visits.grown, visits.count, at.after.faults, below) in
    let up = rises small in
    absurd (omega (arith, le, up))

-- the count of faults that a connection's pass knows doesn't fall
pub ends_grow : (start : Start) (x y : Known) (end : Result Served SessionFault) → ConnectionEnds start x y end → x.view.pass.faults ≤ y.view.pass.faults
ends_grow start x y (Ok (Ended n)) e = (turns_grow x.view y.view e.0 e.3).faults
ends_grow start x y (Ok (Cut n)) e = (turns_grow x.view y.view e.0 e.4).faults
ends_grow start x y (Ok (Closed n)) e = (turns_grow x.view y.view (e.0 ++ e.1 ∷ []) e.7).faults
ends_grow start x y (Err (ReadFault n)) e = (turns_grow x.view y.view e.0 e.4).faults
ends_grow start x y (Err (WriteFault n)) e = (turns_grow x.view y.view (e.0 ++ e.1 ∷ []) e.8).faults
