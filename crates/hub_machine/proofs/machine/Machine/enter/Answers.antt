use Rattle.std.proofs.Common.{◌≡◌, ◌≤◌, Bool, true, Ok, Result, ap, sym, ◌∙◌, arith}
use Rattle.std.specs.declared.alloc.AllocError.{AllocError}
use Rattle.hub_machine.specs.Apply.{effect}
use Rattle.hub_machine.specs.State.{Hub, owed}
use Rattle.hub_machine.specs.declared.change.Change.{Change}
use Rattle.hub_machine.proofs.Entered.{unchanged}
use Rattle.hub_machine.proofs.Owing.{no_fewer}
use Rattle.hub_machine.proofs.machine.Machine.enter.Goals as goal

is_true : (b : Bool) → ◌≡◌ {A = Result Bool AllocError} (Ok b) (Ok true) → b ≡ true
is_true b e = cc

pub returns-then-not-branch-clause-room_ok : goal.returns-then-not-branch-clause-room_ok
returns-then-not-branch-clause-room_ok g c =
    let done = c.in_ok-carry.field-0 in
    let entry = c.in_ok-entry.entry in
    let same : c.carry.new.self ≡ c.args.self.now = unchanged entry c.args.self.now c.carry.new.self done c.in_ok-carry.ensures.carried c.if-not-branch.true in
    let owing : owed c.carry.new.self.lives ≡ owed c.args.self.now.lives = ap (λ (s : Hub). owed s.lives) same in
    let least : owed c.args.self.now.lives ≤ owed (effect entry c.args.self.now).lives = no_fewer c.args.self.now entry done (λ e. is_true done (c.in_ok-carry.ensures.calm e).1) c.if-not-branch.true in
    let is : c.change.result.now ≡ entry = c.change.ensures ∙ sym c.in_ok-entry.ensures.change in
    let after : c.owed_after.result ≡ owed (effect entry c.args.self.now).lives = c.owed_after.ensures ∙ ap (λ (x : Change). owed (effect x c.args.self.now).lives) is in
    omega (arith, owing, least, after, c.in_ok-reserve.ensures.room)
