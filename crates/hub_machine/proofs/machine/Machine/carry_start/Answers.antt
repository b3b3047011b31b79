use Rattle.std.proofs.Common.{◌+◌, ℕ, List, refl, sym, subst, ap, ◌∙◌}
use Rattle.std.specs.Prelude.{if◌then◌else◌}
use Rattle.hub_machine.specs.Apply.{is_past_trail}
use Rattle.hub_machine.specs.Carry.{FitsBegin}
use Rattle.hub_machine.specs.KeptRows.{Keeps}
use Rattle.hub_machine.specs.State.{Hub, next_generation}
use Rattle.hub_machine.specs.declared.change.Change.TheVariants.{Begin}
use Rattle.hub_machine.proofs.Entered.{not_done, is_done}
use Rattle.hub_machine.proofs.KeptChanges.{written_kept}
use Rattle.hub_machine.proofs.Pieces.{piece_started, same_piece, not_begun, is_begun}
use Rattle.hub_machine.proofs.machine.Machine.carry_start.Goals as goal

pub invariant_of-self : goal.invariant_of-self
invariant_of-self g c =
    let s : Hub = record { tables = c.self.inside.tables; lives = c.self.inside.lives.lives; length = c.self.inside.length; cost = c.self.inside.cost; pool = c.self.inside.lives.pool; hub_url = c.self.inside.hub_url; no_trail = c.self.inside.no_trail } in
    same_piece s c.carry_begin.new.tables c.self.inside.lives c.carry_begin.new.lives c.self.invariant c.in_err-carry_begin.ensures.done c.in_err-carry_begin.ensures.leased

pub returns-in_err-carry_begin-clause-keeps : goal.returns-in_err-carry_begin-clause-keeps
returns-in_err-carry_begin-clause-keeps g c = λ tells h.
    let before = g.K.Keeper.rows c.args.keeper.now in
    written_kept c.args.rows.now c.args.rows.now c.args.written.now c.carry_begin.result before (g.K.Keeper.rows c.carry_begin.new.keeper) c.self.inside.tables c.carry_begin.new.tables
    refl c.requires.written c.carry_begin.ensures.done (c.carry_begin.ensures.kept tells) (subst (λ (s : Hub). Keeps before s.tables) (sym c.self.view_is) h)

pub invariant_of-self-then-not-branch : goal.invariant_of-self-then-not-branch
invariant_of-self-then-not-branch g c =
    let s : Hub = record { tables = c.self.inside.tables; lives = c.self.inside.lives.lives; length = c.self.inside.length; cost = c.self.inside.cost; pool = c.self.inside.lives.pool; hub_url = c.self.inside.hub_url; no_trail = c.self.inside.no_trail } in
    same_piece s c.carry_begin.new.tables c.self.inside.lives c.carry_begin.new.lives c.self.invariant
    (not_done c.args.rows.now c.in_ok-carry_begin.field-0 c.self.inside.tables c.carry_begin.new.tables c.in_ok-carry_begin.ensures.done c.if-not-branch.true)
    (not_begun c.args.server.now c.in_ok-carry_begin.field-0 c.self.inside.lives c.carry_begin.new.lives c.in_ok-carry_begin.ensures.leased c.if-not-branch.true)

pub returns-then-not-branch-clause-keeps : goal.returns-then-not-branch-clause-keeps
returns-then-not-branch-clause-keeps g c = λ tells h.
    let before = g.K.Keeper.rows c.args.keeper.now in
    written_kept c.args.rows.now c.args.rows.now c.args.written.now c.carry_begin.result before (g.K.Keeper.rows c.carry_begin.new.keeper) c.self.inside.tables c.carry_begin.new.tables
    refl c.requires.written c.carry_begin.ensures.done (c.carry_begin.ensures.kept tells) (subst (λ (s : Hub). Keeps before s.tables) (sym c.self.view_is) h)

pub invariant_of-self-2 : goal.invariant_of-self-2
invariant_of-self-2 g c =
    let s : Hub = record { tables = c.self.inside.tables; lives = c.self.inside.lives.lives; length = c.self.inside.length; cost = c.self.inside.cost; pool = c.self.inside.lives.pool; hub_url = c.self.inside.hub_url; no_trail = c.self.inside.no_trail } in
    piece_started s c.self.inside.lives.next c.args.server.now c.args.rows.now c.carry_begin.new.tables c.carry_begin.new.lives c.args.written.now.cost c.entry_cost-cost.result c.self.invariant c.are_apart.ensures.apart
    (subst (λ (h : Hub). (target : List ℕ) × FitsBegin h (next_generation h.tables) c.args.server.now c.args.rows.now target) (sym c.self.view_is) c.requires.fits)
    (ap (λ (h : Hub). is_past_trail h (Begin (next_generation h.tables) c.args.server.now c.args.rows.now)) c.self.view_is ∙ c.requires.room)
    (is_done c.args.rows.now c.in_ok-carry_begin.field-0 c.self.inside.tables c.carry_begin.new.tables c.in_ok-carry_begin.ensures.done c.if-not-branch.false)
    (is_begun c.args.server.now c.in_ok-carry_begin.field-0 c.self.inside.lives c.carry_begin.new.lives c.in_ok-carry_begin.ensures.leased c.if-not-branch.false)
    (c.entry_cost-cost.ensures ∙ ap (λ (h : Hub). if h.no_trail then 0 else (64 + c.args.written.now.cost)) (sym c.self.view_is)) c.requires.written.cost

pub returns-clause-keeps : goal.returns-clause-keeps
returns-clause-keeps g c = λ tells h.
    let before = g.K.Keeper.rows c.args.keeper.now in
    written_kept c.args.rows.now c.args.rows.now c.args.written.now c.carry_begin.result before (g.K.Keeper.rows c.carry_begin.new.keeper) c.self.inside.tables c.carry_begin.new.tables
    refl c.requires.written c.carry_begin.ensures.done (c.carry_begin.ensures.kept tells) (subst (λ (s : Hub). Keeps before s.tables) (sym c.self.view_is) h)
