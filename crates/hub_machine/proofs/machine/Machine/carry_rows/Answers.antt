use Rattle.std.proofs.Common.{◌+◌, refl, sym, subst, ap, ◌∙◌}
use Rattle.std.specs.Prelude.{if◌then◌else◌}
use Rattle.hub_tables.specs.State.{State}
use Rattle.hub_machine.specs.Apply.{is_past_trail}
use Rattle.hub_machine.specs.declared.change.Change.TheVariants.{Rows}
use Rattle.hub_machine.specs.KeptRows.{Keeps}
use Rattle.hub_machine.specs.State.{Hub}
use Rattle.hub_machine.proofs.KeptChanges.{written_kept}
use Rattle.hub_machine.proofs.Entered.{not_done, is_done}
use Rattle.hub_machine.proofs.Pieces.{IsPiece, piece_rows, entered}
use Rattle.hub_machine.proofs.machine.Machine.carry_rows.Goals as goal

pub returns-in_err-carry_out-clause-keeps : goal.returns-in_err-carry_out-clause-keeps
returns-in_err-carry_out-clause-keeps g c = λ tells h.
    let before = g.K.Keeper.rows c.args.keeper.now in
    written_kept c.args.rows.now c.args.rows.now c.args.written.now c.carry_out.result before (g.K.Keeper.rows c.carry_out.new.keeper) c.self.inside.tables c.carry_out.new.tables
    refl c.requires.written c.carry_out.ensures.done (c.carry_out.ensures.kept tells) (subst (λ (s : Hub). Keeps before s.tables) (sym c.self.view_is) h)

pub returns-then-not-branch-clause-keeps : goal.returns-then-not-branch-clause-keeps
returns-then-not-branch-clause-keeps g c = λ tells h.
    let before = g.K.Keeper.rows c.args.keeper.now in
    written_kept c.args.rows.now c.args.rows.now c.args.written.now c.carry_out.result before (g.K.Keeper.rows c.carry_out.new.keeper) c.self.inside.tables c.carry_out.new.tables
    refl c.requires.written c.carry_out.ensures.done (c.carry_out.ensures.kept tells) (subst (λ (s : Hub). Keeps before s.tables) (sym c.self.view_is) h)

pub returns-clause-keeps : goal.returns-clause-keeps
returns-clause-keeps g c = λ tells h.
    let before = g.K.Keeper.rows c.args.keeper.now in
    written_kept c.args.rows.now c.args.rows.now c.args.written.now c.carry_out.result before (g.K.Keeper.rows c.carry_out.new.keeper) c.self.inside.tables c.carry_out.new.tables
    refl c.requires.written c.carry_out.ensures.done (c.carry_out.ensures.kept tells) (subst (λ (s : Hub). Keeps before s.tables) (sym c.self.view_is) h)

pub invariant_of-self : goal.invariant_of-self
invariant_of-self g c = subst (λ (t : State). IsPiece (record (record { tables = c.self.inside.tables; lives = c.self.inside.lives.lives; length = c.self.inside.length; cost = c.self.inside.cost; pool = c.self.inside.lives.pool; hub_url = c.self.inside.hub_url; no_trail = c.self.inside.no_trail }) { tables = t }) c.self.inside.lives.next)
    (sym c.in_err-carry_out.ensures.done) c.self.invariant

pub invariant_of-self-then-not-branch : goal.invariant_of-self-then-not-branch
invariant_of-self-then-not-branch g c = subst (λ (t : State). IsPiece (record (record { tables = c.self.inside.tables; lives = c.self.inside.lives.lives; length = c.self.inside.length; cost = c.self.inside.cost; pool = c.self.inside.lives.pool; hub_url = c.self.inside.hub_url; no_trail = c.self.inside.no_trail }) { tables = t }) c.self.inside.lives.next)
    (sym (not_done c.args.rows.now c.in_ok-carry_out.field-0 c.self.inside.tables c.carry_out.new.tables c.in_ok-carry_out.ensures.done c.if-not-branch.true)) c.self.invariant

pub invariant_of-self-2 : goal.invariant_of-self-2
invariant_of-self-2 g c =
    let s : Hub = record { tables = c.self.inside.tables; lives = c.self.inside.lives.lives; length = c.self.inside.length; cost = c.self.inside.cost; pool = c.self.inside.lives.pool; hub_url = c.self.inside.hub_url; no_trail = c.self.inside.no_trail } in
    subst (λ (h : Hub). IsPiece h c.self.inside.lives.next)
    (sym (entered s (Rows c.args.rows.now) c.args.rows.now c.carry_out.new.tables c.args.written.now.cost c.entry_cost-cost.result refl
    (is_done c.args.rows.now c.in_ok-carry_out.field-0 c.self.inside.tables c.carry_out.new.tables c.in_ok-carry_out.ensures.done c.if-not-branch.false)
    (c.entry_cost-cost.ensures ∙ ap (λ (h : Hub). if h.no_trail then 0 else (64 + c.args.written.now.cost)) (sym c.self.view_is)) c.requires.written.cost))
    (piece_rows s c.self.inside.lives.next c.args.rows.now c.self.invariant c.requires.fits.apart (ap (λ (h : Hub). is_past_trail h (Rows c.args.rows.now)) c.self.view_is ∙ c.requires.room))
