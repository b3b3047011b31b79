use Rattle.std.proofs.Common.{◌∙◌, sym}
use Rattle.hub_machine.proofs.EndRows.{fits_as_end}
use Rattle.hub_machine.proofs.KeptChanges.{batch_kept}
use Rattle.hub_machine.proofs.carry.carry_end.Goals as goal

pub carry_out-requires : goal.carry_out-requires
carry_out-requires g c = fits_as_end c.as_slice-2.result.now c.args.tables.now c.args.lease.now (c.as_slice-2.ensures.value ∙ c.in-Ok.ensures)

pub returns-in-Ok-true-clause-keeps : goal.returns-in-Ok-true-clause-keeps
returns-in-Ok-true-clause-keeps g c = λ tells h.
    batch_kept c.as_slice.result.now c.as_slice-2.result.now c.in-Ok-batch_of.batch c.carry_out.result (g.K.Keeper.rows c.args.keeper.now) (g.K.Keeper.rows c.carry_out.new.keeper) c.args.tables.now c.carry_out.new.tables
    (c.as_slice-2.ensures.value ∙ sym c.as_slice.ensures.value) c.in-Ok-batch_of.ensures.batch c.in-Ok-batch_of.ensures.puts c.in-Ok-batch_of.ensures.removals c.carry_out.ensures.done (c.carry_out.ensures.kept tells) h

pub returns-in-Ok-false-clause-keeps : goal.returns-in-Ok-false-clause-keeps
returns-in-Ok-false-clause-keeps g c = λ tells h.
    batch_kept c.as_slice.result.now c.as_slice-2.result.now c.in-Ok-batch_of.batch c.carry_out.result (g.K.Keeper.rows c.args.keeper.now) (g.K.Keeper.rows c.carry_out.new.keeper) c.args.tables.now c.carry_out.new.tables
    (c.as_slice-2.ensures.value ∙ sym c.as_slice.ensures.value) c.in-Ok-batch_of.ensures.batch c.in-Ok-batch_of.ensures.puts c.in-Ok-batch_of.ensures.removals c.carry_out.ensures.done (c.carry_out.ensures.kept tells) h

pub returns-clause-keeps : goal.returns-clause-keeps
returns-clause-keeps g c = λ tells h.
    batch_kept c.as_slice.result.now c.as_slice-2.result.now c.in-Ok-batch_of.batch c.carry_out.result (g.K.Keeper.rows c.args.keeper.now) (g.K.Keeper.rows c.carry_out.new.keeper) c.args.tables.now c.carry_out.new.tables
    (c.as_slice-2.ensures.value ∙ sym c.as_slice.ensures.value) c.in-Ok-batch_of.ensures.batch c.in-Ok-batch_of.ensures.puts c.in-Ok-batch_of.ensures.removals c.carry_out.ensures.done (c.carry_out.ensures.kept tells) h
