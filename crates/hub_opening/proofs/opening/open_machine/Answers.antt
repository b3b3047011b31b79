use Rattle.std.proofs.Common.{◌≤◌, ◌^◌, sym, ap, subst}
use Rattle.keeper.specs.Rows.{after_items}
use Rattle.hub_rows.specs.declared.limits.Limits.{Limits}
use Rattle.hub_machine.specs.KeptRows.{Keeps}
use Rattle.hub_machine.specs.State.{Hub}
use Rattle.hub_machine.proofs.KeptChanges.{same_kept}
use Rattle.hub_opening.specs.Opening.{opened_tables}
use Rattle.hub_opening.proofs.Judging.{loaded_leasable}
use Rattle.hub_opening.proofs.Loaded.{loaded_has}
use Rattle.hub_opening.proofs.Opened.{loaded_limits}
use Rattle.hub_opening.proofs.Reading.{not_made, told_before}
use Rattle.hub_opening.proofs.opening.open_machine.Goals as goal

pub make-requires-clause-leasable : goal.make-requires-clause-leasable
make-requires-clause-leasable g c =
    loaded_leasable c.args.config.now.limits c.args.config.now.custom_scopes (g.K.Keeper.Tells c.load_tables.new.keeper) (g.K.Keeper.rows c.args.keeper.now) c.in_ok-tables.tables c.in_ok-tables.ensures.ok

pub make-requires-clause-limit : goal.make-requires-clause-limit
make-requires-clause-limit g c =
    subst (λ (l : Limits). l.trail_bytes ≤ 2 ^ 62)
    (sym (loaded_limits c.args.config.now.limits c.args.config.now.custom_scopes (g.K.Keeper.Tells c.load_tables.new.keeper) (g.K.Keeper.rows c.args.keeper.now) c.in_ok-tables.tables c.in_ok-tables.ensures.ok))
    c.requires.trail

pub returns-in-Err-clause-err : goal.returns-in-Err-clause-err
returns-in-Err-clause-err g c =
    not_made c.args.config.now c.args.now (g.K.Keeper.Tells c.load_tables.new.keeper) (g.K.Keeper.rows c.args.keeper.now) (g.K.Keeper.faults c.args.keeper.now)
    (g.K.Keeper.faults c.load_tables.new.keeper) c.in_ok-tables.tables c.in-Err.error c.in_ok-tables.ensures.ok c.in-Err.ensures

pub returns-in-Ok-keep-clause-ok : goal.returns-in-Ok-keep-clause-ok
returns-in-Ok-keep-clause-ok g c = record {
  kept = c.in_ok-tables.tables;
  loaded = told_before c.args.config.now.limits c.args.config.now.custom_scopes (g.K.Keeper.Tells c.load_tables.new.keeper) (g.K.Keeper.Tells c.keep.new.keeper) (g.K.Keeper.rows c.args.keeper.now) c.in_ok-tables.tables
      c.keep.ensures.told c.in_ok-tables.ensures.ok;
  hub = c.in-Ok.ensures.hub;
  pooled = c.in-Ok.ensures.pooled;
  fits = c.in-Ok.ensures.fits;
}

pub returns-in-Ok-keep-clause-keeps : goal.returns-in-Ok-keep-clause-keeps
returns-in-Ok-keep-clause-keeps g c = λ tells.
    let before = c.keep.ensures.told tells in
    let has = g.K.Keeper.rows c.args.keeper.now in
    let later = g.K.Keeper.rows c.load_tables.new.keeper in
    let t = opened_tables c.args.config.now c.args.now c.in_ok-tables.tables in
    let keeps = same_kept has later c.in_ok-tables.tables (c.load_tables.ensures.kept before).1
    (loaded_has c.args.config.now.limits c.args.config.now.custom_scopes (g.K.Keeper.Tells c.load_tables.new.keeper) has c.in_ok-tables.tables c.in_ok-tables.ensures.ok before) in
    subst (λ (hub : Hub). Keeps (g.K.Keeper.rows c.keep.new.keeper) hub.tables) (sym c.in-Ok.ensures.hub)
    (same_kept (after_items c.in-Ok.made.batch later) (g.K.Keeper.rows c.keep.new.keeper) t (c.in-Ok-keep.ensures.ok tells) (c.in-Ok.ensures.brings later keeps))
