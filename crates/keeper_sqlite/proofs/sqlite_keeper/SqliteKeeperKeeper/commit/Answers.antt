use Rattle.std.proofs.Common.{◌≤◌, IsTrue, arith, refl, sym, subst}
use Rattle.keeper.specs.Rows.{AreSame, after_items}
use Rattle.sqlite.specs.Held.{state}
use Rattle.sqlite.specs.State.{HasCleanDisk}
use Rattle.keeper_sqlite.specs.Own.{told_rows}
use Rattle.keeper_sqlite.proofs.Open.{goes_on_telling}
use Rattle.keeper_sqlite.proofs.Props.{rows_known, owned_then}
use Rattle.keeper_sqlite.proofs.Told.{committed_owned, told_after}
use Rattle.keeper_sqlite.proofs.sqlite_keeper.SqliteKeeperKeeper.commit.Goals as goal

pub invariant_of-self : goal.invariant_of-self
invariant_of-self g c = record {
  owned = owned_then
      (λ own. committed_owned g.S.Store c.as_slice.result.now c.args.self.now.connection c.commit_items.new.conn own c.commit_items.ensures.clean c.commit_items.ensures.was_open c.commit_items.result
      c.commit_items.ensures.ended c.commit_items.ensures.done c.commit_items.ensures.undone)
      c.args.self.now.owned;
  held = ∣ tt ∣₁;
}

pub returns-in-Ok-clause-ok : goal.returns-in-Ok-clause-ok
returns-in-Ok-clause-ok g c told =
    let old = c.args.self.now.connection in
    let new = c.commit_items.new.conn in
    let clean : HasCleanDisk (state g.S.Store old) = omega (arith, c.commit_items.ensures.clean, told.0) in
    let was_open : IsTrue (state g.S.Store old).is_open = c.commit_items.ensures.was_open told.0 told.1 in
    rows_known c.args.self.now.owned told.2 (told_rows g.S.Store new) (after_items c.args.batch.now (told_rows g.S.Store old))
    (λ own. subst (λ items. AreSame (told_rows g.S.Store new) (after_items items (told_rows g.S.Store old))) c.as_slice.ensures
    (told_after g.S.Store c.as_slice.result.now old new (own.store clean was_open) (c.in-Ok.ensures.done told.0)))

pub returns-in-Ok-clause-stays : goal.returns-in-Ok-clause-stays
returns-in-Ok-clause-stays g c =
    goes_on_telling g.S.Store c.args.self.now.connection c.commit_items.new.conn c.args.self.now.is_own c.commit_items.new.conn c.args.self.now.is_own c.commit_items.ensures.stays refl refl

pub returns-in-Ok-clause-disk : goal.returns-in-Ok-clause-disk
returns-in-Ok-clause-disk g c = c.commit_items.ensures.stays.counts

pub returns-in-Err-clause-stays : goal.returns-in-Err-clause-stays
returns-in-Err-clause-stays g c =
    goes_on_telling g.S.Store c.args.self.now.connection c.commit_items.new.conn c.args.self.now.is_own c.refused.new.self.connection c.refused.new.self.is_own c.commit_items.ensures.stays
    c.refused.ensures.same.0 c.refused.ensures.same.1

pub returns-in-Err-clause-disk : goal.returns-in-Err-clause-disk
returns-in-Err-clause-disk g c =
    subst (λ h. (state g.S.Store c.args.self.now.connection).faults ≤ (state g.S.Store h).faults) (sym c.refused.ensures.same.0) c.commit_items.ensures.stays.counts
