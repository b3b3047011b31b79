use Rattle.std.proofs.Common.{subst, sym}
use Rattle.sqlite.specs.Held.{state}
use Rattle.keeper_sqlite.specs.Causes.{IsNotRead}
use Rattle.keeper_sqlite.proofs.Unread.{not_read}
use Rattle.keeper_sqlite.proofs.sqlite_keeper.SqliteKeeper.resume.Goals as goal

pub invariant_of-result : goal.invariant_of-result
invariant_of-result g c = record { owned = ∣ c.in-Ok.ensures.own ∣₁; held = ∣ c.in-Ok.ensures.read ∣₁ }

pub returns-in-Err-clause-unread : goal.returns-in-Err-clause-unread
returns-in-Err-clause-unread g c clean =
    let old = state g.S.Store c.args.connection in
    let new = state g.S.Store c.find.new.conn in
    subst (IsNotRead old new) (sym c.cause_of.ensures) (not_read old new c.in-Err.error (c.in-Err.ensures.unread clean))
