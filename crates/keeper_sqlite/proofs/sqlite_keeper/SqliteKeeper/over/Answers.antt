use Rattle.keeper_sqlite.proofs.Told.{fresh_owned}
use Rattle.keeper_sqlite.proofs.sqlite_keeper.SqliteKeeper.over.Goals as goal

pub invariant_of-result : goal.invariant_of-result
invariant_of-result g c = record { owned = ∣ (λ own. let fresh = c.is_fresh-is_own.ensures.fresh own in fresh_owned g.S.Store c.args.connection fresh.0 fresh.1) ∣₁; held = ∣ tt ∣₁ }
