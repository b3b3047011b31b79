use Rattle.std.proofs.Common.{◌≡◌, ◌≤◌, Option, IfSome, Vec, IsTrue, arith, refl, sym, subst}
use Rattle.std.specs.declared.alloc.Global.{Global}
use Rattle.keeper.specs.Rows.{AreSame}
use Rattle.keeper.specs.declared.keeper.Row.{Row}
use Rattle.sqlite.specs.Held.{state}
use Rattle.sqlite.specs.State.{HasCleanDisk}
use Rattle.keeper_sqlite.specs.Own.{AreAll, told_rows, Stands}
use Rattle.keeper_sqlite.proofs.Open.{goes_on_telling}
use Rattle.keeper_sqlite.proofs.Props.{read_known, lists_known, stands_known, same_known, owned_then}
use Rattle.keeper_sqlite.proofs.Told.{loaded_owned, same_told}
use Rattle.keeper_sqlite.proofs.sqlite_keeper.SqliteKeeperKeeper.load.Goals as goal

pub invariant_of-self : goal.invariant_of-self
invariant_of-self g c = record {
  owned = owned_then
      (λ own. loaded_owned g.S.Store c.args.self.now.connection c.all_rows.new.conn own c.all_rows.ensures.ended c.all_rows.ensures.clean (λ clean. c.all_rows.ensures.stands clean own))
      c.args.self.now.owned;
  held = subst (λ (read : Option (Vec Row Global)). ∥ IfSome read (λ all. AreAll g.S.Store c.all_rows.new.conn all.items) ∥₁) (sym c.take-read.ensures.after) ∣ tt ∣₁;
}

pub all_rows-requires : goal.all_rows-requires
all_rows-requires g c =
    subst (λ (read : Option (Vec Row Global)). IfSome read (λ all. AreAll g.S.Store c.args.self.now.connection all.items)) (sym c.take-read.ensures.value)
    (read_known g.S.Store c.args.self.now.connection (λ all. all.items) c.args.self.now.read c.args.self.now.held)

pub returns-in-Ok-clause-listed : goal.returns-in-Ok-clause-listed
returns-in-Ok-clause-listed g c told =
    lists_known c.args.self.now.owned told.2 (told_rows g.S.Store c.args.self.now.connection) c.in-Ok.rows.items (λ own. c.in-Ok.ensures.listed told.0 told.1 own)

pub returns-in-Ok-clause-kept : goal.returns-in-Ok-clause-kept
returns-in-Ok-clause-kept g c told =
    let all = stands_known c.args.self.now.owned told.2 (state g.S.Store c.args.self.now.connection).is_open (told_rows g.S.Store c.all_rows.new.conn) (told_rows g.S.Store c.args.self.now.connection)
    (λ own. let s = c.all_rows.ensures.stands told.0 own told.1 in (s.0, same_told g.S.Store c.args.self.now.connection c.all_rows.new.conn s.1)) in
    ((omega (arith, c.all_rows.ensures.clean, told.0), all.0, told.2), all.1)

pub returns-in-Err-clause-kept : goal.returns-in-Err-clause-kept
returns-in-Err-clause-kept g c told =
    let conn : c.refused.new.self.connection ≡ c.all_rows.new.conn = c.refused.ensures.same.0 in
    let clean : HasCleanDisk (state g.S.Store c.all_rows.new.conn) = subst (λ h. HasCleanDisk (state g.S.Store h)) conn told.0 in
    let open_now : IsTrue (state g.S.Store c.all_rows.new.conn).is_open = subst (λ h. IsTrue (state g.S.Store h).is_open) conn told.1 in
    let is_own : IsTrue c.args.self.now.is_own = subst IsTrue c.refused.ensures.same.1 told.2 in
    let all = stands_known c.args.self.now.owned is_own (state g.S.Store c.args.self.now.connection).is_open (told_rows g.S.Store c.all_rows.new.conn) (told_rows g.S.Store c.args.self.now.connection)
    (λ own. let s = c.all_rows.ensures.stands clean own open_now in (s.0, same_told g.S.Store c.args.self.now.connection c.all_rows.new.conn s.1)) in (
      (omega (arith, c.all_rows.ensures.clean, clean), all.0, is_own),
      subst (λ h. AreSame (told_rows g.S.Store h) (told_rows g.S.Store c.args.self.now.connection)) (sym conn) all.1,
    )

pub returns-in-Ok-clause-stays : goal.returns-in-Ok-clause-stays
returns-in-Ok-clause-stays g c =
    goes_on_telling g.S.Store c.args.self.now.connection c.all_rows.new.conn c.args.self.now.is_own c.all_rows.new.conn c.args.self.now.is_own c.all_rows.ensures.stays refl refl

pub returns-in-Ok-clause-disk : goal.returns-in-Ok-clause-disk
returns-in-Ok-clause-disk g c = c.all_rows.ensures.stays.counts

pub returns-in-Err-clause-stays : goal.returns-in-Err-clause-stays
returns-in-Err-clause-stays g c =
    goes_on_telling g.S.Store c.args.self.now.connection c.all_rows.new.conn c.args.self.now.is_own c.refused.new.self.connection c.refused.new.self.is_own c.all_rows.ensures.stays
    c.refused.ensures.same.0 c.refused.ensures.same.1

pub returns-in-Err-clause-disk : goal.returns-in-Err-clause-disk
returns-in-Err-clause-disk g c =
    subst (λ h. (state g.S.Store c.args.self.now.connection).faults ≤ (state g.S.Store h).faults) (sym c.refused.ensures.same.0) c.all_rows.ensures.stays.counts

pub returns-in-Ok-clause-stands : goal.returns-in-Ok-clause-stands
returns-in-Ok-clause-stands g c clean is_own open_now =
    same_known c.args.self.now.owned is_own (state g.S.Store c.args.self.now.connection).is_open (state g.S.Store c.all_rows.new.conn).now (state g.S.Store c.args.self.now.connection).now
    (λ own. c.all_rows.ensures.stands clean own open_now)

pub returns-in-Err-clause-stands : goal.returns-in-Err-clause-stands
returns-in-Err-clause-stands g c =
    subst (λ h. HasCleanDisk (state g.S.Store h) → IsTrue c.args.self.now.is_own → Stands g.S.Store c.args.self.now.connection h) (sym c.refused.ensures.same.0)
    (λ clean is_own open_now.
    same_known c.args.self.now.owned is_own (state g.S.Store c.args.self.now.connection).is_open (state g.S.Store c.all_rows.new.conn).now (state g.S.Store c.args.self.now.connection).now
    (λ own. c.all_rows.ensures.stands clean own open_now))
