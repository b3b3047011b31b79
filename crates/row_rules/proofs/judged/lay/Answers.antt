use Rattle.std.proofs.Common.{Ok, Err}
use Rattle.std.specs.Prelude.{Result, OnOk}
use Rattle.row_rules.proofs.Built.{others_put}
use Rattle.row_rules.proofs.judged.lay.Goals as goal

on_ok : {A E : Type 0} (r : Result A E) (P : Type 0) → P → OnOk r P
on_ok (Ok x) P p = p
on_ok (Err e) P p = tt

pub returns-clause-put : goal.returns-clause-put
returns-clause-put c = on_ok c.of.result _ (others_put c.args.rows.now c.args.tables.now c.put_users.new.tables c.put_others.new.tables c.requires.users c.in_ok-put_users.ensures c.in_ok-put_others.ensures)
