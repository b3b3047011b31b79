use Rattle.std.proofs.Common.{refl, subst, Ok, Err}
use Rattle.route_table.specs.Table.{IsFound}
use Rattle.route_desk.specs.History.{Standing}
use Rattle.route_desk.proofs.route_book.RouteBook.look_untold.Goals as goal

pub returns-in-Ok-clause-unmade : goal.returns-in-Ok-clause-unmade
returns-in-Ok-clause-unmade c now =
    let found = Ok c.in-Ok.field-0.now in
    (found, subst (λ (b : Standing). IsFound b.table c.args.path.now found) c.self.view_is c.in-Ok.ensures.ok, refl)

pub returns-in-Err-clause-unmade : goal.returns-in-Err-clause-unmade
returns-in-Err-clause-unmade c now =
    let found = Err c.in-Err.refusal in
    (found, subst (λ (b : Standing). IsFound b.table c.args.path.now found) c.self.view_is c.in-Err.ensures.err, refl)
