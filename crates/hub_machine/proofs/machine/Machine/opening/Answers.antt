use Rattle.std.proofs.Common.{refl}
use Rattle.hub_machine.specs.State.{Hub}
use Rattle.hub_machine.proofs.Opening.{opened_piece}
use Rattle.hub_machine.proofs.machine.Machine.opening.Goals as goal

pub invariant_of-result : goal.invariant_of-result
invariant_of-result c =
    let s : Hub = record { tables = c.args.tables; lives = c.args.lives.lives; length = 0; cost = 0; pool = c.args.lives.pool; hub_url = c.args.hub_url; no_trail = c.args.no_trail } in
    opened_piece s c.args.lives.next refl refl c.requires.limit c.are_apart.ensures.pool c.requires.next c.requires.few c.requires.kept c.requires.owed
