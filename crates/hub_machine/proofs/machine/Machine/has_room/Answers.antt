use Rattle.std.proofs.Common.{subst}
use Rattle.hub_machine.specs.State.{IsBounded}
use Rattle.hub_machine.proofs.Owing.{roomy, fewer}
use Rattle.hub_machine.proofs.machine.Machine.has_room.Goals as goal

pub returns-clause-room : goal.returns-clause-room
returns-clause-room c = λ g event o may. roomy c.life_laws.ensures.falls c.args.self.now g event (subst IsBounded c.self.view_is c.self.invariant.0) o may

pub returns-clause-fewer : goal.returns-clause-fewer
returns-clause-fewer c = λ g event o may. fewer c.life_laws.ensures.falls c.args.self.now g event o may
