use Rattle.std.proofs.Common.{ap, sym, ◌∙◌}
use Rattle.std.specs.Prelude.{if◌then◌else◌}
use Rattle.hub_machine.specs.Apply.{apply, is_past}
use Rattle.hub_machine.specs.State.{Hub}
use Rattle.hub_machine.specs.declared.change.Change.TheVariants.{Life}
use Rattle.hub_machine.proofs.LifeLines.{goes_on}
use Rattle.hub_machine.proofs.Owing.{taken}
use Rattle.hub_machine.proofs.Pieces.{entered_on, piece_on}
use Rattle.hub_machine.proofs.machine.Machine.live.Goals as goal

pub set_life-requires-clause-same : goal.set_life-requires-clause-same
set_life-requires-clause-same c =
    let t = taken c.self.inside.lives.lives c.args.generation c.args.event (c.in-Ok.next, c.in-Ok.field-0-1) c.in-Ok.ensures in
    goes_on t.lease.life c.args.generation c.args.event (c.in-Ok.next, c.in-Ok.field-0-1) c.requires.goes_on (c.are_apart.ensures.apart.phases c.args.generation t.lease t.there) t.after

pub invariant_of-self : goal.invariant_of-self
invariant_of-self c =
    let s : Hub = record { tables = c.self.inside.tables; lives = c.self.inside.lives.lives; length = c.self.inside.length; cost = c.self.inside.cost; pool = c.self.inside.lives.pool; hub_url = c.self.inside.hub_url; no_trail = c.self.inside.no_trail } in
    let t = taken c.self.inside.lives.lives c.args.generation c.args.event (c.in-Ok.next, c.in-Ok.field-0-1) c.in-Ok.ensures in
    piece_on s c.self.inside.lives.next c.args.generation c.args.event t.lease (c.in-Ok.next, c.in-Ok.field-0-1) c.set_life.new.self c.entry_cost-cost.result c.self.invariant t.there t.after
    (goes_on t.lease.life c.args.generation c.args.event (c.in-Ok.next, c.in-Ok.field-0-1) c.requires.goes_on (c.are_apart.ensures.apart.phases c.args.generation t.lease t.there) t.after)
    (ap (λ (h : Hub). is_past h (Life c.args.generation c.args.event)) c.self.view_is ∙ c.requires.room)
    (c.set_life.ensures t.lease t.there)
    (c.entry_cost-cost.ensures ∙ ap (λ (h : Hub). if h.no_trail then 0 else 64) (sym c.self.view_is))

pub returns-clause-hub : goal.returns-clause-hub
returns-clause-hub c =
    let s : Hub = record { tables = c.self.inside.tables; lives = c.self.inside.lives.lives; length = c.self.inside.length; cost = c.self.inside.cost; pool = c.self.inside.lives.pool; hub_url = c.self.inside.hub_url; no_trail = c.self.inside.no_trail } in
    let t = taken c.self.inside.lives.lives c.args.generation c.args.event (c.in-Ok.next, c.in-Ok.field-0-1) c.in-Ok.ensures in
    entered_on s c.self.inside.lives.next c.args.generation c.args.event t.lease (c.in-Ok.next, c.in-Ok.field-0-1) c.set_life.new.self c.entry_cost-cost.result t.there t.after
    (goes_on t.lease.life c.args.generation c.args.event (c.in-Ok.next, c.in-Ok.field-0-1) c.requires.goes_on (c.are_apart.ensures.apart.phases c.args.generation t.lease t.there) t.after)
    (c.set_life.ensures t.lease t.there)
    (c.entry_cost-cost.ensures ∙ ap (λ (h : Hub). if h.no_trail then 0 else 64) (sym c.self.view_is))
    ∙ ap (apply (Life c.args.generation c.args.event)) c.self.view_is
