use Rattle.std.proofs.Common.{sym, ap, ◌∙◌, arith}
use Rattle.hub_lives.specs.Lives as spec
use Rattle.hub_lives.specs.LiveServers.{LiveServers}
use Rattle.server_life.specs.Owed.{owed as owed_in}
use Rattle.hub_lives.proofs.Sums.{part_of, turned, gone}
use Rattle.hub_lives.proofs.lives.Lives.owed_with.Goals as goal

pub overflow_sub-result : goal.overflow_sub-result
overflow_sub-result c =
    let all = c.self.invariant.1 ∙ ap (λ (x : LiveServers). spec.owed x.lives) c.self.view_is in
    let part = part_of c.args.self.now.lives c.args.generation in
    let by = c.owed_by-before.ensures in
    omega (arith, all, part, by)

pub returns-clause-live : goal.returns-clause-live
returns-clause-live c = λ l e. turned c.args.self.now.lives c.args.generation c.entries_owed.result c.self.inside.still_owed c.owed_by-before.result l
    (c.self.invariant.1 ∙ ap (λ (x : LiveServers). spec.owed x.lives) c.self.view_is) c.owed_by-before.ensures (c.entries_owed.ensures ∙ ap owed_in (sym e))

pub returns-clause-over : goal.returns-clause-over
returns-clause-over c = λ e.
    let rest = gone c.args.self.now.lives c.args.generation c.self.inside.still_owed c.owed_by-before.result
    (c.self.invariant.1 ∙ ap (λ (x : LiveServers). spec.owed x.lives) c.self.view_is) c.owed_by-before.ensures in
    let nothing = c.entries_owed.ensures ∙ ap owed_in e in
    omega (arith, rest, nothing)
