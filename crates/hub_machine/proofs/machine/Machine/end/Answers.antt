use Rattle.std.proofs.Common.{◌≡◌, refl, ap, sym, ◌∙◌, arith}
use Rattle.std.proofs.lemmas.Grind.{common_steps}
use Rattle.std.specs.Prelude.{if◌then◌else◌, IsOk, is_ok}
use Rattle.hub_machine.specs.Apply.{is_past, step_at}
use Rattle.hub_machine.specs.State.{Hub}
use Rattle.hub_machine.specs.declared.change.Change.TheVariants.{Life}
use Rattle.hub_machine.specs.declared.step.Kept.TheVariants as Of
use Rattle.hub_machine.proofs.EndRows.{ended, not_ended}
use Rattle.hub_machine.proofs.LifeLines.{is_over}
use Rattle.hub_machine.proofs.Owing.{made_of, of_row}
use Rattle.hub_machine.proofs.Pieces.{piece_out, same_piece}
use Rattle.hub_machine.proofs.machine.Machine.end.Goals as goal

pub invariant_of-self : goal.invariant_of-self
invariant_of-self g c =
    let s : Hub = record { tables = c.self.inside.tables; lives = c.self.inside.lives.lives; length = c.self.inside.length; cost = c.self.inside.cost; pool = c.self.inside.lives.pool; hub_url = c.self.inside.hub_url; no_trail = c.self.inside.no_trail } in
    let may : IsOk (step_at s.lives c.args.generation c.args.event) = ap (λ (h : Hub). is_ok (step_at h.lives c.args.generation c.args.event)) c.self.view_is ∙ c.requires.may in
    let m = made_of s.lives c.args.generation c.args.event may in
    let after = of_row s.lives c.args.generation c.args.event m.0 c.in-Some.lease.now c.in-Some.ensures m.1 in
    let kept : c.carry_end-kept.result ≡ Of.Kept = grind (arith, common_steps) in
    piece_out s c.self.inside.lives.next c.args.generation c.args.event c.in-Some.lease.now m.0 c.carry_end-kept.new.tables c.end.new.self c.entry_cost-cost.result c.self.invariant c.are_apart.ensures.apart
    (sym c.in-Some.ensures) after (is_over c.in-Some.lease.now.life c.args.generation c.args.event m.0 c.requires.over after)
    (ap (λ (h : Hub). is_past h (Life c.args.generation c.args.event)) c.self.view_is ∙ c.requires.room)
    (ended c.in-Some.lease.now c.carry_end-kept.result c.self.inside.tables c.carry_end-kept.new.tables c.carry_end-kept.ensures.done kept) c.end.ensures
    (c.entry_cost-cost.ensures ∙ ap (λ (h : Hub). if h.no_trail then 0 else 64) (sym c.self.view_is))

pub invariant_of-self-else-eq : goal.invariant_of-self-else-eq
invariant_of-self-else-eq g c =
    let s : Hub = record { tables = c.self.inside.tables; lives = c.self.inside.lives.lives; length = c.self.inside.length; cost = c.self.inside.cost; pool = c.self.inside.lives.pool; hub_url = c.self.inside.hub_url; no_trail = c.self.inside.no_trail } in
    let unkept : c.carry_end-kept.result ≡ Of.Kept → ⊥ = (λ e. grind (arith, common_steps)) in
    same_piece s c.carry_end-kept.new.tables c.self.inside.lives c.self.inside.lives c.self.invariant
    (not_ended c.in-Some.lease.now c.carry_end-kept.result c.self.inside.tables c.carry_end-kept.new.tables c.carry_end-kept.ensures.done unkept) refl
