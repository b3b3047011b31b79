use Rattle.std.proofs.Common.{◌≤◌, ◌∙◌, IsTrue, ap, refl, sym, subst, arith}
use Rattle.hub_machine.specs.State.{Hub}
use Rattle.hub_core.proofs.Looking.{current_empty}
use Rattle.hub_core.proofs.Numbered.{numbered_opened}
use Rattle.hub_core.proofs.Found.{set_up_where}
use Rattle.hub_core.proofs.Tied.{reached_opening}
use Rattle.hub_core.proofs.book.Book.open.Goals as goal

pub invariant_of-result : goal.invariant_of-result
invariant_of-result g c = (
  reached_opening (record { machine = c.of-start.result.value; has_rows = g.K.Keeper.is_told c.of-found.result.value }) (g.T.Trail.told c.open_machine.new.trail) c.in-Ok-open_machine.machine
      c.of-start.ensures (ap (λ (hub : Hub). hub.length) c.in-Ok-open_machine.ensures.ok.hub) (c.open_machine.ensures.trail ∙ c.requires.empty),
  record {
    current = current_empty c.in-Ok.rights c.in-Ok-open_machine.machine.tables 0 1024 c.in-Ok.ensures;
    numbered = numbered_opened c.args.config.now c.args.now (g.K.Keeper.Tells c.open_machine.new.keeper) (g.K.Keeper.rows c.args.keeper) c.in-Ok-open_machine.machine c.in-Ok-open_machine.ensures.ok;
    room = let none : 0 ≤ c.in-Ok-open_machine.machine.length = omega arith in none;
  },
  c.in-Ok-open_machine.ensures.room,
  c.in-Ok-open_machine.ensures.keeps,
  λ tells. subst (λ k. IsTrue (g.K.Keeper.is_told k)) (sym c.of-found.ensures) ((g.met.K.Keeper.decides c.open_machine.new.keeper).0 tells),
)

pub returns-in-Ok-open_machine-clause-ok : goal.returns-in-Ok-open_machine-clause-ok
returns-in-Ok-open_machine-clause-ok g c =
    let decides = g.met.K.Keeper.decides c.open_machine.new.keeper in
    let was : IsTrue (g.K.Keeper.is_told c.of-found.result.value) → g.K.Keeper.Tells c.open_machine.new.keeper =
    λ has. decides.1 (subst (λ k. IsTrue (g.K.Keeper.is_told k)) c.of-found.ensures has) in
    record {
      set_up = set_up_where c.args.config.now c.args.now (IsTrue (g.K.Keeper.is_told c.of-found.result.value)) (g.K.Keeper.Tells c.open_machine.new.keeper) (g.K.Keeper.rows c.args.keeper)
          c.of-start.result.value c.in-Ok-open_machine.machine c.of-start.ensures was c.in-Ok-open_machine.ensures.ok;
      was_told = λ has. c.open_machine.ensures.told (was has);
      hub = sym c.of-start.ensures;
      told = c.open_machine.ensures.trail ∙ c.requires.empty;
      counted = c.open_machine.ensures.counted;
      rights = c.in-Ok.ensures;
      stamp = refl;
    }
