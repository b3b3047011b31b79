use Rattle.std.proofs.Common.{ap, refl, subst}
use Rattle.hub_core.specs.Lived.{LivesOn, LivedAt}
use Rattle.hub_core.specs.Visits.{Standing, entries_of}
use Rattle.hub_core.proofs.Living.{reached_stepped, stamped_lives, lived_at, same_count}
use Rattle.hub_core.proofs.book.Book.life.Goals as goal

pub invariant_of-self : goal.invariant_of-self
invariant_of-self g c = (
  reached_stepped (record { machine = c.self.inside.start.value; has_rows = g.K.Keeper.is_told c.self.inside.found.value }) c.self.inside.machine c.step.new.self
      (g.T.Trail.told c.self.inside.trail) (g.T.Trail.told c.step.new.trail) c.args.generation c.args.event c.step.result
      (g.K.Keeper.faults c.self.inside.keeper) (g.K.Keeper.faults c.step.new.keeper) c.requires.outcome c.self.invariant.0 c.step.ensures.steps,
  stamped_lives c.self.inside.rights c.self.inside.machine c.step.new.self c.self.inside.stamps.since c.self.inside.stamps.stamp (g.T.Trail.told c.self.inside.trail) (g.T.Trail.told c.step.new.trail)
      c.args.generation c.args.event c.step.result
      (g.K.Keeper.faults c.self.inside.keeper) (g.K.Keeper.faults c.step.new.keeper) c.step.ensures.steps c.self.invariant.1,
  c.step.ensures.room,
  λ tells. c.step.ensures.keeps tells (c.self.invariant.3 (c.step.ensures.told tells)),
  λ tells. c.self.invariant.4 (c.step.ensures.told tells),
)

pub returns-clause-start : goal.returns-clause-start
returns-clause-start g c = ap (λ (b : Standing). b.start) c.self.view_is

pub returns-clause-reached : goal.returns-clause-reached
returns-clause-reached g c =
    reached_stepped (record { machine = c.self.inside.start.value; has_rows = g.K.Keeper.is_told c.self.inside.found.value }) c.self.inside.machine c.step.new.self
    (g.T.Trail.told c.self.inside.trail) (g.T.Trail.told c.step.new.trail) c.args.generation c.args.event c.step.result
    (g.K.Keeper.faults c.self.inside.keeper) (g.K.Keeper.faults c.step.new.keeper) c.requires.outcome c.self.invariant.0 c.step.ensures.steps

pub returns-clause-lives : goal.returns-clause-lives
returns-clause-lives g c =
    let new : Standing = (record {
      start = record { machine = c.self.inside.start.value; has_rows = g.K.Keeper.is_told c.self.inside.found.value };
      hub = c.step.new.self;
      told = g.T.Trail.told c.step.new.trail;
      faults = g.K.Keeper.faults c.step.new.keeper;
      rights = c.self.inside.rights;
      stamp = c.self.inside.stamps.stamp;
    }) in
    let P : Standing → Type 0 = λ b. LivesOn b new c.args.generation c.args.event c.step.result in
    subst P c.self.view_is (record {
      steps = c.step.ensures.steps;
      stamped = refl;
      rights = refl;
      unasked = λ e. ap g.K.Keeper.faults (c.step.ensures.calm e);
      refused = same_count c.step.result (ap g.K.Keeper.faults) c.step.ensures.untouched;
    })

pub returns-clause-placed : goal.returns-clause-placed
returns-clause-placed g c =
    let P : Standing → Type 0 = λ b.
    LivedAt b.start (entries_of b) (g.T.Trail.told c.step.new.trail) b.faults (g.K.Keeper.faults c.step.new.keeper) c.args.generation c.args.event c.step.result in
    let there = reached_stepped (record { machine = c.self.inside.start.value; has_rows = g.K.Keeper.is_told c.self.inside.found.value }) c.self.inside.machine c.step.new.self
    (g.T.Trail.told c.self.inside.trail) (g.T.Trail.told c.step.new.trail) c.args.generation c.args.event c.step.result
    (g.K.Keeper.faults c.self.inside.keeper) (g.K.Keeper.faults c.step.new.keeper) c.requires.outcome c.self.invariant.0 c.step.ensures.steps in
    subst P c.self.view_is
    (lived_at (record { machine = c.self.inside.start.value; has_rows = g.K.Keeper.is_told c.self.inside.found.value }) c.self.inside.machine c.step.new.self
    (g.T.Trail.told c.self.inside.trail) (g.T.Trail.told c.step.new.trail) c.args.generation c.args.event c.step.result
    (g.K.Keeper.faults c.self.inside.keeper) (g.K.Keeper.faults c.step.new.keeper) c.self.invariant.0 there c.step.ensures.steps
    (same_count c.step.result (ap g.K.Keeper.faults) c.step.ensures.untouched))
