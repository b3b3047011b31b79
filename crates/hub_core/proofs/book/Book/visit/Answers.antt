use Rattle.std.proofs.Common.{◌≡◌, ◌<◌, ◌^◌, ℕ, ap, subst}
use Rattle.hub_machine.specs.Answers.{answer_view}
use Rattle.hub_core.specs.Current.{Looked}
use Rattle.hub_core.specs.History.{change_of}
use Rattle.hub_core.specs.Judged.{decider}
use Rattle.hub_core.specs.Visits.{Standing, Visited, VisitedAt, entries_of}
use Rattle.hub_core.proofs.Done.{may_be_done, answer_numbers, sound_carried}
use Rattle.hub_core.proofs.Looking.{looked_then}
use Rattle.hub_core.proofs.Stamped.{stamped_carried}
use Rattle.hub_core.proofs.Places.{says_of, visited_at, visited_of}
use Rattle.hub_core.proofs.Tied.{reached_carried}
use Rattle.hub_core.proofs.book.Book.visit.Goals as goal

-- a generation that is still to come has its serials
small : {m n : ℕ} → m ≡ n → m < 2 ^ 63 → n < 2 ^ 63
small e h = subst (λ (k : ℕ). k < 2 ^ 63) e h

pub carry-requires-clause-may : goal.carry-requires-clause-may
carry-requires-clause-may g c = may_be_done c.self.inside.machine c.args.now c.args.draw c.args.asked.now (answer_view c.in_ok-answer.answer) c.are_leased.ensures c.self.invariant.1.numbered (small c.next_generation-generation.ensures.value c.next_generation-generation.ensures.room) c.in_ok-answer.ensures.answers

pub invariant_of-self-2 : goal.invariant_of-self-2
invariant_of-self-2 g c = (
  reached_carried (record { machine = c.self.inside.start.value; has_rows = g.K.Keeper.is_told c.self.inside.found.value }) c.args.now c.args.draw c.args.asked.now (answer_view c.in_ok-answer.answer) (says_of (answer_view c.in_ok-answer.answer) c.self.inside.machine) c.carry.result
      (record { hub = c.self.inside.machine; told = g.T.Trail.told c.self.inside.trail; stamp = c.self.inside.stamps.stamp; since = c.self.inside.stamps.since; faults = g.K.Keeper.faults c.self.inside.keeper })
      (record { hub = c.carry.new.machine; told = g.T.Trail.told c.carry.new.trail; stamp = c.carry.new.stamps.stamp; since = c.carry.new.stamps.since; faults = g.K.Keeper.faults c.carry.new.keeper })
      c.in_ok-answer.ensures.answers c.self.invariant.0 c.carry.ensures.carried,
  stamped_carried c.decide.new.rights (change_of (answer_view c.in_ok-answer.answer)) (says_of (answer_view c.in_ok-answer.answer) c.self.inside.machine) c.carry.result
      (record { hub = c.self.inside.machine; told = g.T.Trail.told c.self.inside.trail; stamp = c.self.inside.stamps.stamp; since = c.self.inside.stamps.since; faults = g.K.Keeper.faults c.self.inside.keeper })
      (record { hub = c.carry.new.machine; told = g.T.Trail.told c.carry.new.trail; stamp = c.carry.new.stamps.stamp; since = c.carry.new.stamps.since; faults = g.K.Keeper.faults c.carry.new.keeper })
      (answer_numbers c.self.inside.machine c.args.now c.args.draw c.args.asked.now (answer_view c.in_ok-answer.answer) c.are_leased.ensures c.self.invariant.1.numbered (small c.next_generation-generation.ensures.value c.next_generation-generation.ensures.room) c.in_ok-answer.ensures.answers) c.carry.ensures.carried
      (record { current = c.decide.ensures.current; numbered = c.self.invariant.1.numbered; room = c.self.invariant.1.room }),
  c.carry.ensures.spare c.self.invariant.2,
  c.carry.ensures.keeps c.self.invariant.3,
  λ tells. c.self.invariant.4 (c.carry.ensures.told tells),
)

pub returns-clause-start : goal.returns-clause-start
returns-clause-start g c = ap (λ (b : Standing). b.start) c.self.view_is

pub returns-clause-visited : goal.returns-clause-visited
returns-clause-visited g c =
    let after : Standing = (record {
      start = record { machine = c.self.inside.start.value; has_rows = g.K.Keeper.is_told c.self.inside.found.value };
      hub = c.carry.new.machine;
      told = g.T.Trail.told c.carry.new.trail;
      faults = g.K.Keeper.faults c.carry.new.keeper;
      rights = c.decide.new.rights;
      stamp = c.carry.new.stamps.stamp;
    }) in
    let P : Standing → Type 0 = λ b. Visited b c.args.now c.args.draw c.args.asked.now c.carry.result after in
    subst P c.self.view_is
    (visited_of _ after c.self.inside.stamps.since c.carry.new.stamps.since c.args.now c.args.draw c.args.asked.now (answer_view c.in_ok-answer.answer) c.carry.result
    c.in_ok-answer.ensures.answers c.carry.ensures.carried)

pub returns-clause-reached : goal.returns-clause-reached
returns-clause-reached g c =
    reached_carried (record { machine = c.self.inside.start.value; has_rows = g.K.Keeper.is_told c.self.inside.found.value }) c.args.now c.args.draw c.args.asked.now (answer_view c.in_ok-answer.answer) (says_of (answer_view c.in_ok-answer.answer) c.self.inside.machine) c.carry.result
    (record { hub = c.self.inside.machine; told = g.T.Trail.told c.self.inside.trail; stamp = c.self.inside.stamps.stamp; since = c.self.inside.stamps.since; faults = g.K.Keeper.faults c.self.inside.keeper })
    (record { hub = c.carry.new.machine; told = g.T.Trail.told c.carry.new.trail; stamp = c.carry.new.stamps.stamp; since = c.carry.new.stamps.since; faults = g.K.Keeper.faults c.carry.new.keeper })
    c.in_ok-answer.ensures.answers c.self.invariant.0 c.carry.ensures.carried

pub returns-clause-looked : goal.returns-clause-looked
returns-clause-looked g c =
    let P : Standing → Type 0 = λ b. Looked b.rights b.stamp (decider b.hub c.args.now c.args.asked.now) c.carry.result c.decide.new.rights in
    subst P c.self.view_is (looked_then c.self.inside.rights c.decide.new.rights c.self.inside.stamps.stamp (decider c.self.inside.machine c.args.now c.args.asked.now) c.carry.result
    c.in_ok-answer.ensures.looked)

pub returns-clause-sound : goal.returns-clause-sound
returns-clause-sound g c =
    sound_carried c.args.now c.args.draw c.args.asked.now (answer_view c.in_ok-answer.answer) c.carry.result
    (record { hub = c.self.inside.machine; told = g.T.Trail.told c.self.inside.trail; stamp = c.self.inside.stamps.stamp; since = c.self.inside.stamps.since; faults = g.K.Keeper.faults c.self.inside.keeper })
    (record { hub = c.carry.new.machine; told = g.T.Trail.told c.carry.new.trail; stamp = c.carry.new.stamps.stamp; since = c.carry.new.stamps.since; faults = g.K.Keeper.faults c.carry.new.keeper })
    c.are_leased.ensures c.self.invariant.1.numbered (small c.next_generation-generation.ensures.value c.next_generation-generation.ensures.room) c.in_ok-answer.ensures.answers c.carry.ensures.carried

pub returns-clause-placed : goal.returns-clause-placed
returns-clause-placed g c =
    let P : Standing → Type 0 = λ b.
    VisitedAt b.start (entries_of b) (g.T.Trail.told c.carry.new.trail) b.faults (g.K.Keeper.faults c.carry.new.keeper) c.args.now c.args.draw c.args.asked.now c.carry.result in
    let there = (reached_carried (record { machine = c.self.inside.start.value; has_rows = g.K.Keeper.is_told c.self.inside.found.value }) c.args.now c.args.draw c.args.asked.now (answer_view c.in_ok-answer.answer) (says_of (answer_view c.in_ok-answer.answer) c.self.inside.machine) c.carry.result
    (record { hub = c.self.inside.machine; told = g.T.Trail.told c.self.inside.trail; stamp = c.self.inside.stamps.stamp; since = c.self.inside.stamps.since; faults = g.K.Keeper.faults c.self.inside.keeper })
    (record { hub = c.carry.new.machine; told = g.T.Trail.told c.carry.new.trail; stamp = c.carry.new.stamps.stamp; since = c.carry.new.stamps.since; faults = g.K.Keeper.faults c.carry.new.keeper })
    c.in_ok-answer.ensures.answers c.self.invariant.0 c.carry.ensures.carried) in
    subst P c.self.view_is
    (visited_at (record { machine = c.self.inside.start.value; has_rows = g.K.Keeper.is_told c.self.inside.found.value }) c.args.now c.args.draw c.args.asked.now (answer_view c.in_ok-answer.answer) c.carry.result
    (record { hub = c.self.inside.machine; told = g.T.Trail.told c.self.inside.trail; stamp = c.self.inside.stamps.stamp; since = c.self.inside.stamps.since; faults = g.K.Keeper.faults c.self.inside.keeper })
    (record { hub = c.carry.new.machine; told = g.T.Trail.told c.carry.new.trail; stamp = c.carry.new.stamps.stamp; since = c.carry.new.stamps.since; faults = g.K.Keeper.faults c.carry.new.keeper })
    c.in_ok-answer.ensures.answers c.self.invariant.0 there c.carry.ensures.carried)
