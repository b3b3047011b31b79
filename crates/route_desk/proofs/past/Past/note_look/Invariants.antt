use Rattle.std.proofs.Common.{[], ◌∷◌}
use Rattle.route_desk.specs.declared.step.Step.TheVariants.{Looked}
use Rattle.route_desk.proofs.past.Past.note_look.Given as goal

abbrev pub ghosts-note_as : goal.ghosts-note_as
ghosts-note_as a = record { more = Looked a.path.now a.now a.answer.now ∷ [] }
