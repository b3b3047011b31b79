use Rattle.std.proofs.Common.{[], ◌∷◌}
use Rattle.route_desk.specs.declared.step.Step.TheVariants.{Asked}
use Rattle.route_desk.proofs.past.Past.note_asked.Given as goal

abbrev pub ghosts-note_reply : goal.ghosts-note_reply
ghosts-note_reply a = record { more = Asked a.secret.now a.now a.request.now a.reply.now ∷ [] }
