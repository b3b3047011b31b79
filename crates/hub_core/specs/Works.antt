-- Work that can be done.
use Rattle.std.specs.Prelude.{◌≡◌, ◌≢◌, ◌<◌, ◌^◌, IsSome}
use Rattle.server_life.specs.declared.life.Todo.TheVariants.{Nothing, Start}
use Rattle.hub_machine.specs.declared.work.Work.{Work}
use Rattle.hub_machine.specs.declared.reply.Outcome as out
use Rattle.hub_machine.specs.declared.reply.Outcome.TheVariants as given

-- a generation with serials for its route, a call that is owed, and for a start the secret of the server's token
pub record IsSound (w : Work) : Type 0 where
  pub small : w.generation < 2 ^ 63
  pub owes : w.todo ≢ Nothing
  pub secret : w.todo ≡ Start → IsSome w.secret

-- The work of the outcome, if it has one, can be done
abbrev pub IsSoundOutcome : out.Outcome → Type 0
IsSoundOutcome (given.Answer r) = Unit {0}
IsSoundOutcome (given.Work w) = IsSound w
