use Rattle.route_desk.proofs.StepLemmas.{appends}
use Rattle.route_desk.proofs.jobs.AskJobJobRouteBook.act.Goals as goal

pub returns-clause-appends : goal.returns-clause-appends
returns-clause-appends c = appends c.args.book.now c.ask.new.self _ c.ask.ensures
