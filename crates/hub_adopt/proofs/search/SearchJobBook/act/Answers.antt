use Rattle.std.proofs.Common.{refl}
use Rattle.hub_adopt.proofs.Looking.{found_at}
use Rattle.hub_adopt.proofs.search.SearchJobBook.act.Goals as goal

pub returns-clause-does : goal.returns-clause-does
returns-clause-does g c = (
  refl,
  found_at c.args.book.now c.adopting.result (λ servers. servers.items) c.stands.ensures c.adopting.ensures.listed c.adopting.ensures.small,
)
