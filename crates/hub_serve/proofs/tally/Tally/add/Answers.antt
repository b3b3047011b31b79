use Rattle.std.proofs.Common.{◌∙◌, ap, map}
use Rattle.keeper.specs.Pasts.{entries_of}
use Rattle.hub_serve.proofs.ShiftLemmas.{map_push}
use Rattle.hub_serve.proofs.tally.Tally.add.Goals as goal

pub returns-clause-shifts : goal.returns-clause-shifts
returns-clause-shifts g c = ap (λ l. map entries_of l) c.add.ensures ∙ map_push entries_of _ _
