use Rattle.std.proofs.Common.{ap, ◌∙◌}
use Rattle.std.specs.FinMap.{get}
use Rattle.std.specs.List.{flat_map}
use Rattle.hub_calls.specs.Facts.{facts_at}
use Rattle.hub_calls.proofs.Listing.{servers_shown}
use Rattle.hub_calls.proofs.facts.servers_of.Goals as goal

pub returns : goal.returns
returns c =
    c.from_vec.ensures ∙ c.in_ok-servers.ensures
    ∙ ap (flat_map (λ key. facts_at c.args.hub.now.lives (get c.args.hub.now.tables.servers key))) (c.as_slice.ensures.value ∙ c.in_ok-keys.ensures)
    ∙ servers_shown c.args.hub.now c.tables-tables.result.now c.args.user.now c.tables-tables.ensures c.own_keys.ensures
