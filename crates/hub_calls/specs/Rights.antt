-- What a grant allows in a state.
use Rattle.scope_filters.specs.Grants as grants
use Rattle.hub_view.specs.Fields.{Rights}
use Rattle.roles.specs.Rights.{context}
use Rattle.hub_machine.specs.State.{Hub}

-- among the members that the groups have there
abbrev pub may_of : Hub → grants.Rights → Rights
may_of s grant = grants.grant_admits (context s.tables) grant
