use Rattle.std.proofs.Common.{[], ap, sym, ◌∙◌}
use Rattle.scope_filters.specs.Grants.{grant_admits}
use Rattle.hub_view.specs.Json.{truth}
use Rattle.hub_view.specs.Fields.{access_member}
use Rattle.hub_view.proofs.Tokens.{tokens_of_truth}
use Rattle.hub_view.proofs.identity.access.Goals as goal

pub returns-in-Some : goal.returns-in-Some
returns-in-Some g c = λ kept.
    c.add.ensures [] _ c.new-fields.ensures (tokens_of_truth c.admits-enters.result ∙ ap truth c.admits-enters.ensures) kept
    ∙ ap (access_member (grant_admits (g.M.Members.context c.args.m.now) c.args.rights.now)) (sym c.in-Some.is)
