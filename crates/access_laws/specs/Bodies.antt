-- What the body of an identity says of access.
use Rattle.std.specs.Prelude.{◌≡◌, ℕ, Bool, List, Some, None, if◌then◌else◌}
use Rattle.std.specs.Str.{is_utf8}
use Rattle.json.specs.Print.{print}
use Rattle.hub_kit.specs.declared.names.ServerKey.{ServerKey}
use Rattle.scope_names.specs.declared.action.Action.TheVariants.{AccessServers}
use Rattle.scope_filters.specs.declared.object.Object.TheVariants as Ob
use Rattle.scope_filters.specs.declared.scope.RawScope.{RawScope}
use Rattle.hub_view.specs.Fields.{Rights, user_identity, service_identity}
use Rattle.hub_view.specs.Json.{nothing}
use Rattle.hub_view.specs.declared.facts.UserFacts.{UserFacts}
use Rattle.guard.specs.Access.{access_in}

-- a guard reads this in the text, which is UTF-8; in another text it reads nothing
abbrev pub SaysSo : List ℕ → Bool → Type 0
SaysSo text said = access_in text ≡ (if is_utf8 text then Some said else None)

-- what a guard reads in it is what the rights say of entering the server
abbrev pub UsersBodySays : Type 0
UsersBodySays =
    (may : Rights) (u : UserFacts) (scopes : List RawScope) (server : ServerKey)
    → SaysSo (print (user_identity may u scopes (Some server))) (may AccessServers (Ob.Server server))

abbrev pub ServicesBodySays : Type 0
ServicesBodySays =
    (may : Rights) (service : List ℕ) (roles : List (List ℕ)) (scopes : List RawScope) (server : ServerKey)
    → SaysSo (print (service_identity may service roles scopes (Some server))) (may AccessServers (Ob.Server server))

-- a body that is null says nothing
abbrev pub NothingSays : Type 0
NothingSays = access_in (print nothing) ≡ None
