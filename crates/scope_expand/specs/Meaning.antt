-- What scopes mean for a holder: plain scopes, each an action with a filter; and what they admit.
use Rattle.std.specs.Prelude.{List, [], ◌∷◌, Option, Some, None, IsTrue}
use Rattle.std.specs.List.{flat_map}
use Rattle.hub_kit.specs.declared.names.ServerKey.{ServerKey}
use Rattle.scope_names.specs.declared.action.Action.{Action}
use Rattle.scope_names.specs.declared.action.Action.TheVariants.{AccessServers, ReadShares, ReadUsers, Servers, Tokens, UsersActivity}
use Rattle.scope_names.specs.declared.action.Action.TheVariants.{UsersShares}
use Rattle.scope_names.specs.declared.custom.CustomRow.{CustomRow}
use Rattle.scope_names.specs.Coverage.{Covers}
use Rattle.scope_filters.specs.declared.filter.Filter.{Filter}
use Rattle.scope_filters.specs.declared.filter.Filter.TheVariants as Fi
use Rattle.scope_filters.specs.declared.holder.Holder.{Holder}
use Rattle.scope_filters.specs.declared.holder.Owner.{Owner}
use Rattle.scope_filters.specs.declared.holder.Owner.TheVariants as Own
use Rattle.scope_filters.specs.declared.object.Object.{Object}
use Rattle.scope_filters.specs.declared.scope.RawFilter.{RawFilter}
use Rattle.scope_filters.specs.declared.scope.RawFilter.TheVariants as Raw
use Rattle.scope_filters.specs.declared.scope.RawScope.{RawScope}
use Rattle.scope_filters.specs.declared.scope.RawScope.TheVariants.{Plain, SelfScope, Inherit}
use Rattle.scope_filters.specs.Admits.{admits}
use Rattle.scope_filters.specs.Contexts.{Context}
use Rattle.scope_expand.specs.declared.PlainScope.{PlainScope}
use Rattle.scope_expand.specs.Passes.{OneOf}

-- the owner where it is a user, the owner where it is a service, and the server of issue
abbrev pub owning_user : Owner → Option Filter
owning_user (Own.User user) = Some (Fi.User user)
owning_user (Own.Service service) = None

abbrev pub owning_service : Owner → Option Filter
owning_service (Own.User user) = None
owning_service (Own.Service service) = Some (Fi.Service service)

abbrev pub server_of_issue : Option ServerKey → Option Filter
server_of_issue (Some server) = Some (Fi.Server server)
server_of_issue None = None

-- the filter that a filter as written means for a holder, if any
abbrev pub filter_meant : RawFilter → Holder → Option Filter
filter_meant Raw.Unfiltered holder = Some Fi.All
filter_meant (Raw.User user) holder = Some (Fi.User user)
filter_meant (Raw.Group group) holder = Some (Fi.Group group)
filter_meant (Raw.Server server) holder = Some (Fi.Server server)
filter_meant (Raw.Service service) holder = Some (Fi.Service service)
filter_meant Raw.HolderUser holder = owning_user holder.owner
filter_meant Raw.HolderServer holder = server_of_issue holder.issued_for
filter_meant Raw.HolderService holder = owning_service holder.owner

-- an action with a filter, or nothing without one
abbrev pub under : Action → Option Filter → List PlainScope
under action (Some filter) = record { action = action; filter = filter } ∷ []
under action None = []

-- the scopes that `self` stands for, each filtered by an owning user
abbrev pub profile : List Action
profile = ReadUsers ∷ UsersActivity ∷ Servers ∷ Tokens ∷ AccessServers ∷ ReadShares ∷ UsersShares ∷ []

-- what a scope means for a holder
abbrev pub means : RawScope → Holder → List PlainScope
means (Plain action filter) holder = under action (filter_meant filter holder)
means SelfScope holder = flat_map (λ action. under action (owning_user holder.owner)) profile
means Inherit holder = []

abbrev pub plain_scopes : List RawScope → Holder → List PlainScope
plain_scopes scopes holder = flat_map (λ scope. means scope holder) scopes

-- some scope means, for the holder, one that covers the action and admits it on the object
abbrev pub IsMeant : List CustomRow → List RawScope → Holder → Context → Action → Object → Type 0
IsMeant table scopes holder m a x = OneOf (λ scope. Covers table scope.action a × IsTrue (admits a m scope.filter x))
    (plain_scopes scopes holder)
