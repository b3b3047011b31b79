-- Objects and filters whose names are names.
use Rattle.std.specs.Prelude.{IsTrue}
use Rattle.hub_kit.specs.Names.{IsName, IsServerName}
use Rattle.hub_kit.specs.declared.names.ServerKey.{ServerKey}
use Rattle.scope_names.specs.declared.action.Action.{Action}
use Rattle.scope_filters.specs.declared.object.Object.{Object}
use Rattle.scope_filters.specs.declared.object.Object.TheVariants as Ob
use Rattle.scope_filters.specs.declared.filter.Filter.{Filter}
use Rattle.scope_filters.specs.declared.filter.Filter.TheVariants as Fi
use Rattle.scope_filters.specs.Contexts.{Context}
use Rattle.scope_filters.specs.Grants.{Rights, grant_admits}

-- The key is of a user and a server with names
abbrev pub IsKey : ServerKey → Type 0
IsKey k = IsName k.user × IsServerName k.server

-- The object is one that there may be: the hub, or one whose name is a name
abbrev pub IsObject : Object → Type 0
IsObject Ob.Hub = Unit {0}
IsObject (Ob.User u) = IsName u
IsObject (Ob.Group g) = IsName g
IsObject (Ob.Server k) = IsKey k
IsObject (Ob.Service v) = IsName v

-- The names in the filter are names
abbrev pub IsFilter : Filter → Type 0
IsFilter Fi.All = Unit {0}
IsFilter (Fi.User u) = IsName u
IsFilter (Fi.Group g) = IsName g
IsFilter (Fi.Server k) = IsKey k
IsFilter (Fi.Service v) = IsName v
IsFilter (Fi.OwnerOf u) = IsName u

-- The grant g admits the action a on some object that there may be
abbrev pub AdmitsSomething : Context → Rights → Action → Type 0
AdmitsSomething m g a = (x : Object) × IsObject x × IsTrue (grant_admits m g a x)
