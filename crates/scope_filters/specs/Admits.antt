-- Which objects a filter admits, for an action and the members of the groups.
use Rattle.std.specs.Prelude.{Bool, true, false, ◌&&◌, List}
use Rattle.std.specs.List.{list_any}
use Rattle.hub_kit.specs.declared.names.ServerKey.{ServerKey}
use Rattle.scope_names.specs.declared.action.Action.{Action}
use Rattle.scope_names.specs.declared.action.Action.TheVariants.{ReadUsersName}
use Rattle.scope_filters.specs.declared.object.Object.{Object}
use Rattle.scope_filters.specs.declared.object.Object.TheVariants as Ob
use Rattle.scope_filters.specs.declared.filter.Filter.{Filter}
use Rattle.scope_filters.specs.declared.filter.Filter.TheVariants as Fi
use Rattle.scope_filters.specs.Contexts.{Context, same, is_member}

-- The two keys are those of one server
abbrev pub same_server : ServerKey → ServerKey → Bool
same_server k l = same k.user l.user && same k.server l.server

-- the action `read:users:name`
abbrev pub reads_names : Action → Bool
reads_names ReadUsersName = true
reads_names _ = false

-- The filter f admits the action a on the object x, where m has the members of the groups
abbrev pub admits : Action → Context → Filter → Object → Bool
admits a m Fi.All x = true
admits a m (Fi.User u) (Ob.User w) = same u w
admits a m (Fi.User u) (Ob.Server k) = same u k.user
admits a m (Fi.Group g) (Ob.Group h) = same g h
admits a m (Fi.Group g) (Ob.User u) = is_member m u g
admits a m (Fi.Group g) (Ob.Server k) = is_member m k.user g
admits a m (Fi.Server k) (Ob.Server l) = same_server k l
admits a m (Fi.Server k) (Ob.User u) = reads_names a && same k.user u
admits a m (Fi.Service v) (Ob.Service w) = same v w
admits a m (Fi.OwnerOf u) (Ob.User w) = same u w
admits a m _ _ = false

-- One of the filters admits the action on the object
abbrev pub any_admits : Action → Context → List Filter → Object → Bool
any_admits a m fs x = list_any (λ f. admits a m f x) fs
