-- Which paths some texts are.
use Rattle.std.proofs.Common.{◌≡◌, codes, Some, None, refl}
use Rattle.hub_paths.specs.Paths.{every_path, path_of}
use Rattle.hub_paths.specs.declared.paths.Path.TheVariants.{Version, Identity, Users, User}

pub version_path : path_of (codes "/hub/api/") ≡ Some Version
unfolding path_of every_path
version_path = refl

pub identity_path : path_of (codes "/hub/api/user") ≡ Some Identity
unfolding path_of every_path
identity_path = refl

pub users_path : path_of (codes "/hub/api/users") ≡ Some Users
unfolding path_of every_path
users_path = refl

pub user_path : path_of (codes "/hub/api/users/ann") ≡ Some User
unfolding path_of every_path
user_path = refl

pub no_name_path : path_of (codes "/hub/api/users/") ≡ None
unfolding path_of every_path
no_name_path = refl
