-- The paths of the calls, and which of them a text is.
use Rattle.std.specs.Prelude.{ℕ, List, [], ◌∷◌, codes, Bool, ◌==◌, nat_eq, nat_lt, length, if◌then◌else◌, Option}
use Rattle.std.specs.List.{find, slice_split, starts_with}
use Rattle.std.specs.Cmp.Lexicographic.{pointwise}
use Rattle.hub_paths.specs.declared.paths.Path.{Path}
use Rattle.hub_paths.specs.declared.paths.Path.TheVariants.{Bare, Version, Info, Identity, Users, User, Activity, DefaultServer}
use Rattle.hub_paths.specs.declared.paths.Path.TheVariants.{NamedServer, Tokens, Token, Shared, GivenShares, DefaultShares, ServerShares}
use Rattle.hub_paths.specs.declared.paths.Path.TheVariants.{GivenCodes, DefaultCodes, ServerCodes, Groups, Group, Members, Services}
use Rattle.hub_paths.specs.declared.paths.Path.TheVariants.{Service, Roles, Role, Authorize, Trade, Proxy}

-- the text of each path; a name between braces stands for one segment of a byte or more
abbrev pub text_of : Path → List ℕ
text_of Bare = codes "/hub/api"
text_of Version = codes "/hub/api/"
text_of Info = codes "/hub/api/info"
text_of Identity = codes "/hub/api/user"
text_of Users = codes "/hub/api/users"
text_of User = codes "/hub/api/users/{user}"
text_of Activity = codes "/hub/api/users/{user}/activity"
text_of DefaultServer = codes "/hub/api/users/{user}/server"
text_of NamedServer = codes "/hub/api/users/{user}/servers/{server}"
text_of Tokens = codes "/hub/api/users/{user}/tokens"
text_of Token = codes "/hub/api/users/{user}/tokens/{id}"
text_of Shared = codes "/hub/api/users/{user}/shared"
text_of GivenShares = codes "/hub/api/shares/{owner}"
text_of DefaultShares = codes "/hub/api/shares/{owner}/"
text_of ServerShares = codes "/hub/api/shares/{owner}/{server}"
text_of GivenCodes = codes "/hub/api/share-codes/{owner}"
text_of DefaultCodes = codes "/hub/api/share-codes/{owner}/"
text_of ServerCodes = codes "/hub/api/share-codes/{owner}/{server}"
text_of Groups = codes "/hub/api/groups"
text_of Group = codes "/hub/api/groups/{group}"
text_of Members = codes "/hub/api/groups/{group}/users"
text_of Services = codes "/hub/api/services"
text_of Service = codes "/hub/api/services/{service}"
text_of Roles = codes "/hub/api/roles"
text_of Role = codes "/hub/api/roles/{role}"
text_of Authorize = codes "/hub/api/oauth2/authorize"
text_of Trade = codes "/hub/api/oauth2/token"
text_of Proxy = codes "/hub/api/proxy"

-- the paths of the calls that are built. No text fits two of them, so their order says nothing
unfoldable pub every_path : List Path
every_path =
    Members ∷ Group ∷ Groups ∷ Info ∷ Authorize ∷ Trade ∷ Proxy ∷ Role ∷ Roles ∷ Service ∷ Services ∷ ServerCodes ∷ DefaultCodes ∷
    GivenCodes ∷ ServerShares ∷ DefaultShares
    ∷ GivenShares ∷ Activity ∷ NamedServer ∷ DefaultServer ∷ Shared ∷ Token ∷ Tokens ∷ User ∷ Users ∷ Identity ∷ Version ∷ Bare ∷ []

-- what stands between the slashes of a text
abbrev pub segments : List ℕ → List (List ℕ)
segments text = slice_split (λ b. b == 47) text

-- a part of a path that begins with a brace fits each segment of a byte or more, and any other part fits itself alone
abbrev pub fits_part : (part segment : List ℕ) → Bool
fits_part part segment = if starts_with nat_eq part (codes "{") then nat_lt 0 (length segment) else pointwise nat_eq part segment

-- a path fits a text if its parts fit the text's segments, one by one
abbrev pub fits : (path text : List ℕ) → Bool
fits path text = pointwise fits_part (segments path) (segments text)

-- the path that a text is. Nothing is decoded before
unfoldable pub path_of : List ℕ → Option Path
path_of text = find (λ path. fits (text_of path) text) every_path
