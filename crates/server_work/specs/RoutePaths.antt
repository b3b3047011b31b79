-- The path of a server's route.
use Rattle.std.specs.Prelude.{ℕ, List, [], ◌∷◌, ◌++◌, codes}
use Rattle.hub_kit.specs.declared.names.ServerKey.{ServerKey}

-- What stands for a server behind its user's name: a slash and its name, or nothing for the default server
abbrev pub below_user : List ℕ → List ℕ
below_user [] = []
below_user (b ∷ bs) = codes "/" ++ (b ∷ bs)

-- the default server's has the user's name alone
abbrev pub route_path : ServerKey → List ℕ
route_path key = codes "/user/" ++ (key.user ++ below_user key.server)
