-- Which servers and users are culled: those that are idle, and servers that are too old.
use Rattle.std.specs.Prelude.{ℕ, ◌+◌, Bool, true, false, not, ◌&&◌, ◌||◌, nat_le, nat_lt, if◌then◌else◌, List, [], ◌∷◌, ◌++◌, map, filter}
use Rattle.std.specs.Prelude.{Option, Some, None}
use Rattle.std.specs.List.{flat_map}
use Rattle.idle_culler.specs.declared.rules.Cull.{Cull}
use Rattle.idle_culler.specs.declared.rules.Cull.TheVariants as Of
use Rattle.idle_culler.specs.declared.rules.CullOptions.{CullOptions}
use Rattle.idle_culler.specs.declared.views.ServerView.{ServerView}
use Rattle.idle_culler.specs.declared.views.UserView.{UserView}

-- so many seconds have passed since a moment; without a moment they haven't
abbrev pub has_passed : ℕ → ℕ → Option ℕ → Bool
has_passed now wait None = false
has_passed now wait (Some since) = nat_le (since + wait) now

abbrev pub or_else : Option ℕ → Option ℕ → Option ℕ
or_else (Some m) other = Some m
or_else None other = other

-- ---- servers

-- an age of 0 is none
abbrev pub is_old : CullOptions → ℕ → Option ℕ → Bool
is_old options now started = nat_lt 0 options.max_age && has_passed now options.max_age started

-- a server that is ready and waits for nothing, and is idle or too old; it was active when it started, where nothing else is known
abbrev pub is_culled_server : CullOptions → ℕ → ServerView → Bool
is_culled_server options now s =
    s.ready && not s.pending
    && (has_passed now options.timeout (or_else s.last_activity s.started) || is_old options now s.started)

abbrev pub culled_servers : CullOptions → ℕ → List ℕ → List ServerView → List Cull
culled_servers options now user servers =
    map (λ s. Of.Server (record { user = user; server = s.name })) (filter (is_culled_server options now) servers)

-- ---- users

abbrev pub is_shown_false : Option Bool → Bool
is_shown_false (Some false) = true
is_shown_false (Some true) = false
is_shown_false None = false

abbrev pub is_shown_empty : Option (List ServerView) → Bool
is_shown_empty (Some []) = true
is_shown_empty (Some (s ∷ servers)) = false
is_shown_empty None = false

-- an idle user who is shown to be no admin and to have no servers; one who was never active was when it was created
abbrev pub is_culled_user : CullOptions → ℕ → UserView → Bool
is_culled_user options now u =
    options.cull_users && is_shown_false u.admin && is_shown_empty u.servers
    && has_passed now options.timeout (or_else u.last_activity u.created)

-- ---- the list

abbrev pub servers_of : Option (List ServerView) → List ServerView
servers_of (Some servers) = servers
servers_of None = []

-- a user's servers, and then the user
abbrev pub culled_of : CullOptions → ℕ → UserView → List Cull
culled_of options now u =
    culled_servers options now u.name (servers_of u.servers)
    ++ (if is_culled_user options now u then Of.User u.name ∷ [] else [])

abbrev pub culled : CullOptions → ℕ → List UserView → List Cull
culled options now users = flat_map (culled_of options now) users
