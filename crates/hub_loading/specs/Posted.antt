-- The history that the posts of a job leave.
use Rattle.std.specs.Prelude.{ℕ, zero, suc, false, List, [], ◌∷◌, ◌++◌, None}
use Rattle.access_calls.specs.TokenCalls.{new_token, token_rows}
use Rattle.admin_rules.specs.Users.{new_user}
use Rattle.hub_core.specs.History.{state_after}
use Rattle.hub_machine.specs.State.{Hub}
use Rattle.hub_machine.specs.declared.change.Change.{Change}
use Rattle.hub_machine.specs.declared.change.Change.TheVariants.{Rows}
use Rattle.load_asks.specs.Numbers.{name, token}
use Rattle.scope_filters.specs.declared.holder.Owner.TheVariants.{User}
use Rattle.token_store.specs.Finding.{expired_tokens}
use Rattle.token_store.specs.declared.issuing.TokenAsk.{TokenAsk}

-- user k is put, who is no admin
abbrev pub user_change : ℕ → Change
user_change k = Rows (new_user false 1700000000 (name k) ∷ [])

-- a token that may do all that its owner may, and doesn't end
abbrev pub ask_of : ℕ → TokenAsk
ask_of k = record { owner = name k; scopes = []; note = []; expires_in = None }

-- the token of user k is put under the next number of this state; the user's tokens that are over go
abbrev pub token_change : ℕ → Hub → Change
token_change k s =
    Rows (token_rows (new_token s.tables 1700000000 (token k) (ask_of k)) (expired_tokens s.tables 1700000000 (User (name k))))

-- the first n users, each with a token, put one after the other from this state on
abbrev pub history_of : Hub → ℕ → List Change
history_of s zero = []
history_of s (suc n) =
    let users : List Change = history_of s n ++ user_change n ∷ [] in
    users ++ token_change n (state_after s users) ∷ []

-- what they leave
abbrev pub state_of : Hub → ℕ → Hub
state_of s n = state_after s (history_of s n)
