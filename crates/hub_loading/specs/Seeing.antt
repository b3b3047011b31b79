-- Whom a token sees.
use Rattle.std.specs.Prelude.{◌≡◌, ◌↔◌, ℕ, Bool, true, IsTrue, List, Some}
use Rattle.std.specs.FinMap.{contains_key}
use Rattle.hub_core.specs.Answer.{good_token}
use Rattle.hub_machine.specs.State.{Hub}
use Rattle.hub_rows.specs.declared.records.Token.{Token}
use Rattle.roles.specs.Rights.{IsAllowed}
use Rattle.scope_filters.specs.declared.object.Object.TheVariants as Ob
use Rattle.scope_names.specs.declared.action.Action.TheVariants.{ReadUsersName}

-- the text is that of a token that is good at the moment, it may see the user's name, and there is that user
pub record Sees (s : Hub) (now : ℕ) (token user : List ℕ) : Type 0 where
  pub holder : Token
  pub good : good_token s.tables now (Some token) ≡ Some holder
  pub allowed : IsAllowed s.tables holder ReadUsersName (Ob.User user)
  pub there : contains_key s.tables.users user ≡ true

-- a user was found exactly where the token sees it
abbrev pub IsSeen : List ℕ → List ℕ → Bool → Hub → ℕ → Type 0
IsSeen token user found s now = IsTrue found ↔ Sees s now token user
