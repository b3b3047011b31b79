-- Rows that put users or a group, and nothing else.
use Rattle.std.specs.Prelude.{◌≡◌, ℕ, List, [], ◌∷◌, Option, Some, None}
use Rattle.hub_rows.specs.declared.records.User.{User}
use Rattle.hub_rows.specs.declared.records.Group.{Group}
use Rattle.hub_rows.specs.declared.changes.RowChange.{RowChange}
use Rattle.hub_rows.specs.declared.changes.RowChange.TheVariants.{Put}
use Rattle.hub_rows.specs.declared.rows.Row.TheVariants as Row
use Rattle.hub_view.specs.Json.{Json}
use Rattle.hub_view.specs.Fields.{Rights}
use Rattle.hub_machine.specs.State.{Hub}
use Rattle.hub_calls.specs.Facts.{user_body, user_at, group_body, group_at}

-- the user of this name, or none
abbrev pub PutsUser : List ℕ → List RowChange → Type 0
PutsUser u [] = Unit {0}
PutsUser u (Put (Row.User x) ∷ []) = x.name ≡ u
PutsUser u _ = ⊥

-- the group of this name, or none
abbrev pub PutsGroup : List ℕ → List RowChange → Type 0
PutsGroup g [] = Unit {0}
PutsGroup g (Put (Row.Group x) ∷ []) = x.name ≡ g
PutsGroup g _ = ⊥

-- the user and the group that the first row puts, if it does
abbrev pub user_put : List RowChange → Option User
user_put (Put (Row.User x) ∷ rest) = Some x
user_put _ = None

abbrev pub group_put : List RowChange → Option Group
group_put (Put (Row.Group x) ∷ rest) = Some x
group_put _ = None

-- the body of what is put, or else of what is kept
abbrev pub with_put_user : Rights → Hub → List ℕ → Option User → Json
with_put_user may s u None = user_at may s u
with_put_user may s u (Some x) = user_body may s x

abbrev pub with_put_group : Rights → Hub → List ℕ → Option Group → Json
with_put_group may s g None = group_at may s g
with_put_group may s g (Some x) = group_body may s x

-- the bodies of the users that are put
abbrev pub bodies_put : Rights → Hub → List RowChange → List Json
bodies_put may s [] = []
bodies_put may s (Put (Row.User x) ∷ rest) = user_body may s x ∷ bodies_put may s rest
bodies_put may s (_ ∷ rest) = bodies_put may s rest
