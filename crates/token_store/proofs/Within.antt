-- What the grant of the asked scopes says of these.
use Rattle.std.proofs.Common.{◌≡◌, List, IsTrue, subst, ◌↔◌}
use Rattle.scope_names.specs.declared.action.Action.{Action}
use Rattle.scope_names.specs.declared.custom.CustomRow.{CustomRow}
use Rattle.scope_filters.specs.declared.filter.Filter.{Filter}
use Rattle.scope_filters.specs.declared.holder.Owner.{Owner}
use Rattle.scope_filters.specs.declared.object.Object.{Object}
use Rattle.scope_filters.specs.declared.scope.RawScope.{RawScope}
use Rattle.scope_filters.specs.Contexts.{Context}
use Rattle.scope_filters.specs.Grants.{Rights, grant_admits}
use Rattle.scope_expand.specs.Covering.{GrantsCovered}
use Rattle.scope_expand.specs.Meaning.{IsMeant, plain_scopes}
use Rattle.scope_meet.specs.Containment.{IsInside, same_filter}
use Rattle.scope_meet.specs.declared.inside.Inside.{Inside}
use Rattle.scope_meet.specs.declared.inside.Inside.TheVariants.{Yes, NotHeld}
use Rattle.hub_tables.specs.Memberships.{members_of}
use Rattle.hub_tables.specs.State.{State}
use Rattle.token_store.specs.Issuing.{AreWithin, asking}

module _ (t : State) (rights asked : Rights) (owner : Owner) (scopes : List RawScope)
    (admits : (m : Context) (a : Action) (x : Object) → IsTrue (grant_admits m asked a x) ↔ IsMeant t.scopes scopes (asking owner) m a x)
    (rows : GrantsCovered t.scopes (plain_scopes scopes (asking owner)) asked) where
  of_table : (inside : Inside) → IsInside (members_of t.groups) asked rights inside → AreWithin t rights owner scopes inside
  of_table Yes h = λ a x object meant. h a x object ((admits (members_of t.groups) a x).1 meant)
  of_table (NotHeld a f) h = (
    ((rows (same_filter f) a).0 h.0.0, h.0.1),
    λ b k missing. h.1 b k ((rows (same_filter k) b).1 missing.0, missing.1),
  )

-- the same where the table is that of the tables
pub of_asked : (t : State) (rights asked : Rights) (owner : Owner) (scopes : List RawScope) (table : List CustomRow) → table ≡ t.scopes
    → ((m : Context) (a : Action) (x : Object) → IsTrue (grant_admits m asked a x) ↔ IsMeant table scopes (asking owner) m a x) → GrantsCovered table (plain_scopes scopes (asking owner)) asked
    → (inside : Inside) → IsInside (members_of t.groups) asked rights inside → AreWithin t rights owner scopes inside
of_asked t rights asked owner scopes table e admits rows =
    of_table t rights asked owner scopes
    (subst (λ (table : List CustomRow). (m : Context) (a : Action) (x : Object) → IsTrue (grant_admits m asked a x) ↔ IsMeant table scopes (asking owner) m a x) e admits)
    (subst (λ (table : List CustomRow). GrantsCovered table (plain_scopes scopes (asking owner)) asked) e rows)
