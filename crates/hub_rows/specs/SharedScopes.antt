-- The scopes of a share: in the order of their texts, without repeats.
use Rattle.std.specs.Prelude.{ℕ, Bool, not, List, Option, Some, None}
use Rattle.std.specs.List.{filter, fold, insert, list_any}
use Rattle.std.specs.declared.cmp.Ordering.{Ordering}
use Rattle.hub_kit.specs.KeyOrder.{name_cmp}
use Rattle.keyed_rows.specs.Sorted.{with_key}
use Rattle.scope_filters.specs.Scopes.{scope_text}
use Rattle.scope_filters.specs.declared.scope.RawScope.{RawScope}
use Rattle.scope_filters.specs.contracts.scope.RawScopePartialEq.TheImpl as scope

-- by the bytes of their texts
abbrev pub scope_cmp : RawScope → RawScope → Ordering
scope_cmp a b = name_cmp (scope_text a) (scope_text b)

-- the scopes of the first list, each put at its place in the second
abbrev pub with_scopes : (more kept : List RawScope) → List RawScope
with_scopes more kept = fold (λ scopes x. with_key scope_cmp x scopes) kept more

-- a scope put before a place, or nowhere
abbrev pub placed_at : Option ℕ → RawScope → List RawScope → List RawScope
placed_at None x scopes = scopes
placed_at (Some i) x scopes = insert scopes i x

-- a scope isn't among those that go
abbrev pub is_left : (less : List RawScope) → RawScope → Bool
is_left less x = not (list_any (λ y. scope.ghosts.eq y x) less)

-- the scopes of the second list that aren't in the first
abbrev pub without_scopes : (less kept : List RawScope) → List RawScope
without_scopes less kept = filter (is_left less) kept
