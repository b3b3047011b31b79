-- Rows without an unknown subscope.
use Rattle.std.proofs.Common.{◌≡◌, ℕ, ◌<◌, ◌≤◌, List, length, get_or, refl, subst}
use Rattle.std.specs.Prelude.{Option, Some}
use Rattle.std.specs.Bool.{IsFalse}
use Rattle.std.specs.List.{slice_get}
use Rattle.std.specs.Option.{IsSomeAnd}
use Rattle.std.proofs.lemmas.Option.{slice_get_read, slice_get_past}
use Rattle.scope_names.specs.declared.custom.CustomRow.{CustomRow}
use Rattle.scope_names.specs.Refusals.{is_declared, HasUnknown, IsNever}

abbrev pub IsUnknownOf : List CustomRow → CustomRow → ℕ → Type 0
IsUnknownOf rows row k = IsSomeAnd (slice_get row.subscopes k) (λ name. IsFalse (is_declared name rows))

pub none_here : (rows : List CustomRow) (i : ℕ) (row : CustomRow) → row ≡ get_or rows i row → i < length rows → IsNever (IsUnknownOf rows row) → ¬ (HasUnknown rows i)
none_here rows i row e h never u =
    let at : slice_get rows i ≡ Some row = slice_get_read rows (length rows) i row refl h e in
    never u.0 (subst (λ (o : Option CustomRow). IsSomeAnd o (λ row. IsUnknownOf rows row u.0)) at u.1)

pub none_past : (rows : List CustomRow) (i : ℕ) → length rows ≤ i → ¬ (HasUnknown rows i)
none_past rows i h u = subst (λ (o : Option CustomRow). IsSomeAnd o (λ row. IsUnknownOf rows row u.0)) (slice_get_past rows i h) u.1
