-- Why a book isn't opened, from why a part of the opening is refused.
use Rattle.std.proofs.Common.{ℕ, List, ◌≡◌, ◌<◌, ◌≤◌, ◌-◌, ◌^◌, subst, arith, inl, inr}
use Rattle.std.specs.Prelude.{Result, Ok, Err, None}
use Rattle.std.proofs.lemmas.Bool.{cases_lt}
use Rattle.hub_devices.specs.Faults.{Rises}
use Rattle.scope_names.specs.declared.custom.CustomRow.{CustomRow}
use Rattle.hub_rows.specs.declared.limits.Limits.{Limits}
use Rattle.hub_tables.specs.State.{State}
use Rattle.keeper.specs.Rows.{Rows}
use Rattle.hub_opening.specs.Kept.{AreLoaded}
use Rattle.hub_opening.specs.Opening.{IsUnread, IsUnkept, IsMade, IsRefused}
use Rattle.hub_opening.specs.declared.config.HubConfig.{HubConfig}
use Rattle.hub_opening.specs.declared.open_error.OpenError.{OpenError}
use Rattle.hub_opening.specs.declared.open_error.OpenError.TheVariants.{KeeperFault, BadRow, LostTarget, Full, Memory}

-- a count that rose after it had not fallen rose
pub rises_later : (before between after : ℕ) → before ≤ between → between ≤ after → Rises between after → Rises before after
rises_later before between after h k r = λ lt.
    elim (cases_lt between (2 ^ 64 - 1)) as (λ _. before < after) [
      | inl below ↦ let b : between < after = r below in omega (arith, h, b)
      | inr above ↦ omega (arith, h, k, lt, above)
    ]

-- the keeper's rows aren't taken
pub not_read : (c : HubConfig) (now : ℕ) (Tells : Type 0) (has : Rows) (before after : ℕ) (e : OpenError) → IsUnread c.limits c.custom_scopes Tells has before after e → IsRefused c now Tells has before after e
not_read c now Tells has before after KeeperFault u = u
not_read c now Tells has before after (BadRow number name) u = u
not_read c now Tells has before after (LostTarget target) u = absurd u
not_read c now Tells has before after (Full number limit) u = absurd u
not_read c now Tells has before after Memory u = tt

-- the configuration makes nothing of them
pub not_made : (c : HubConfig) (now : ℕ) (Tells : Type 0) (has : Rows) (before after : ℕ) (kept : State) (e : OpenError)
    → AreLoaded c.limits c.custom_scopes Tells has kept → IsMade c now kept (Err e) → IsRefused c now Tells has before after e
not_made c now Tells has before after kept KeeperFault loaded m = absurd m
not_made c now Tells has before after kept (BadRow number name) loaded m = absurd m
not_made c now Tells has before after kept (LostTarget target) loaded m = record { kept = kept; loaded = loaded; lost = m }
not_made c now Tells has before after kept (Full number limit) loaded m = record { kept = kept; loaded = loaded; pooled = m.0; full = m.1 }
not_made c now Tells has before after kept Memory loaded m = tt

-- the rows of the state aren't kept
pub not_kept : (c : HubConfig) (now : ℕ) (Tells : Type 0) (has : Rows) (before between after : ℕ) (e : OpenError)
    → before ≤ between → between ≤ after → IsUnkept between after e → IsRefused c now Tells has before after e
not_kept c now Tells has before between after KeeperFault h k u = rises_later before between after h k u
not_kept c now Tells has before between after (BadRow number name) h k u = absurd u
not_kept c now Tells has before between after (LostTarget target) h k u = absurd u
not_kept c now Tells has before between after (Full number limit) h k u = absurd u
not_kept c now Tells has before between after Memory h k u = tt

-- a keeper that tells its rows later told them before
pub told_before : (limits : Limits) (scopes : List CustomRow) (Before After : Type 0) (has : Rows) (t : State) → (After → Before) → AreLoaded limits scopes Before has t → AreLoaded limits scopes After has t
told_before limits scopes Before After has t before loaded = record { kept = loaded.kept; listed = λ tells. loaded.listed (before tells); tables = loaded.tables }
