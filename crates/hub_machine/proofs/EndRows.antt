-- The rows of an end may be put, since none of them is found by a hash; and what the end of a lease leaves once they are carried out.
use Rattle.std.proofs.Common.{◌≡◌, ℕ, List, [], ◌∷◌, ◌++◌, map, Option, Some, None, refl, sym, subst}
use Rattle.std.specs.FinMap.{get}
use Rattle.hub_rows.specs.declared.changes.RowChange.{RowChange}
use Rattle.hub_rows.specs.declared.changes.RowChange.TheVariants.{Remove}
use Rattle.hub_rows.specs.declared.records.ServerRow.{ServerRow}
use Rattle.hub_rows.specs.declared.rows.RowKey.TheVariants as RowKey
use Rattle.hub_tables.specs.Changes.{FitAll}
use Rattle.hub_tables.specs.State.{State}
use Rattle.hub_lives.specs.declared.lives.Leased.{Leased}
use Rattle.hub_machine.specs.Apply.{change_done, end_rows, rested, start_tokens, client_of}
use Rattle.hub_machine.specs.Carry.{EndDone}
use Rattle.hub_machine.specs.declared.step.Kept.{Kept as EndKept}
use Rattle.hub_machine.specs.declared.step.Kept.TheVariants as Of

fit_tokens : (ids : List ℕ) (rest : List RowChange) (t : State) → FitAll rest t → FitAll (map (λ id. Remove (RowKey.Token id)) ids ++ rest) t
fit_tokens [] rest t h = h
fit_tokens (id ∷ ids) rest t h = fit_tokens ids rest t h

fit_rested : (row : Option ServerRow) (rest : List RowChange) (t : State) → ((u : State) → FitAll rest u) → FitAll (rested row ++ rest) t
fit_rested None rest t h = h t
fit_rested (Some row) rest t h = (tt, h _)

end_fits : (t u : State) (l : Leased) → FitAll (end_rows t l) u
end_fits t u l = fit_rested (get t.servers l.server) _ u
    (λ v. fit_tokens (start_tokens t l.server) (Remove (RowKey.Lease l.target) ∷ Remove (RowKey.OAuthClient (client_of l.server)) ∷ []) v tt)

pub fits_as_end : (rows : List RowChange) (t : State) (l : Leased) → rows ≡ end_rows t l → FitAll rows t
fits_as_end rows t l e = subst (λ (x : List RowChange). FitAll x t) (sym e) (end_fits t t l)

-- ---- what they leave

pub ended : (l : Leased) (kept : EndKept) (t t' : State) → EndDone l kept t t' → kept ≡ Of.Kept → t' ≡ change_done (end_rows t l) t
ended l Of.Kept t t' h e = h
ended l Of.NotAsked t t' h e = cc
ended l Of.KeeperFault t t' h e = cc
ended l Of.Memory t t' h e = cc

pub not_ended : (l : Leased) (kept : EndKept) (t t' : State) → EndDone l kept t t' → (kept ≡ Of.Kept → ⊥) → t' ≡ t
not_ended l Of.Kept t t' h n = absurd (n refl)
not_ended l Of.NotAsked t t' h n = h
not_ended l Of.KeeperFault t t' h n = h
not_ended l Of.Memory t t' h n = h
