-- What a route link was asked and told, from the list to the last call of its plan.
use Rattle.std.proofs.Common.{◌≡◌, List, [], ◌∷◌, map, inr, Option, Ok, Err, refl, sym, subst}
use Rattle.hub_devices.specs.declared.calls.ListedRoute.{ListedRoute}
use Rattle.hub_devices.specs.declared.calls.Routing.{Routing}
use Rattle.hub_devices.specs.declared.calls.Routing.TheVariants as Route
use Rattle.hub_devices.specs.declared.calls.Told.{Told}
use Rattle.hub_devices.specs.declared.calls.Told.TheVariants.{Listed}
use Rattle.hub_devices.specs.Calls.{Grows}
use Rattle.hub_devices.proofs.CallLemmas.{Grows_then}
use Rattle.hub_sync.specs.declared.calls.RouteCall.{RouteCall}
use Rattle.hub_sync.specs.declared.calls.Synced.{Synced}
use Rattle.hub_sync.specs.declared.calls.SyncFault.TheVariants as Fault
use Rattle.hub_sync.specs.Syncing.{as_done, AllDone, UpToFailure, SyncTold}

module _ (plans : List ListedRoute → List RouteCall → Type 0) (items listed : List ListedRoute) (planned calls : List RouteCall)
    (a b c : Option (List (Routing × Told))) where
  pub sync_done : (s : Synced) → listed ≡ items → calls ≡ planned → Grows a ((Route.List, Listed items) ∷ []) b → plans listed planned
      → AllDone calls s × Grows b (map as_done calls) c → (told : List (Routing × Told)) × Grows a told c × SyncTold plans told (Ok s)
  sync_done s same is first plan (all, later) = (
    (Route.List, Listed items) ∷ map as_done calls,
    Grows_then a b c ((Route.List, Listed items) ∷ []) (map as_done calls) first later,
    (items, calls, subst (λ (l : List ListedRoute). plans l calls) same (subst (λ (k : List RouteCall). plans listed k) (sym is) plan), refl, all),
  )

  pub sync_failed : listed ≡ items → calls ≡ planned → Grows a ((Route.List, Listed items) ∷ []) b → plans listed planned
      → (changes : List (Routing × Told)) × UpToFailure calls changes × Grows b changes c → (told : List (Routing × Told)) × Grows a told c × SyncTold plans told (Err Fault.Routes)
  sync_failed same is first plan (changes, up, later) = (
    (Route.List, Listed items) ∷ changes,
    Grows_then a b c ((Route.List, Listed items) ∷ []) changes first later,
    inr (items, calls, changes, subst (λ (l : List ListedRoute). plans l calls) same (subst (λ (k : List RouteCall). plans listed k) (sym is) plan), refl, up),
  )
