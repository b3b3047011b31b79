-- The calls of route sync are those of the world.
use Rattle.std.proofs.Common.{◌≡◌, ◌≢◌, ◌+◌, ◌*◌, ◌/◌, ◌%◌, ◌==◌, ℕ, Bool, true, false, not, ◌&&◌, cond, List, Option, Some, None, refl, sym, ap, ◌∙◌, arith}
use Rattle.std.proofs.lemmas.Bool.Decides.{nat_tests}
use Rattle.std.specs.Prelude.{nat_eq, option_map}
use Rattle.std.specs.FinMap.{get}
use Rattle.std.specs.Cmp.Lexicographic.{pointwise}
use Rattle.hub_core.specs.declared.live.LiveServer.{LiveServer}
use Rattle.hub_devices.specs.declared.calls.ListedRoute.{ListedRoute}
use Rattle.hub_devices.specs.declared.calls.Routing.TheVariants as Route
use Rattle.hub_kit.specs.declared.names.ServerKey.{ServerKey}
use Rattle.hub_lives.specs.Lives.{Lives}
use Rattle.hub_lives.specs.declared.lives.Leased.{Leased}
use Rattle.hub_lives.proofs.Holders.{is_same}
use Rattle.hub_sync.specs.Plans.{is_listed, addition_of, deletion_by, deletion_of, is_live_at}
use Rattle.hub_sync.specs.Syncing.{asked_of}
use Rattle.hub_sync.specs.declared.calls.RouteCall.{RouteCall}
use Rattle.hub_sync.specs.declared.calls.RouteCall.TheVariants.{Add, Delete}
use Rattle.server_work.specs.RoutePaths.{route_path}
use Rattle.world_law.proofs.Rows.{first, second}
use Rattle.world_law.proofs.Tables.{some_same, none_some}
use Rattle.world_law.proofs.Views.{not_true}

given : (b : Bool) (c call : RouteCall) → cond b (Some c) None ≡ Some call → (b ≡ true) × (c ≡ call)
given true c call h = (refl, some_same c call h)
given false c call h = none_some call h

given_else : (b : Bool) (c call : RouteCall) → cond b None (Some c) ≡ Some call → c ≡ call
given_else true c call h = none_some call h
given_else false c call h = some_same c call h

pub addition_is : (routes : List ListedRoute) (s : LiveServer) (call : RouteCall) → addition_of routes s ≡ Some call → asked_of call ≡ Route.Add (route_path s.server) s.target (Some (2 * s.generation))
addition_is routes s call h =
    ap asked_of (sym (given_else (is_listed routes (route_path s.server)) (Add (route_path s.server) s.target (Some (2 * s.generation))) call h))

abbrev is_at : List ℕ → Option ServerKey → Bool
is_at path None = false
is_at path (Some server) = pointwise nat_eq (route_path server) path

live_there : (lives : Lives) (path : List ℕ) (g : ℕ) (l : Leased) → get lives g ≡ Some l → route_path l.server ≡ path → is_live_at lives path g ≡ true
live_there lives path g l e q = ap (λ (o : Option ServerKey). is_at path o) (ap (option_map (λ (l : Leased). l.server)) e) ∙ is_same (route_path l.server) path q

even : (s : ℕ) → (s % 2 == 0) ≡ true → s ≡ 2 * (s / 2)
even s h = let k : s % 2 ≡ 0 = grind (arith, nat_tests) in omega (arith, k)

deletion_by_is : (lives : Lives) (path : List ℕ) (o : Option ℕ) (call : RouteCall) → deletion_by lives path o ≡ Some call
    → (g : ℕ) × (o ≡ Some (2 * g)) × ((l : Leased) → get lives g ≡ Some l → route_path l.server ≢ path) × (asked_of call ≡ Route.Delete path (2 * g + 1))
deletion_by_is lives path None call h = none_some call h
deletion_by_is lives path (Some s) call h =
    let t = given ((s % 2 == 0) && not (is_live_at lives path (s / 2))) (Delete path (s + 1)) call h in
    let half : s ≡ 2 * (s / 2) = even s (first (s % 2 == 0) (not (is_live_at lives path (s / 2))) t.0) in (
      s / 2,
      ap Some half,
      λ l e q. not_true (is_live_at lives path (s / 2)) (second (s % 2 == 0) (not (is_live_at lives path (s / 2))) t.0) (live_there lives path (s / 2) l e q),
      ap asked_of (sym t.1) ∙ ap (λ n. Route.Delete path (n + 1)) half,
    )

pub deletion_is : (lives : Lives) (r : ListedRoute) (call : RouteCall) → deletion_of lives r ≡ Some call
    → (g : ℕ) × (r.serial ≡ Some (2 * g)) × ((l : Leased) → get lives g ≡ Some l → route_path l.server ≢ r.path) × (asked_of call ≡ Route.Delete r.path (2 * g + 1))
deletion_is lives r call h = deletion_by_is lives r.path r.serial call h
