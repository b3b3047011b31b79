use Rattle.std.proofs.Common.{◌≡◌, drop}
use Rattle.std.specs.List.{fold}
use Rattle.serde_json.specs.Data.{object, put}
use Rattle.serde_json.specs.View.{members_view}
use Rattle.proxy_api.specs.Listings.{route_members, listed_members}
use Rattle.proxy_api.proofs.listings.listed_members.Given as goal

abbrev pub invariant-routes : goal.invariant-routes
invariant-routes l =
    fold (λ listed r. put r.path (object (route_members r)) listed) (members_view l.listed.entries) (drop l.route-index l.routes) ≡ listed_members l.routes
