-- The listing of a table's routes: an object from path to route.
use Rattle.std.specs.Prelude.{◌≡◌, ℕ, false, List, codes, Option, Some, None, option_map}
use Rattle.std.specs.List.{fold}
use Rattle.hub_kit.specs.MomentTexts.{moment_text}
use Rattle.serde_json.specs.declared.value.Value.{Value}
use Rattle.serde_json.specs.Data.{Data, null, boolean, number, string, array, object, Members, no_members, put, unsigned}
use Rattle.serde_json.specs.View.{view}
use Rattle.serde_json.specs.Written.{has_float, compact_text}
use Rattle.request_parts.specs.Bodies.{body_object}
use Rattle.route_table.specs.declared.route.Route.{Route}

abbrev pub view_of : Option Value → Option Data
view_of value = option_map view value

abbrev pub members_of : Data → Members
members_of null = no_members
members_of (boolean b) = no_members
members_of (number n) = no_members
members_of (string s) = no_members
members_of (array items) = no_members
members_of (object members) = members

abbrev pub members_in : Option Data → Members
members_in None = no_members
members_in (Some value) = members_of value

-- the members that were kept of an addition, as text
abbrev pub extra_members : List ℕ → Members
extra_members extra = members_in (body_object extra)

abbrev pub put_text : List ℕ → List ℕ → Members → Members
put_text key text members = put key (string text) members

abbrev pub put_serial : Option ℕ → Members → Members
put_serial None members = members
put_serial (Some n) members = put (codes "serial") (number (unsigned n)) members

-- what is listed of a route
abbrev pub route_members : Route → Members
route_members r =
    put_text (codes "target") r.entry.target
    (put_serial r.entry.serial (put_text (codes "last_activity") (moment_text r.last_activity) (extra_members r.entry.extra)))

-- the routes under their paths
abbrev pub listed_members : List Route → Members
listed_members routes = fold (λ listed r. put r.path (object (route_members r)) listed) no_members routes

-- the text is that of the listing, which has no float where the members that were kept have none
abbrev pub IsListing : List Route → List ℕ → Type 0
IsListing routes text =
    has_float (object (listed_members routes)) ≡ false → text ≡ compact_text (object (listed_members routes))
