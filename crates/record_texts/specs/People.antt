-- The objects of users, groups, services and roles.
use Rattle.std.specs.Prelude.{◌≡◌, true, map, codes, refl}
use Rattle.std.specs.List.{AllByRecursion}
use Rattle.std.proofs.Common.{arith}
use Rattle.hub_kit.specs.KeyOrder.{name_cmp}
use Rattle.hub_kit.specs.Names.{IsName}
use Rattle.keyed_rows.specs.Sorted.{is_in_order}
use Rattle.scope_filters.specs.Scopes.{scope_text}
use Rattle.serde_json.specs.Data.{Data, boolean, object, member, no_members}
use Rattle.hub_rows.specs.declared.records.Group.{Group}
use Rattle.hub_rows.specs.declared.records.Role.{Role}
use Rattle.hub_rows.specs.declared.records.Service.{Service}
use Rattle.hub_rows.specs.declared.records.User.{User}
use Rattle.record_texts.specs.Fields.{whole, maybe, lines, IfThere, IsMoment, moment_fits, moment_plain, whole_flat, strings_plain}
use Rattle.record_texts.specs.Fields.{strings_flat}
use Rattle.key_texts.specs.KeyTexts.{IsScope}
use Rattle.record_texts.specs.Plain.{IsRecordData}

abbrev pub user_object : User → Data
user_object u = object
    (member (codes "admin") (boolean u.admin)
    (member (codes "created") (whole u.created)
    (member (codes "last_activity") (maybe whole u.last_activity) no_members)))

abbrev pub group_object : Group → Data
group_object g = object (member (codes "users") (lines (λ name. name) g.users) no_members)

abbrev pub service_object : Service → Data
service_object v = object no_members

abbrev pub role_object : Role → Data
role_object r = object
    (member (codes "groups") (lines (λ name. name) r.groups)
    (member (codes "scopes") (lines scope_text r.scopes)
    (member (codes "services") (lines (λ name. name) r.services)
    (member (codes "users") (lines (λ name. name) r.users) no_members))))

-- ---- what is true of each record, and that its object reads back

pub record IsUser (u : User) : Type 0 where
  pub name : IsName u.name
  pub created : IsMoment u.created
  pub last_activity : IfThere IsMoment u.last_activity

pub record IsGroup (g : Group) : Type 0 where
  pub name : IsName g.name
  pub users : AllByRecursion IsName g.users
  pub in_order : is_in_order name_cmp g.users ≡ true

pub record IsService (v : Service) : Type 0 where
  pub name : IsName v.name

pub record IsRole (r : Role) : Type 0 where
  pub name : IsName r.name
  pub groups : AllByRecursion IsName r.groups
  pub groups_in_order : is_in_order name_cmp r.groups ≡ true
  pub scopes : AllByRecursion IsScope r.scopes
  pub services : AllByRecursion IsName r.services
  pub services_in_order : is_in_order name_cmp r.services ≡ true
  pub users : AllByRecursion IsName r.users
  pub users_in_order : is_in_order name_cmp r.users ≡ true

pub user_plain : (u : User) → IsUser u → IsRecordData (user_object u)
user_plain u h = (
  (refl, (tt, (moment_fits u.created h.created, (moment_plain u.last_activity h.last_activity, tt)))),
  omega
      (arith, whole_flat u.last_activity),
)

pub group_plain : (g : Group) → IsGroup g → IsRecordData (group_object g)
group_plain g h = ((refl, (strings_plain _, tt)), omega (arith, strings_flat (map (λ name. name) g.users)))

pub service_plain : (v : Service) → IsService v → IsRecordData (service_object v)
service_plain v h = ((refl, tt), omega arith)

pub role_plain : (r : Role) → IsRole r → IsRecordData (role_object r)
role_plain r h = (
  (refl, (strings_plain _, (strings_plain _, (strings_plain _, (strings_plain _, tt))))),
  omega (
    arith,
    strings_flat (map (λ name. name) r.groups),
    strings_flat (map scope_text r.scopes),
    strings_flat
        (map (λ name. name) r.services),
    strings_flat (map (λ name. name) r.users),
  ),
)
