-- The objects of servers, leases, shares and next numbers.
use Rattle.std.specs.Prelude.{ℕ, map, codes, Option, Some, None, IsTrue, refl}
use Rattle.std.specs.List.{AllByRecursion}
use Rattle.std.proofs.Common.{arith}
use Rattle.hub_kit.specs.Targets.{IsTarget}
use Rattle.keyed_rows.specs.Sorted.{IsInOrder}
use Rattle.scope_filters.specs.Scopes.{scope_text}
use Rattle.serde_json.specs.Data.{Data, string, object, Members, member, no_members}
use Rattle.hub_rows.specs.Counters.{is_counter}
use Rattle.hub_rows.specs.SharedScopes.{scope_cmp}
use Rattle.hub_rows.specs.declared.records.Lease.{Lease}
use Rattle.hub_rows.specs.declared.records.Next.{Next}
use Rattle.hub_rows.specs.declared.records.ServerRow.{ServerRow}
use Rattle.hub_rows.specs.declared.records.Share.{Share}
use Rattle.record_texts.specs.Fields.{whole, maybe, lines, IfThere, IsMoment, IsWord, moment_fits, moment_plain, whole_flat, strings_plain}
use Rattle.record_texts.specs.Fields.{strings_flat}
use Rattle.key_texts.specs.KeyTexts.{server_text, IsServer, IsShareKey, IsScope}
use Rattle.record_texts.specs.Plain.{IsRecordData}

abbrev pub server_object : ServerRow → Data
server_object r = object
    (member (codes "created") (whole r.created)
    (member (codes "last_activity") (maybe whole r.last_activity)
    (member (codes "started") (maybe whole r.started) no_members)))

-- the generation of a lease stands in its text where it has one
abbrev pub with_generation : Option ℕ → Members → Members
with_generation None rest = rest
with_generation (Some g) rest = member (codes "generation") (whole g) rest

abbrev pub lease_object : Lease → Data
lease_object l = object (with_generation l.generation (member (codes "server") (string (server_text l.server)) no_members))

abbrev pub share_object : Share → Data
share_object s = object
    (member (codes "created") (whole s.created)
    (member (codes "scopes") (lines scope_text s.scopes) no_members))

abbrev pub next_object : Next → Data
next_object n = object (member (codes "next") (whole n.next) no_members)

-- ---- what is true of each record, and that its object reads back

pub record IsServerRow (r : ServerRow) : Type 0 where
  pub key : IsServer r.key
  pub created : IsMoment r.created
  pub last_activity : IfThere IsMoment r.last_activity
  pub started : IfThere IsMoment r.started

pub record IsLease (l : Lease) : Type 0 where
  pub target : IsTarget l.target
  pub server : IsServer l.server
  pub generation : IfThere IsWord l.generation

pub record IsShare (s : Share) : Type 0 where
  pub key : IsShareKey s.key
  pub created : IsMoment s.created
  pub scopes : AllByRecursion IsScope s.scopes
  pub in_order : IsInOrder scope_cmp s.scopes

pub record IsNext (n : Next) : Type 0 where
  pub name : IsTrue (is_counter n.name)
  pub next : IsWord n.next

pub server_plain : (r : ServerRow) → IsServerRow r → IsRecordData (server_object r)
server_plain r h = (
  (refl, (moment_fits r.created h.created, (moment_plain r.last_activity h.last_activity, (moment_plain r.started h.started, tt)))),
  omega (arith, whole_flat r.last_activity, whole_flat r.started),
)

lease_of : (generation : Option ℕ) (server : _) → IfThere IsWord generation
    → IsRecordData (object (with_generation generation (member (codes "server") (string server) no_members)))
lease_of None server h = ((refl, (tt, tt)), omega arith)
lease_of (Some g) server h = ((refl, (h, (tt, tt))), omega arith)

pub lease_plain : (l : Lease) → IsLease l → IsRecordData (lease_object l)
lease_plain l h = lease_of l.generation (server_text l.server) h.generation

pub share_plain : (s : Share) → IsShare s → IsRecordData (share_object s)
share_plain s h = ((refl, (moment_fits s.created h.created, (strings_plain _, tt))), omega (arith, strings_flat (map scope_text s.scopes)))

pub next_plain : (n : Next) → IsNext n → IsRecordData (next_object n)
next_plain n h = ((refl, (h.next, tt)), omega arith)
