-- A change of one kind of rows leaves what is true of the others.
use Rattle.std.proofs.Common.{◌≡◌, refl, sym, ap, ℕ, List, [], Option, Some, None, IfSome}
use Rattle.std.specs.Option.{option_copied}
use Rattle.std.specs.Borrow.{Bor}
use Rattle.std.specs.Ordering.{nat_cmp}
use Rattle.std.specs.Cmp.{IsTotalOrder, nat_cmp_total}
use Rattle.std.specs.Cmp.Lexicographic.{nat_list_cmp_total}
use Rattle.std.specs.FinMap.{FinMap, empty, from_entries, IsAntisymmetric, nat_cmp-IsAntisymmetric}
use Rattle.std.specs.BTreeMap.{BTreeMap}
use Rattle.std.specs.declared.cmp.Ordering.{Ordering}
use Rattle.hub_kit.specs.KeyOrder.{name_cmp, key_exact}
use Rattle.hub_kit.specs.contracts.names.ServerKeyOrd.TheImpl.Laws as server_key
use Rattle.keyed_rows.specs.Rows.{map_of, OwnKeys}
use Rattle.keyed_rows.proofs.Finite.{own_empty}
use Rattle.hub_rows.specs.contracts.keys.ShareKeyOrd.TheImpl.Laws as share_key
use Rattle.hub_tables.specs.declared.trees.Trees.{Trees}
use Rattle.hub_tables.specs.Empty.{AreEmpty, IsEmptyIndex}
use Rattle.hub_rows.specs.declared.records.Group.{Group}
use Rattle.hub_rows.specs.declared.records.Role.{Role}
use Rattle.hub_rows.specs.declared.records.ShareCode.{ShareCode}
use Rattle.hub_rows.specs.declared.records.Token.{Token}
use Rattle.hub_rows.specs.ShareOrder.{names_exact, share_cmp, share_exact}
use Rattle.row_indexes.specs.Owned.{owned_cmp}
use Rattle.row_indexes.specs.Members.{TellsMembers}
use Rattle.row_indexes.specs.declared.owned.OwnedKey.{OwnedKey}
use Rattle.row_indexes.proofs.ByHash.{empty_indexed}
use Rattle.row_indexes.proofs.Indexed.{empty_index}
use Rattle.row_indexes.proofs.MemberKeys.{empty_members}
use Rattle.hub_tables.specs.Parties.{party_cmp, is_numbered, is_share_of}
use Rattle.hub_tables.specs.Kept.{Kind, IsKept, Users, Groups, Services, Roles, Tokens, Servers, Leases, Shares, Codes, Clients, GrantCodes, Nexts}

abbrev pub AreKept : Trees → Type 0
AreKept t = (kind : Kind) → IsKept t kind

no_rows : {K X : Type 0} {R : K → K → Ordering} (o : IsTotalOrder R) (exact : IsAntisymmetric R) (key : X → K) (m : BTreeMap K X) → m.entries ≡ [] → OwnKeys key (map_of R m)
no_rows {R = R} o exact key m e = own_empty o exact key _ (ap (from_entries {R = R}) e)

no_members : {X : Type 0} (members_of : X → List (List ℕ)) (rows : FinMap name_cmp X) (index : Option (BTreeMap (OwnedKey (List ℕ) (List ℕ)) (Unit {0}))) → rows ≡ empty → IsEmptyIndex index
    → TellsMembers name_cmp name_cmp members_of rows index
no_members members_of rows None e i = tt
no_members members_of rows (Some index) e i = empty_members name_cmp name_cmp members_of rows (Some index) index e refl (ap (from_entries {R = owned_cmp name_cmp name_cmp}) i)

pub empty_kept : (t : Trees) → AreEmpty t → AreKept t
empty_kept t e Users = no_rows nat_list_cmp_total names_exact _ t.users e.users
empty_kept t e Groups = record {
  own = no_rows nat_list_cmp_total names_exact _ t.groups e.groups;
  told = no_members (λ (g : Group). g.users) _ _ (ap (from_entries {R = name_cmp}) e.groups) e.group_users;
}
empty_kept t e Services = no_rows nat_list_cmp_total names_exact _ t.services e.services
empty_kept t e Roles = let none = ap (from_entries {R = name_cmp}) e.roles in record {
  own = no_rows nat_list_cmp_total names_exact _ t.roles e.roles;
  told = record {
    users = no_members (λ (r : Role). r.users) _ _ none e.role_indexes.users;
    groups = no_members (λ (r : Role). r.groups) _ _ none e.role_indexes.groups;
    services = no_members (λ (r : Role). r.services) _ _ none e.role_indexes.services;
  };
}
empty_kept t e Tokens = record {
  own = no_rows nat_cmp_total nat_cmp-IsAntisymmetric _ t.tokens e.tokens;
  ordered = e.tokens_ordered;
  indexed = empty_indexed (λ (row : Token). row.hash) _ (map_of nat_cmp t.token_ids) (ap (from_entries {R = nat_cmp}) e.tokens);
  owned = empty_index nat_cmp nat_cmp is_numbered _ _ (ap (from_entries {R = nat_cmp}) e.tokens) (ap (from_entries {R = owned_cmp nat_cmp nat_cmp}) e.token_owners);
}
empty_kept t e Servers = no_rows server_key.total-law key_exact _ t.servers e.servers
empty_kept t e Leases = no_rows nat_list_cmp_total names_exact _ t.leases e.leases
empty_kept t e Shares = record {
  own = no_rows share_key.total-law share_exact _ t.shares e.shares;
  owned = empty_index party_cmp share_cmp is_share_of _ _ (ap (from_entries {R = share_cmp}) e.shares) (ap (from_entries {R = owned_cmp party_cmp share_cmp}) e.share_parties);
}
empty_kept t e Codes = record {
  own = no_rows nat_cmp_total nat_cmp-IsAntisymmetric _ t.codes e.codes;
  ordered = e.codes_ordered;
  indexed = empty_indexed (λ (row : ShareCode). row.hash) _ (map_of nat_cmp t.code_ids) (ap (from_entries {R = nat_cmp}) e.codes);
}
empty_kept t e Clients = no_rows nat_list_cmp_total names_exact _ t.clients e.clients
empty_kept t e GrantCodes = no_rows nat_list_cmp_total names_exact _ t.grant_codes e.grant_codes
empty_kept t e Nexts = no_rows nat_list_cmp_total names_exact _ t.nexts e.nexts

-- a row that was found by its key has that key
pub found : {K X : Type 0} (key : X → K) (q : K) (r : Option (Bor X)) (at : Option X) → option_copied r ≡ at → ((row : X) → at ≡ Some row → key row ≡ q) → IfSome r (λ b. key b.now ≡ q)
found key q None at e h = tt
found key q (Some b) at e h = h b.now (sym e)

pub users_kept : (t : Trees) (rows : _) → AreKept t → IsKept (record t { users = rows }) Users → AreKept (record t { users = rows })
users_kept t rows kept own Users = own
users_kept t rows kept own kind = kept kind

pub groups_kept : (t : Trees) (rows users : _) → AreKept t → IsKept (record t { groups = rows; group_users = users }) Groups → AreKept (record t { groups = rows; group_users = users })
groups_kept t rows users kept own Groups = own
groups_kept t rows users kept own kind = kept kind

pub services_kept : (t : Trees) (rows : _) → AreKept t → IsKept (record t { services = rows }) Services → AreKept (record t { services = rows })
services_kept t rows kept own Services = own
services_kept t rows kept own kind = kept kind

pub roles_kept : (t : Trees) (rows indexes : _) → AreKept t → IsKept (record t { roles = rows; role_indexes = indexes }) Roles → AreKept (record t { roles = rows; role_indexes = indexes })
roles_kept t rows indexes kept own Roles = own
roles_kept t rows indexes kept own kind = kept kind

pub servers_kept : (t : Trees) (rows : _) → AreKept t → IsKept (record t { servers = rows }) Servers → AreKept (record t { servers = rows })
servers_kept t rows kept own Servers = own
servers_kept t rows kept own kind = kept kind

pub leases_kept : (t : Trees) (rows : _) → AreKept t → IsKept (record t { leases = rows }) Leases → AreKept (record t { leases = rows })
leases_kept t rows kept own Leases = own
leases_kept t rows kept own kind = kept kind

pub shares_kept : (t : Trees) (rows parties : _) → AreKept t → IsKept (record t { shares = rows; share_parties = parties }) Shares → AreKept (record t { shares = rows; share_parties = parties })
shares_kept t rows parties kept own Shares = own
shares_kept t rows parties kept own kind = kept kind

pub clients_kept : (t : Trees) (rows : _) → AreKept t → IsKept (record t { clients = rows }) Clients → AreKept (record t { clients = rows })
clients_kept t rows kept own Clients = own
clients_kept t rows kept own kind = kept kind

pub grant_codes_kept : (t : Trees) (rows : _) → AreKept t → IsKept (record t { grant_codes = rows }) GrantCodes → AreKept (record t { grant_codes = rows })
grant_codes_kept t rows kept own GrantCodes = own
grant_codes_kept t rows kept own kind = kept kind

pub nexts_kept : (t : Trees) (rows : _) → AreKept t → IsKept (record t { nexts = rows }) Nexts → AreKept (record t { nexts = rows })
nexts_kept t rows kept own Nexts = own
nexts_kept t rows kept own kind = kept kind

pub tokens_kept : (t : Trees) (rows ids owners : _) → AreKept t → IsKept (record t { tokens = rows; token_ids = ids; token_owners = owners }) Tokens → AreKept (record t { tokens = rows; token_ids = ids; token_owners = owners })
tokens_kept t rows ids owners kept own Tokens = own
tokens_kept t rows ids owners kept own kind = kept kind

pub codes_kept : (t : Trees) (rows ids : _) → AreKept t → IsKept (record t { codes = rows; code_ids = ids }) Codes → AreKept (record t { codes = rows; code_ids = ids })
codes_kept t rows ids kept own Codes = own
codes_kept t rows ids kept own kind = kept kind
