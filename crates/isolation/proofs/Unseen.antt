-- What a token may not see may change.
use Rattle.std.proofs.Common.{◌≡◌, ℕ, true, ◌&&◌, ◌||◌, List, [], ◌∷◌, ◌++◌, cond, Option, Some, None, inl, refl, sym, ap, subst}
use Rattle.std.specs.List.{flat_map}
use Rattle.std.specs.Ordering.{nat_cmp}
use Rattle.std.specs.FinMap.{FinMap, get, contains_key, len}
use Rattle.hub_kit.specs.KeyOrder.{name_cmp, key_cmp}
use Rattle.hub_kit.specs.declared.names.ServerKey.{ServerKey}
use Rattle.scope_names.specs.declared.action.Action.{Action}
use Rattle.scope_names.specs.declared.action.Action.TheVariants as A
use Rattle.scope_filters.specs.declared.holder.Owner.{Owner}
use Rattle.scope_filters.specs.declared.holder.Owner.TheVariants as Own
use Rattle.scope_filters.specs.declared.object.Object.{Object}
use Rattle.scope_filters.specs.declared.object.Object.TheVariants as Ob
use Rattle.scope_filters.specs.declared.scope.RawScope.{RawScope}
use Rattle.scope_filters.specs.declared.scope.RawScope.TheVariants.{SelfScope}
use Rattle.scope_expand.specs.Meaning.{IsMeant}
use Rattle.hub_rows.specs.ShareOrder.{share_cmp}
use Rattle.hub_rows.specs.declared.keys.ShareKey.{ShareKey}
use Rattle.hub_rows.specs.declared.records.Group.{Group}
use Rattle.hub_rows.specs.declared.records.ServerRow.{ServerRow}
use Rattle.hub_rows.specs.declared.records.Share.{Share}
use Rattle.hub_rows.specs.declared.records.ShareCode.{ShareCode}
use Rattle.hub_rows.specs.declared.records.Token.{Token}
use Rattle.hub_rows.specs.declared.records.User.{User}
use Rattle.hub_tables.specs.Lookups.{is_admin_row, is_default, roles_naming_group}
use Rattle.hub_tables.specs.State.{State}
use Rattle.roles.specs.Rights.{scopes_held, roles_held, shares_received, admin_scopes, bare, context}
use Rattle.shares.specs.Lists.{is_share_of}
use Rattle.shares.specs.declared.lists.CodesOf.{CodesOf}
use Rattle.shares.specs.declared.lists.CodesOf.TheVariants as Codes
use Rattle.shares.specs.declared.lists.SharesOf.{SharesOf}
use Rattle.shares.specs.declared.lists.SharesOf.TheVariants as Shares
use Rattle.hub_machine.specs.State.{Hub, Lives}
use Rattle.hub_core.specs.Needs.{has_sharer, has_offerer}
use Rattle.isolation.specs.Sight.{May, AsksUser, ReadsShares, ReadsCodes, server, server_seen, token_seen, code_seen, seen_code, SameUser, SameGroup, SameShares, SameCodes, InBoth, SeesSame, with_users, with_servers, with_tokens, with_shares, with_codes, OtherRows, with_others}

-- ---- whose shares and share codes they are

sharer_kept : (s t : State) (whose : SharesOf) → s.users ≡ t.users → s.servers ≡ t.servers → has_sharer s whose ≡ has_sharer t whose
sharer_kept s t (Shares.Recipient u) users servers = ap (λ rows. contains_key rows u) users
sharer_kept s t (Shares.Owner u) users servers = ap (λ rows. contains_key rows u) users
sharer_kept s t (Shares.Server q) users servers = λ i. contains_key (users i) q.user && (is_default q.server || contains_key (servers i) q)

module _ (s t : Hub) where
  module _ (k : Token) (there : (whose : SharesOf) → ReadsShares s k whose → has_sharer s.tables whose ≡ has_sharer t.tables whose) where
    offerer_there : (whose : CodesOf) → ReadsCodes s k whose → has_offerer s.tables whose ≡ has_offerer t.tables whose
    offerer_there (Codes.Owner u) m = there (Shares.Owner u) m
    offerer_there (Codes.Server q) m = there (Shares.Server q) m

    -- the rows are the same
    shares_there : s.tables.shares ≡ t.tables.shares → (whose : SharesOf) → ReadsShares s k whose → SameShares s t whose
    shares_there rows whose m = record { there = there whose m; each = λ key is. ap (λ shares. get shares key) rows }

    codes_there : s.tables.codes ≡ t.tables.codes → (whose : CodesOf) → ReadsCodes s k whose → SameCodes s t whose
    codes_there rows whose m = record { there = offerer_there whose m; each = λ id. ap (λ codes. seen_code whose (get codes id)) rows }

  module _ (k : Token) (users : s.tables.users ≡ t.tables.users) (servers : s.tables.servers ≡ t.tables.servers) where
    kept_there : (whose : SharesOf) → ReadsShares s k whose → has_sharer s.tables whose ≡ has_sharer t.tables whose
    kept_there whose m = sharer_kept s.tables t.tables whose users servers

    shares_kept : s.tables.shares ≡ t.tables.shares → (whose : SharesOf) → ReadsShares s k whose → SameShares s t whose
    shares_kept = shares_there k kept_there

    codes_kept : s.tables.codes ≡ t.tables.codes → (whose : CodesOf) → ReadsCodes s k whose → SameCodes s t whose
    codes_kept = codes_there k kept_there

-- ---- states with other rows

-- an object is as it is
group_itself : (k : Token) (s t : Hub) (g : List ℕ) → roles_naming_group s.tables g ≡ roles_naming_group t.tables g → (o : Option Group) → InBoth (SameGroup k s t g) o o
group_itself k s t g is None = tt
group_itself k s t g is (Some x) = record { users = λ m. refl; roles = λ m. is }

module _ (s : Hub) (k : Token) (rows : FinMap name_cmp User) (kept : (u : List ℕ) → AsksUser s k u → get rows u ≡ get s.tables.users u)
    (there : (u : List ℕ) → May s k A.ReadTokens (Ob.User u) → contains_key s.tables.users u ≡ contains_key rows u)
    (shared : (whose : SharesOf) → ReadsShares s k whose → has_sharer s.tables whose ≡ has_sharer (with_users s rows).tables whose) where
  abbrev t : Hub
  t = with_users s rows

  -- what an owner holds looks at no user but the owner
  same_scopes : (w : Owner) → k.owner ≡ w → scopes_held s.tables w ≡ scopes_held t.tables w
  same_scopes (Own.User u) is =
      ap (λ (row : Option User). ((SelfScope ∷ cond (is_admin_row row) admin_scopes []) ++ flat_map (λ role. role.scopes) (roles_held s.tables (Own.User u)))
      ++ flat_map (λ share. share.scopes) (shares_received s.tables (Own.User u))) (sym (kept u (inl is)))
  same_scopes (Own.Service v) is = refl

  abbrev Means : Action → Object → List RawScope → Type 0
  Means a x scopes = IsMeant s.tables.scopes scopes (bare k.owner) (context s.tables) a x

  allowed : (a : Action) (x : Object) → May s k a x → May t k a x
  allowed a x m = (subst (Means a x) (same_scopes k.owner refl) m.0, m.1)

  allowed_back : (a : Action) (x : Object) → May t k a x → May s k a x
  allowed_back a x m = (subst (Means a x) (sym (same_scopes k.owner refl)) m.0, m.1)

  same_user : (u : List ℕ) (o : Option User) → InBoth (SameUser k s t u) o o
  same_user u None = tt
  same_user u (Some x) = record { admin = λ m. refl; created = λ m. refl; last_activity = λ m. refl; groups = λ m. refl; roles = λ m. refl; servers = λ name m. refl }

  pub unseen : SeesSame k s t
  unseen = record {
    allowed = λ a x. (allowed a x, allowed_back a x);
    pool = λ m. refl;
    leases = λ m. refl;
    users = λ u asks. subst (InBoth (SameUser k s t u) (get s.tables.users u)) (sym (kept u asks)) (same_user u (get s.tables.users u));
    groups = λ g asks. group_itself k s t g refl (get s.tables.groups g);
    services = λ v asks. record { there = refl; roles = λ m. refl };
    roles = λ m r. refl;
    tokens = λ u m. record { there = there u m; each = λ id. refl };
    shares = shares_there s t k shared refl;
    codes = codes_there s t k shared refl;
  }

-- the same fields of a user, but for the servers
user_but_servers : (k : Token) (s : Hub) (rows : FinMap key_cmp ServerRow) (lives : Lives) (u : List ℕ) (o : Option User)
    → ((q : ServerKey) → May s k A.ReadServers (Ob.Server q) → server_seen s q ≡ server_seen (with_servers s rows lives) q) → InBoth (SameUser k s (with_servers s rows lives) u) o o
user_but_servers k s rows lives u None seen = tt
user_but_servers k s rows lives u (Some x) seen =
    record { admin = λ m. refl; created = λ m. refl; last_activity = λ m. refl; groups = λ m. refl; roles = λ m. refl; servers = λ name m. seen (server u name) m }

pub unseen_servers : (s : Hub) (k : Token) (rows : FinMap key_cmp ServerRow) (lives : Lives)
    → ((q : ServerKey) → May s k A.ReadServers (Ob.Server q) → server_seen s q ≡ server_seen (with_servers s rows lives) q)
    → (May s k A.ReadHub Ob.Hub → len s.lives ≡ len lives)
    → ((whose : SharesOf) → ReadsShares s k whose → has_sharer s.tables whose ≡ has_sharer (with_servers s rows lives).tables whose)
    → SeesSame k s (with_servers s rows lives)
unseen_servers s k rows lives seen leases shared = record {
  allowed = λ a x. (λ m. m, λ m. m);
  pool = λ m. refl;
  leases = leases;
  users = λ u asks. user_but_servers k s rows lives u (get s.tables.users u) seen;
  groups = λ g asks. group_itself k s (with_servers s rows lives) g refl (get s.tables.groups g);
  services = λ v asks. record { there = refl; roles = λ m. refl };
  roles = λ m r. refl;
  tokens = λ u m. record { there = refl; each = λ id. refl };
  shares = shares_there s (with_servers s rows lives) k shared refl;
  codes = codes_there s (with_servers s rows lives) k shared refl;
}

-- the same fields of a user, whatever the tokens
user_of_tokens : (k : Token) (s : Hub) (rows : FinMap nat_cmp Token) (u : List ℕ) (o : Option User) → InBoth (SameUser k s (with_tokens s rows) u) o o
user_of_tokens k s rows u None = tt
user_of_tokens k s rows u (Some x) = record { admin = λ m. refl; created = λ m. refl; last_activity = λ m. refl; groups = λ m. refl; roles = λ m. refl; servers = λ name m. refl }

pub unseen_tokens : (s : Hub) (k : Token) (rows : FinMap nat_cmp Token)
    → ((u : List ℕ) (id : ℕ) → May s k A.ReadTokens (Ob.User u) → token_seen s u id ≡ token_seen (with_tokens s rows) u id)
    → SeesSame k s (with_tokens s rows)
unseen_tokens s k rows seen = record {
  allowed = λ a x. (λ m. m, λ m. m);
  pool = λ m. refl;
  leases = λ m. refl;
  users = λ u asks. user_of_tokens k s rows u (get s.tables.users u);
  groups = λ g asks. group_itself k s (with_tokens s rows) g refl (get s.tables.groups g);
  services = λ v asks. record { there = refl; roles = λ m. refl };
  roles = λ m r. refl;
  tokens = λ u m. record { there = refl; each = λ id. seen u id m };
  shares = shares_kept s (with_tokens s rows) k refl refl refl;
  codes = codes_kept s (with_tokens s rows) k refl refl refl;
}

user_of_shares : (k : Token) (s : Hub) (rows : FinMap share_cmp Share) (u : List ℕ) (o : Option User) → InBoth (SameUser k s (with_shares s rows) u) o o
user_of_shares k s rows u None = tt
user_of_shares k s rows u (Some x) = record { admin = λ m. refl; created = λ m. refl; last_activity = λ m. refl; groups = λ m. refl; roles = λ m. refl; servers = λ name m. refl }

module _ (s : Hub) (k : Token) (rows : FinMap share_cmp Share) (received : shares_received s.tables k.owner ≡ shares_received (with_shares s rows).tables k.owner)
    (kept : (whose : SharesOf) (key : ShareKey) → ReadsShares s k whose → is_share_of whose key ≡ true → get s.tables.shares key ≡ get rows key) where
  abbrev reshared : Hub
  reshared = with_shares s rows

  -- what an owner holds looks at no share but those that the owner received
  scopes_shared : (w : Owner) → shares_received s.tables w ≡ shares_received reshared.tables w → scopes_held s.tables w ≡ scopes_held reshared.tables w
  scopes_shared (Own.User u) is =
      ap (λ (given : List Share). ((SelfScope ∷ cond (is_admin_row (get s.tables.users u)) admin_scopes []) ++ flat_map (λ role. role.scopes) (roles_held s.tables (Own.User u)))
      ++ flat_map (λ share. share.scopes) given) is
  scopes_shared (Own.Service v) is =
      ap (λ (given : List Share). ([] ++ flat_map (λ role. role.scopes) (roles_held s.tables (Own.Service v))) ++ flat_map (λ share. share.scopes) given) is

  abbrev AreMeant : Action → Object → List RawScope → Type 0
  AreMeant a x scopes = IsMeant s.tables.scopes scopes (bare k.owner) (context s.tables) a x

  pub unseen_shares : SeesSame k s reshared
  unseen_shares = record {
    allowed = λ a x. (
      λ m. (subst (AreMeant a x) (scopes_shared k.owner received) m.0, m.1),
      λ m. (subst (AreMeant a x) (sym (scopes_shared k.owner received)) m.0, m.1),
    );
    pool = λ m. refl;
    leases = λ m. refl;
    users = λ u asks. user_of_shares k s rows u (get s.tables.users u);
    groups = λ g asks. group_itself k s reshared g refl (get s.tables.groups g);
    services = λ v asks. record { there = refl; roles = λ m. refl };
    roles = λ m r. refl;
    tokens = λ u m. record { there = refl; each = λ id. refl };
    shares = λ whose m. record { there = sharer_kept s.tables reshared.tables whose refl refl; each = λ key is. kept whose key m is };
    codes = codes_kept s reshared k refl refl refl;
  }

user_of_codes : (k : Token) (s : Hub) (rows : FinMap nat_cmp ShareCode) (u : List ℕ) (o : Option User) → InBoth (SameUser k s (with_codes s rows) u) o o
user_of_codes k s rows u None = tt
user_of_codes k s rows u (Some x) = record { admin = λ m. refl; created = λ m. refl; last_activity = λ m. refl; groups = λ m. refl; roles = λ m. refl; servers = λ name m. refl }

pub unseen_codes : (s : Hub) (k : Token) (rows : FinMap nat_cmp ShareCode)
    → ((whose : CodesOf) (id : ℕ) → ReadsCodes s k whose → code_seen s whose id ≡ code_seen (with_codes s rows) whose id)
    → SeesSame k s (with_codes s rows)
unseen_codes s k rows seen = record {
  allowed = λ a x. (λ m. m, λ m. m);
  pool = λ m. refl;
  leases = λ m. refl;
  users = λ u asks. user_of_codes k s rows u (get s.tables.users u);
  groups = λ g asks. group_itself k s (with_codes s rows) g refl (get s.tables.groups g);
  services = λ v asks. record { there = refl; roles = λ m. refl };
  roles = λ m r. refl;
  tokens = λ u m. record { there = refl; each = λ id. refl };
  shares = shares_kept s (with_codes s rows) k refl refl refl;
  codes = λ whose m. record { there = offerer_there s (with_codes s rows) k (kept_there s (with_codes s rows) k refl refl) whose m; each = λ id. seen whose id m };
}

user_itself : (k : Token) (s : Hub) (rows : OtherRows) (u : List ℕ) (o : Option User) → InBoth (SameUser k s (with_others s rows) u) o o
user_itself k s rows u None = tt
user_itself k s rows u (Some x) = record { admin = λ m. refl; created = λ m. refl; last_activity = λ m. refl; groups = λ m. refl; roles = λ m. refl; servers = λ name m. refl }

pub unseen_others : (s : Hub) (k : Token) (rows : OtherRows) → SeesSame k s (with_others s rows)
unseen_others s k rows = record {
  allowed = λ a x. (λ m. m, λ m. m);
  pool = λ m. refl;
  leases = λ m. refl;
  users = λ u asks. user_itself k s rows u (get s.tables.users u);
  groups = λ g asks. group_itself k s (with_others s rows) g refl (get s.tables.groups g);
  services = λ v asks. record { there = refl; roles = λ m. refl };
  roles = λ m r. refl;
  tokens = λ u m. record { there = refl; each = λ id. refl };
  shares = shares_kept s (with_others s rows) k refl refl refl;
  codes = codes_kept s (with_others s rows) k refl refl refl;
}
