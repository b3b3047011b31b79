-- A cache of grants: what it keeps, and what a look leaves of it.
use Rattle.std.specs.Prelude.{◌≡◌, ℕ, ◌+◌, ◌-◌, ◌^◌, nat_eq, List, [], Option, Some, None, is_some, IsSomeAnd, Contains, ◌⊎◌, Result, Ok}
use Rattle.std.specs.Prelude.{Err, ◌≤◌, if◌then◌else◌}
use Rattle.std.specs.Borrow.{Bor}
use Rattle.std.specs.Map.{lookup}
use Rattle.std.specs.declared.alloc.AllocError.{AllocError}
use Rattle.lru.specs.LruCache.{lru_cache, promoted, put_entries}
use Rattle.scope_filters.specs.Grants.{Rights}
use Rattle.hub_rows.specs.declared.records.Token.{Token}
use Rattle.hub_tables.specs.State.{State}
use Rattle.roles.specs.declared.cache.KeptGrant.{KeptGrant}
use Rattle.roles.specs.Rights.{IsAllowed, IsGrantOf}

-- an entry is the id of a token, with a grant and the stamp of the rights of which it was resolved
abbrev pub Entry : Type 0
Entry = ℕ × KeptGrant

-- A cache of the grants of tokens, as contracts see it
pub record Cache : Type 0 where
  -- the most recently used first
  pub entries : List Entry
  pub capacity : ℕ
  -- an entry for which the list found no memory
  pub held : Option Entry
  pub hits : ℕ

-- the list has no entry of the held one's id
abbrev pub IsApart : Cache → Type 0
IsApart c = (id : ℕ) (kept other : KeptGrant) → c.held ≡ Some (id, kept) → Contains c.entries (id, other) → ⊥

-- A cache that has room for so many entries, and none yet
abbrev pub no_entries : ℕ → Cache
no_entries capacity = record { entries = []; capacity = capacity; held = None; hits = 0 }

-- ---- what is there

-- The grant that is kept, where it is of this stamp
abbrev pub with_stamp : ℕ → Option KeptGrant → Option Rights
with_stamp stamp None = None
with_stamp stamp (Some kept) = if nat_eq kept.stamp stamp then Some kept.grant else None

-- The grant of an entry, where it is of this id
abbrev pub with_id : ℕ → Option Entry → Option KeptGrant
with_id id None = None
with_id id (Some entry) = if nat_eq id entry.0 then Some entry.1 else None

-- The first grant, or else the second
abbrev pub or_else : Option Rights → Option Rights → Option Rights
or_else (Some grant) other = Some grant
or_else None other = other

-- The grant of this id with this stamp in the list
abbrev pub listed : Cache → ℕ → ℕ → Option Rights
listed c id stamp = with_stamp stamp (lookup (nat_eq id) c.entries)

-- The grant of this id with this stamp, in the list or held
abbrev pub found : Cache → ℕ → ℕ → Option Rights
found c id stamp = or_else (listed c id stamp) (with_stamp stamp (with_id id c.held))

-- ---- what a look leaves

-- one hit more, or the greatest number of hits
abbrev pub one_more : ℕ → ℕ
one_more hits = if nat_eq hits (2 ^ 64 - 1) then hits else hits + 1

-- a hit: an entry in the list comes to its front
abbrev pub after_hit : Cache → ℕ → ℕ → Cache
after_hit c id stamp = record c {
  entries = if is_some (listed c id stamp) then promoted (nat_eq id) c.entries else c.entries;
  hits = one_more c.hits;
}

-- no hit: the new entry stands first in the list, and the held one is gone; or it is held, where the list has none of this id
abbrev pub IsAfterMiss : Cache → ℕ → KeptGrant → Cache → Type 0
IsAfterMiss c id kept n =
    (n ≡ record c { entries = put_entries nat_eq (lru_cache c.entries c.capacity) id kept; held = None })
    ⊎ ((lookup (nat_eq id) c.entries ≡ None) × (n ≡ record c { held = Some (id, kept) }))

-- A grant as it is kept, with the stamp of now
abbrev pub kept_now : ℕ → Rights → KeptGrant
kept_now stamp grant = record { stamp = stamp; grant = grant }

-- A look for this id and stamp in the cache c told this grant and left n. It was a hit, and told the grant that was there; or it was none,
-- and told the grant that is now kept
abbrev pub IsAfter : Cache → ℕ → ℕ → Option Rights → Rights → Cache → Type 0
IsAfter c id stamp (Some there) grant n = (grant ≡ there) × (n ≡ after_hit c id stamp)
IsAfter c id stamp None grant n = IsAfterMiss c id (kept_now stamp grant) n

-- A look for this id and stamp in the cache c came to this and left n; without memory there was no hit, and the cache is as before
abbrev pub IsLooked : Cache → ℕ → ℕ → Result (Bor Rights) AllocError → Cache → Type 0
IsLooked c id stamp (Ok grant) n = IsAfter c id stamp (found c id stamp) grant.now n
IsLooked c id stamp (Err e) n = (found c id stamp ≡ None) × (n ≡ c)

-- the same, of the grant that is there afterwards
abbrev pub IsBrought : Cache → ℕ → ℕ → Cache → Type 0
IsBrought c id stamp n = IsSomeAnd (found n id stamp) (λ grant. IsAfter c id stamp (found c id stamp) grant n)

-- ---- what a cache is trusted for

-- an entry of this token's id with this stamp admits exactly what the token is allowed
abbrev pub IsRight : Cache → State → Token → ℕ → Type 0
IsRight c t k stamp = (grant : Rights) → found c k.id stamp ≡ Some grant → IsGrantOf t (IsAllowed t k) grant

-- the stamp of a grant is one from `since` to `stamp`
abbrev pub IsSince : (since stamp : ℕ) → KeptGrant → Type 0
IsSince since stamp kept = (since ≤ kept.stamp) × (kept.stamp ≤ stamp)

-- so does one of the list for this token's id that was kept since
abbrev pub IsRightSince : Cache → State → Token → (since stamp : ℕ) → Type 0
IsRightSince c t k since stamp = (kept : KeptGrant) → lookup (nat_eq k.id) c.entries ≡ Some kept → IsSince since stamp kept
    → IsGrantOf t (IsAllowed t k) kept.grant

-- something holds of each entry, those in the list and the held one
abbrev pub OfAll : (ℕ → KeptGrant → Type 0) → Cache → Type 0
OfAll P c = ((id : ℕ) (kept : KeptGrant) → Contains c.entries (id, kept) → P id kept)
    × ((id : ℕ) (kept : KeptGrant) → c.held ≡ Some (id, kept) → P id kept)
