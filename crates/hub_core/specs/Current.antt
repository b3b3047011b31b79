-- The book's cache of rights: what is true of it in a state, and what a visit leaves of it.
use Rattle.std.specs.Prelude.{◌≡◌, ℕ, ◌<◌, ◌≤◌, ◌⊎◌, codes, Option, Some, None, Result, Ok, Err}
use Rattle.std.specs.FinMap.{get}
use Rattle.scope_filters.specs.Grants.{Rights}
use Rattle.hub_rows.specs.declared.records.ShareCode.{ShareCode}
use Rattle.hub_rows.specs.declared.records.Token.{Token}
use Rattle.hub_tables.specs.Lookups.{next_of}
use Rattle.hub_tables.specs.State.{State}
use Rattle.roles.specs.declared.cache.KeptGrant.{KeptGrant}
use Rattle.roles.specs.Looks.{Cache, IsAfter, OfAll, found}
use Rattle.roles.specs.Rights.{IsAllowed, IsGrantOf}
use Rattle.hub_opening.specs.Opening.{next_token}

-- ---- what is true of every entry

-- an entry has no later stamp than the book's and an id below the next, and one whose stamp is `since` or later admits exactly what the
-- token of its id is allowed
pub record IsRightIn (t : State) (since stamp : ℕ) (id : ℕ) (kept : KeptGrant) : Type 0 where
  pub older : kept.stamp ≤ stamp
  pub numbered : id < next_token t
  pub right : since ≤ kept.stamp → (k : Token) → get t.tokens id ≡ Some k → IsGrantOf t (IsAllowed t k) kept.grant

-- Each entry of the cache is right in this state, at the book's stamp; the last change of a source of rights left the stamp `since`
pub record IsCurrent (c : Cache) (t : State) (since stamp : ℕ) : Type 0 where
  pub settled : since ≤ stamp
  pub each : OfAll (IsRightIn t since stamp) c

-- ---- what keeps it so

-- The number of the next share code
abbrev pub next_code : State → ℕ
next_code t = next_of t (codes "code")

-- each kept token has a number below the next, and each kept share code below the next of codes
pub record AreNumbered (t : State) : Type 0 where
  pub tokens : (id : ℕ) (k : Token) → get t.tokens id ≡ Some k → id < next_token t
  pub codes : (id : ℕ) (c : ShareCode) → get t.codes id ≡ Some c → id < next_code t

-- what is true of every book's cache: its entries are of now, so will they be after a change, and the stamp has room
pub record IsStamped (c : Cache) (t : State) (since stamp length : ℕ) : Type 0 where
  pub current : IsCurrent c t since stamp
  pub numbered : AreNumbered t
  pub room : stamp ≤ length

-- ---- what a visit leaves

-- one look for the token whose rights decide, with the book's stamp; no look where none decides
abbrev pub LookedFor : Cache → (stamp : ℕ) → Option Token → Cache → Type 0
LookedFor c stamp None n = n ≡ c
LookedFor c stamp (Some k) n = (grant : Rights) × IsAfter c k.id stamp (found c k.id stamp) grant n

-- where memory is wanting there may have been none
abbrev pub Looked : {A E : Type 0} → Cache → (stamp : ℕ) → Option Token → Result A E → Cache → Type 0
Looked c stamp k (Ok a) n = LookedFor c stamp k n
Looked c stamp k (Err e) n = (n ≡ c) ⊎ LookedFor c stamp k n
