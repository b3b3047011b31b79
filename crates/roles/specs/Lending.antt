-- A cache whose grant was told and is still read.
use Rattle.std.specs.Prelude.{ℕ, Result, ⊤}
use Rattle.std.specs.Borrow.{Fml, Bor, MutBor, follows_so}
use Rattle.std.specs.declared.alloc.AllocError.{AllocError}
use mathlib.Core.Option.{none}
use Rattle.scope_filters.specs.Grants.{Rights}
use Rattle.hub_rows.specs.declared.records.Token.{Token}
use Rattle.hub_tables.specs.State.{State}
use Rattle.roles.specs.Looks.{Cache, IsLooked, IsRight}
use Rattle.roles.specs.contracts.cache.RightsCache.{the_row}

-- A look at the cache `c`, for the token `k` under this stamp, told `r`, a grant that is lent out of the cache. Once that grant is let go
-- the cache is some `n`: as the look leaves it, and what it then has for this token and stamp is the right grant in the state `t`.
-- (`follows_so` is std's word for what holds of a place when what was lent of it ends)
abbrev pub EndsLooked : MutBor Cache → State → Token → ℕ → Result (Bor Rights) AllocError → Fml
EndsLooked c t k stamp r = follows_so the_row the_row c.ghost_name none (λ _ _. ⊤)
    (λ n. IsLooked c.now k.id stamp r n × IsRight n t k stamp)
