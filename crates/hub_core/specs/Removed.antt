-- Tokens that were removed: no call is answered for one, until an entry puts its hash again.
use Rattle.std.specs.Prelude.{◌≡◌, ◌⊎◌, ℕ, List, All, None}
use Rattle.hub_kit.specs.Hashes.{hash_text}
use Rattle.hub_rows.specs.declared.changes.RowChange.{RowChange}
use Rattle.hub_rows.specs.declared.changes.RowChange.TheVariants.{Put}
use Rattle.hub_rows.specs.declared.rows.Row.TheVariants as Row
use Rattle.hub_tables.specs.Lookups.{token_of_hash}
use Rattle.hub_machine.specs.Apply.{rows_of}
use Rattle.hub_machine.specs.Replies.{Answer, refuses}
use Rattle.hub_machine.specs.State.{Hub}
use Rattle.hub_machine.specs.declared.call.Asked.{Asked}
use Rattle.hub_machine.specs.declared.change.Change.{Change}
use Rattle.hub_machine.specs.declared.refusal.Refusal.TheVariants.{NoValidToken, SeenPast}
use Rattle.hub_core.specs.Answer.{named}
use Rattle.hub_core.specs.History.{state_after}

-- the change of a row puts no token of this hash
abbrev pub PutsNoToken : (hash : List ℕ) → RowChange → Type 0
PutsNoToken hash (Put (Row.Token k)) = k.hash ≡ hash → ⊥
PutsNoToken hash c = Unit {0}

-- the entries `gone` left no token of this text, the last of them by removing it, and the later ones put none of its hash again
pub record IsRemoved (start : Hub) (text : List ℕ) (gone later : List Change) : Type 0 where
  pub removed : token_of_hash (state_after start gone).tables (hash_text text) ≡ None
  pub never_again : All (λ c. All (PutsNoToken (hash_text text)) (rows_of c)) later

-- 403 `no valid token`, or 412 before it
abbrev pub IsTokenRefused : Hub → Asked → Answer → Type 0
IsTokenRefused s asked a = (a ≡ refuses NoValidToken) ⊎ (a ≡ refuses (SeenPast (named asked.seen) s.length))
