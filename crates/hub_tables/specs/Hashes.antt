-- Which tokens and share codes, which are found by a hash, may stand under their ids.
use Rattle.std.specs.Prelude.{◌≡◌, ℕ, Some}
use Rattle.std.specs.Ordering.{nat_cmp}
use Rattle.std.specs.FinMap.{FinMap, get}
use Rattle.hub_rows.specs.declared.records.ShareCode.{ShareCode}
use Rattle.hub_rows.specs.declared.records.Token.{Token}
pub use Rattle.row_indexes.specs.Hashes.{row_with, FitsHash}

-- a token may stand under its id: its hash fits, and one that it replaces has the same owner
pub record FitsToken (tokens : FinMap nat_cmp Token) (value : Token) : Type 0 where
  pub hash : FitsHash (λ (row : Token). row.id) (λ row. row.hash) tokens value
  pub owner : (row : Token) → get tokens value.id ≡ Some row → row.owner ≡ value.owner

-- a share code may stand under its id: its hash fits, and one that it replaces is of the same server
pub record FitsCode (codes : FinMap nat_cmp ShareCode) (value : ShareCode) : Type 0 where
  pub hash : FitsHash (λ (row : ShareCode). row.id) (λ row. row.hash) codes value
  pub server : (row : ShareCode) → get codes value.id ≡ Some row → row.server ≡ value.server
