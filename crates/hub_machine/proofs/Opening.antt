-- A machine that begins is of one piece.
use Rattle.std.proofs.Common.{◌≡◌, ◌≤◌, ◌+◌, ◌*◌, ◌^◌, ℕ, arith}
use Rattle.std.specs.Prelude.{length}
use Rattle.server_life.specs.Pools.{IsPool}
use Rattle.hub_machine.specs.State.{Hub, KeepsLeases, next_generation, opening_next, owed}
use Rattle.hub_machine.proofs.Pieces.{IsPiece}

pub opened_piece : (s : Hub) (next : ℕ) → s.length ≡ 0 → s.cost ≡ 0 → s.tables.limits.trail_bytes ≤ 2 ^ 62 → IsPool s.pool → next ≡ next_generation s.tables
    → next ≤ opening_next s.pool → KeepsLeases s.tables s.lives → owed s.lives ≤ 4 * length s.pool → IsPiece s next
opened_piece s next long cost limit pool is few kept owing =
    let small = pool.few in (
      record {
        length = omega (arith, long, owing, small);
        counted = λ f. omega (arith, long);
        within = λ f. omega (arith, cost, owing);
        limit = omega (arith, limit, small);
      },
      is,
      kept,
      omega (arith, few, long),
    )
