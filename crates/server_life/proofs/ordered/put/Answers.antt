use Rattle.std.proofs.Common.{◌∙◌, sym, ap, arith, cond, ◌≤◌, length}
use Rattle.std.specs.List.{insert}
use Rattle.server_life.specs.Ranks.{rank}
use Rattle.server_life.proofs.Ranks.{put-rank, rank_le}
use Rattle.server_life.proofs.ordered.put.Goals as goal

pub insert-room-requires : goal.insert-room-requires
insert-room-requires g c =
    let n : rank g.K.Ord.cmp c.args.key.now c.as_slice.result.now ≤ length c.as_slice.result.now = rank_le g.K.Ord.cmp g.met.K.Ord.total c.args.key.now c.as_slice.result.now in
    omega (arith, n)

pub returns-clause-items : goal.returns-clause-items
returns-clause-items g c =
    c.insert-room.ensures.items
    ∙ (ap (λ b. cond b (insert c.args.entries.now.items c.rank-at.result (c.args.key.now, c.args.value)) c.args.entries.now.items) (c.insert-room.ensures.succeeds c.requires.room)
    ∙ (ap (λ i. insert c.args.entries.now.items i (c.args.key.now, c.args.value)) (c.rank-at.ensures ∙ ap (rank g.K.Ord.cmp c.args.key.now) c.as_slice.ensures.value)
    ∙ sym (put-rank g.K.Ord.cmp g.met.K.Ord.total c.args.key.now c.args.value c.args.entries.now.items c.requires.new)))
