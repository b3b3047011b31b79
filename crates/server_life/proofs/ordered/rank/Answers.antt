use Rattle.std.proofs.Common.{rules}
use Rattle.std.specs.Ordering.{is_lt}
use Rattle.std.proofs.lemmas.List.Sorted.{IsPartitionPoint-from_clause}
use Rattle.server_life.proofs.Ranks.{parted, rank_is}
use Rattle.server_life.proofs.ordered.rank.Goals as goal

pub returns : goal.returns
returns g c =
    rank_is g.K.Ord.cmp g.met.K.Ord.total c.args.key.now c.args.entries.now c.partition_point.result c.partition_point.ensures.bound
    (IsPartitionPoint-from_clause (λ e. is_lt (g.K.Ord.cmp e.0 c.args.key.now)) c.args.entries.now c.partition_point.result c.partition_point.ensures.partitioned
    (parted g.K.Ord.cmp g.met.K.Ord.total c.args.key.now c.args.entries.now c.requires) (λ a r q k. search rules))
