use Rattle.std.proofs.Common.{rules}
use Rattle.std.proofs.lemmas.List.Sorted.{IsPartitionPoint-from_clause}
use Rattle.std.specs.Prelude.{slice_get}
use Rattle.server_life.specs.LeaseIndex.{is_below}
use Rattle.server_life.proofs.ByServer.{parted_places, ranked}
use Rattle.server_life.proofs.by_server.rank.Goals as goal

pub returns-clause-rank : goal.returns-clause-rank
returns-clause-rank c = λ es a.
    ranked c.args.leased.now c.args.places.now es c.args.key.now c.partition_point.result a c.partition_point.ensures.bound
    (IsPartitionPoint-from_clause (λ i. is_below c.args.key.now (slice_get c.args.leased.now i)) c.args.places.now c.partition_point.result c.partition_point.ensures.partitioned
    (parted_places c.args.leased.now c.args.places.now es c.args.key.now a) (λ a r q k. search rules))
