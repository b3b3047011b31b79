use Rattle.std.proofs.Common.{rules, ◌≡◌, ◌∙◌, Bool, cond, true, false, nat_lt, length, get_or, ap, sym, arith, [], slice_get}
use Rattle.std.proofs.lemmas.Bool.Decides.{nat_tests}
use Rattle.std.proofs.lemmas.List.Sorted.{IsPartitionPoint-from_clause}
use Rattle.server_life.specs.LeaseIndex.{user_below, user_of}
use Rattle.server_life.proofs.ByServer.{parted_users, any_of}
use Rattle.server_life.proofs.by_server.has_user.Goals as goal

pub returns-then-at-places : goal.returns-then-at-places
returns-then-at-places c = λ es a.
    let u = c.args.user.now in
    let leased = c.args.leased.now in
    let places = c.args.places.now in
    let at = c.partition_point-at.result in
    let within : nat_lt at (length places) ≡ true = grind (arith, nat_tests, c.if-at-places.true) in
    c.is_of_user.ensures
    ∙ (sym (ap (λ (b : Bool). cond b (user_of u (slice_get leased (get_or places at 0))) false) within)
    ∙ any_of leased places es u at 0 a c.partition_point-at.ensures.bound
    (IsPartitionPoint-from_clause (λ i. user_below u (slice_get leased i)) places at c.partition_point-at.ensures.partitioned (parted_users leased places es u (record { user = u; server = [] }) a) (λ a r q k. search rules)))

pub returns-else-at-places : goal.returns-else-at-places
returns-else-at-places c = λ es a.
    let u = c.args.user.now in
    let leased = c.args.leased.now in
    let places = c.args.places.now in
    let at = c.partition_point-at.result in
    let past : nat_lt at (length places) ≡ false = grind (arith, nat_tests, c.if-at-places.false) in
    past
    ∙ (sym (ap (λ (b : Bool). cond b (user_of u (slice_get leased (get_or places at 0))) false) past)
    ∙ any_of leased places es u at 0 a c.partition_point-at.ensures.bound
    (IsPartitionPoint-from_clause (λ i. user_below u (slice_get leased i)) places at c.partition_point-at.ensures.partitioned (parted_users leased places es u (record { user = u; server = [] }) a) (λ a r q k. search rules)))
