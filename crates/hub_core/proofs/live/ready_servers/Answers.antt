use Rattle.std.proofs.Common.{ℕ, ◌++◌, Option, ap, ◌∙◌, rules}
use Rattle.std.specs.Prelude.{option_to_list}
use Rattle.hub_lives.specs.declared.lives.Leased.{Leased}
use Rattle.hub_core.specs.Live.{as_live, ready_among, ready_in}
use Rattle.hub_core.proofs.Walked.{one_further}
use Rattle.hub_core.proofs.live.ready_servers.Goals as goal

pub loop-lease-preserved : goal.loop-lease-preserved
loop-lease-preserved c =
    one_further (λ (l : Leased). as_live l (ready_in l.life.phase)) c.in-Some.lease.now c.next.new.self c.loop-lease.lease-iterator c.loop-lease.servers.items c.push_live.new.servers.items
    (ready_among c.into_iter-lease-iterator.result) (search rules)
    (c.in_ok-push_live.ensures ∙ ap (λ (g : Option ℕ). c.loop-lease.servers.items ++ option_to_list (as_live c.in-Some.lease.now g)) c.ready_in.ensures) c.loop-lease.invariant
