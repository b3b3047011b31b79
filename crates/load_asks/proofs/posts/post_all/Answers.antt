use Rattle.load_asks.proofs.PostLemmas.{next_accepted, reached_then}
use Rattle.load_asks.proofs.posts.post_all.Goals as goal

pub loop-k-preserved : goal.loop-k-preserved
loop-k-preserved g c =
    next_accepted g.H.HubLink.asked g.H.HubLink.does c.args.link.now c.loop-k.link c.post_user.new.link c.loop-k.k c.loop-k.invariant c.in_ok-post_user.ensures.accepted

pub returns-in_err-post_user-clause-reached : goal.returns-in_err-post_user-clause-reached
returns-in_err-post_user-clause-reached g c =
    reached_then g.H.HubLink.asked g.H.HubLink.does c.args.link.now c.loop-k.link c.post_user.new.link
    (c.loop-k.invariant.asks, c.loop-k.invariant.chain) c.post_user.ensures.reached
