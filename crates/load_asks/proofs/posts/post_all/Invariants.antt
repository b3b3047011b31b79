use Rattle.load_asks.specs.Posts.{Accepted, posts}
use Rattle.load_asks.proofs.posts.post_all.Given as goal

abbrev pub invariant-loop-k : goal.invariant-loop-k
invariant-loop-k g l = Accepted g.H.HubLink.asked g.H.HubLink.does l.fn.link (posts l.k) l.link
