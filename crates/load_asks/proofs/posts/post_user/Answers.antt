use Rattle.std.proofs.Common.{[], ◌∷◌}
use Rattle.std.proofs.lemmas.Result.{on_ok_weaker}
use Rattle.load_asks.specs.Requests.{user_request, token_request}
use Rattle.load_asks.proofs.PostLemmas.{accepted_then, accepted_as, reached_then}
use Rattle.load_asks.proofs.posts.post_user.Goals as goal

pub returns-clause-accepted : goal.returns-clause-accepted
returns-clause-accepted g c =
    on_ok_weaker c.post-2.result (λ second.
    accepted_then g.H.HubLink.asked g.H.HubLink.does c.args.link.now c.post.new.link c.post-2.new.link
    (user_request c.args.k ∷ []) (token_request c.args.k ∷ [])
    (accepted_as g.H.HubLink.asked g.H.HubLink.does c.args.link.now c.post.new.link _ (user_request c.args.k) c.in-Ok.ensures c.in_ok-post.ensures.accepted)
    (accepted_as g.H.HubLink.asked g.H.HubLink.does c.post.new.link c.post-2.new.link _ (token_request c.args.k) c.in-Ok-token_request.ensures second))
    c.post-2.ensures.accepted

pub returns-clause-reached : goal.returns-clause-reached
returns-clause-reached g c =
    reached_then g.H.HubLink.asked g.H.HubLink.does c.args.link.now c.post.new.link c.post-2.new.link c.post.ensures.reached c.post-2.ensures.reached
