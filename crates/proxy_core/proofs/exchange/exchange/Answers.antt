use Rattle.std.proofs.Common.{[], ◌++◌, false, inl, inr, Err, ap, refl}
use Rattle.upstreams.proofs.MoveLemmas.{Moves_both, Moves_open}
use Rattle.hub_devices.proofs.CallLemmas.{Rises_later}
use Rattle.proxy_bodies.proofs.BackLemmas.{rises_from}
use Rattle.proxy_core.proofs.EndLemmas.{refused_reply}
use Rattle.proxy_core.proofs.exchange.exchange.Goals as goal

-- the whole request was sent, and a reply came
pub returns-in-Ok-read_reply-clause-ok : goal.returns-in-Ok-read_reply-clause-ok
returns-in-Ok-read_reply-clause-ok g c =
    let sent = c.in-Ok.ensures.ok in
    let came = c.in-Ok-read_reply.ensures.ok in (
      sent.0,
      c.args.text.now ++ sent.0,
      came.1,
      came.0,
      sent.2,
      Moves_both _ _ _ (c.args.text.now ++ sent.0) came.1 sent.3 came.5,
      inl (record { whole = sent.1; text = refl }),
      came.2,
      came.4,
    )

-- the upstream took no more, and had said a reply
pub returns-in-Some-clause-ok : goal.returns-in-Some-clause-ok
returns-in-Some-clause-ok g c =
    let sent = rw c.in-Err-SendFault.field-0-is at c.in-Err-SendFault.ensures.err in
    let came = c.in-Some.ensures.some in (
      sent.0,
      sent.1,
      came.0,
      came.1,
      sent.2,
      Moves_both _ _ _ sent.1 came.0 sent.3 came.2,
      inr (
        record { more = sent.4.0; front = sent.4.1; of = sent.4.2 },
        Rises_later _ _ _ (c.in-Err-SendFault.ensures.send_fault (ap Err c.in-Err-SendFault.field-0-is)) c.early_reply.ensures.links,
      ),
      came.3,
      came.4,
    )

-- nor had it said one
pub returns-in-None-clause-err : goal.returns-in-None-clause-err
returns-in-None-clause-err g c =
    let sent = rw c.in-Err-SendFault.field-0-is at c.in-Err-SendFault.ensures.err in
    let came = c.in-None.ensures.none refl in (
      sent.0,
      sent.1,
      came.0,
      sent.2,
      Moves_both _ _ _ sent.1 came.0 sent.3 came.1,
      (
        record { more = sent.4.0; front = sent.4.1; of = sent.4.2 },
        Rises_later _ _ _ (c.in-Err-SendFault.ensures.send_fault (ap Err c.in-Err-SendFault.field-0-is)) c.early_reply.ensures.links,
      ),
    )

pub returns-in-Err-read_reply-clause-err : goal.returns-in-Err-read_reply-clause-err
returns-in-Err-read_reply-clause-err g c =
    let sent = c.in-Ok.ensures.ok in
    let e = c.in-Err-read_reply.ensures.err in (
      sent.0,
      c.args.text.now ++ sent.0,
      e.0,
      sent.2,
      Moves_both _ _ _ (c.args.text.now ++ sent.0) e.0 sent.3 e.2,
      rw c.refusal_of.ensures (refused_reply
          (record { upgrade = false; method = c.args.method.now; text = c.args.text.now; framing = c.args.framing })
          (g.U.Upstream.told c.read_reply.new.up) (g.U.Upstream.faults c.args.up.now) (g.U.Upstream.faults c.read_reply.new.up)
          (c.send_request.new.window ++ c.send_request.new.kept) sent.0 (c.args.text.now ++ sent.0) e.0 c.in-Err-read_reply.e (record { whole = sent.1; text = refl }) e.1
          (λ is. rises_from _ _ _ c.send_request.ensures.sends c.read_reply.ensures.counted (c.in-Err-read_reply.ensures.cause (ap Err is)))),
    )

pub read_reply-requires-clause-open : goal.read_reply-requires-clause-open
read_reply-requires-clause-open g c =
    let sent = c.in-Ok.ensures.ok in
    Moves_open _ _ (c.args.text.now ++ sent.0) [] c.requires.open sent.3
