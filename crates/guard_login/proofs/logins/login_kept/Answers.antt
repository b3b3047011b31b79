use Rattle.std.proofs.Common.{[], ◌++◌, Err, refl, ap, sym, ◌∙◌, inl, inr}
use Rattle.http_wire.specs.declared.head.Head.{Head}
use Rattle.hub_link.proofs.AskLemmas.{no_ask}
use Rattle.proxy_wire.specs.Framing.{request_framing}
use Rattle.proxy_core.proofs.ForwardLemmas.{took_from}
use Rattle.guard_login.proofs.LoginLemmas.{follows_of}
use Rattle.guard_login.proofs.logins.login_kept.Goals as goal

pub returns-in-Err-clause-ends : goal.returns-in-Err-clause-ends
returns-in-Err-clause-ends g c =
    let e = c.in-Err.ensures.err in (
      [],
      c.read_head.new.kept,
      no_ask g.H.HubLink.asked g.H.HubLink.does c.args.link.now,
      inl (
        c.stopped.result,
        inl (record {
          unasked = refl;
          error = c.in-Err.e;
          took = took_from _ _ c.args.rooms.now.kept _ c.requires e.0;
          refused = e.1;
          told = refl;
          stopped = c.stopped.ensures.stopped;
          cause = λ is. c.in-Err.ensures.cause (ap Err is);
        }),
        c.signing.ensures,
        refl,
      ),
    )

pub returns-in-Err-request_framing-clause-ends : goal.returns-in-Err-request_framing-clause-ends
returns-in-Err-request_framing-clause-ends g c =
    let read = c.in-Ok.ensures.ok in (
      [],
      c.read_head.new.kept,
      no_ask g.H.HubLink.asked g.H.HubLink.does c.args.link.now,
      inl (
        c.refuse.result,
        inr (record {
          unasked = refl;
          head = read.0;
          is = read.1;
          took = took_from _ _ c.args.rooms.now.kept _ c.requires read.3;
          told = refl;
          error = c.in-Err-request_framing.e;
          why = sym (c.in-Err-request_framing.ensures.framing ∙ ap (λ (h : Head). request_framing h.headers) read.2);
          written = rw c.wire_refusal.ensures at c.refuse.ensures.written;
        }),
        c.signing-in-Err-request_framing.ensures,
        refl,
      ),
    )

pub returns-clause-ends : goal.returns-clause-ends
returns-clause-ends g c =
    let read = c.in-Ok.ensures.ok in
    let signed = c.sign_in.ensures.ends in (
      signed.0,
      signed.1 ++ c.sign_in.new.rooms.kept,
      signed.2,
      inr (record {
        head = read.0;
        is = read.1;
        left = g.I.Source.left c.read_head.new.input;
        kept = c.read_head.new.kept;
        reads = g.I.Source.faults c.read_head.new.input;
        framing = c.in-Ok-request_framing.framing;
        took = took_from _ _ c.args.rooms.now.kept _ c.requires read.3;
        counted = c.read_head.ensures.counted;
        framed = sym (c.in-Ok-request_framing.ensures.framing ∙ ap (λ (h : Head). request_framing h.headers) read.2);
        follows = follows_of g.R.Random.left g.R.Random.faults c.args.random.now c.sign_in.new.random c.args.door.now c.in-Ok.head read.0
            c.in-Ok-request_framing.framing signed.0 (g.H.HubLink.faults c.args.link.now) (g.H.HubLink.faults c.sign_in.new.link) _ _ _ read.2
            signed.3;
      }),
    )
