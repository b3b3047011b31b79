use Rattle.std.proofs.Common.{◌≡◌, [], ◌++◌, List, ℕ, sym, subst, arith, length}
use Rattle.upstreams.specs.Upstream.{Moves}
use Rattle.upstreams.proofs.MoveLemmas.{Moves_none, Moves_then, Moves_open}
use Rattle.proxy_wire.specs.Replies.{BeginsReply}
use Rattle.proxy_wire.proofs.ReplyLemmas.{spent_more, skipped_none, skipped_head, begins, bad_reply, full_reply, unframed_reply}
use Rattle.proxy_wire.proofs.replies.read_reply.Goals as goal

pub heads-init : goal.heads-init
heads-init g c = record {
  skipped = skipped_none c.args.window.now;
  fits = omega arith;
  moved = subst (λ (x : List ℕ). Moves (g.U.Upstream.told c.args.up.now) [] x (g.U.Upstream.told c.args.up.now)) (sym c.requires.empty) (Moves_none (g.U.Upstream.told c.args.up.now));
  counted = omega arith;
}

pub heads-preserved-in-Interim : goal.heads-preserved-in-Interim
heads-preserved-in-Interim g c =
    let step = rw c.in-Interim.is at c.in-Ok.ensures.step in
    let more = skipped_head c.heads.window c.heads.at c.in-Interim.len step.0 c.heads.invariant.skipped step.1 step.2 in record {
      skipped = more;
      fits = more.fits;
      moved = c.heads.invariant.moved;
      counted = c.heads.invariant.counted;
    }

pub returns-in-Final-clause-ok : goal.returns-in-Final-clause-ok
returns-in-Final-clause-ok g c =
    let step = rw c.in-Final.is at c.in-Ok.ensures.step in (
      step.0,
      c.heads.window,
      step.4,
      step.5,
      subst (λ (x : List ℕ). BeginsReply c.args.upgrade c.args.method.now c.heads.window step.0 c.in-Final.reply.framing x) (sym c.drop_front.ensures)
          (begins c.args.upgrade c.args.method.now c.heads.window c.heads.at c.in-Final.len step.0 c.in-Final.reply.framing c.heads.invariant.skipped step.1 step.2
          (omega (arith, c.step_at.ensures.short)) step.3),
      c.heads.invariant.moved,
    )

pub returns-in-Bad-clause-err : goal.returns-in-Bad-clause-err
returns-in-Bad-clause-err g c =
    let step = rw c.in-Bad.is at c.in-Ok.ensures.step in
    (c.heads.window, bad_reply c.args.upgrade c.args.method.now c.heads.window c.heads.at _ c.heads.invariant.skipped step, c.heads.invariant.moved)

pub returns-in-Unframed-clause-err : goal.returns-in-Unframed-clause-err
returns-in-Unframed-clause-err g c =
    let step = rw c.in-Unframed.is at c.in-Ok.ensures.step in
    (c.heads.window, unframed_reply c.args.upgrade c.args.method.now c.heads.window c.heads.at step.1 step.0 _ c.heads.invariant.skipped step.2 step.3 step.4, c.heads.invariant.moved)

pub returns-then-as_slice-eq-ROOM-clause-err : goal.returns-then-as_slice-eq-ROOM-clause-err
returns-then-as_slice-eq-ROOM-clause-err g c =
    let step = rw c.in-Open.is at c.in-Ok.ensures.step in
    let full : length c.heads.window ≡ 16384 = grind arith in
    (c.heads.window, full_reply c.args.upgrade c.args.method.now c.heads.window c.heads.at _ c.heads.invariant.skipped step full, c.heads.invariant.moved)

pub returns-in-Ok-eq0-clause-err : goal.returns-in-Ok-eq0-clause-err
returns-in-Ok-eq0-clause-err g c =
    let step = rw c.in-Open.is at c.in-Ok.ensures.step in
    let came = c.in-Ok-eq0.ensures.ok in (
      c.heads.window ++ came.piece,
      spent_more c.args.upgrade c.args.method.now c.heads.window came.piece c.heads.at _ c.heads.invariant.skipped step (omega (arith, came.size, c.in-Ok-eq0.field-0-test))
          (c.in-Ok-eq0.ensures.end c.in-Ok-eq0.field-0-test),
      Moves_then _ _ _ [] [] c.heads.window came.piece c.heads.invariant.moved came.moves,
    )

pub receive_window-requires-clause-open : goal.receive_window-requires-clause-open
receive_window-requires-clause-open g c = Moves_open _ _ [] c.heads.window c.requires.open c.heads.invariant.moved
