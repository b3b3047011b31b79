use Rattle.std.proofs.Common.{ℕ, ◌+◌, ap, refl, arith}
use Rattle.idle_culler.specs.declared.rounds.Taken.{Taken}
use Rattle.idle_culler.proofs.LoopLemmas.{is_more, is_last, reading_none, reading_more, reading_whole, reading_broken, reading_wanting}
use Rattle.idle_culler.proofs.rounds.read_pages.Goals as goal

pub pages-init : goal.pages-init
pages-init g c = record {
  done = reading_none g.H.HubLink.asked g.H.HubLink.does c.args.link.now c.args.token.now c.args.options.now c.args.now c.args.list.now c.requires;
  place = omega arith;
  few = omega arith;
  counted = omega arith;
}

pub pages-preserved : goal.pages-preserved
pages-preserved g c =
    let taken = c.in-Ok-take_page.ensures.taken in
    let more = is_more c.in-Ok-take_page.taken.more c.in-Ok.page.more (ap (λ (t : Taken). t.more) taken) c.if-not-taken.false in
    let users = ap (λ (t : Taken). t.users) taken in record {
      done = reading_more g.H.HubLink.asked g.H.HubLink.does c.args.link.now c.pages.link c.ask_page.new.link c.args.token.now c.args.options.now c.args.now
          c.pages.list c.take_page.new.list c.pages.users (c.pages.users + c.in-Ok-take_page.taken.users) c.pages.offset (c.pages.offset + 50) c.in-Ok.page
          c.pages.invariant.done c.in-Ok.ensures.ok more c.in-Ok-take_page.ensures.list (ap (λ (n : ℕ). c.pages.users + n) users) refl;
      place = c.in-Ok.ensures.fits.1 more;
      few = omega (arith, c.pages.invariant.few, c.in-Ok.ensures.fits.0, users);
      counted = omega (arith, c.pages.invariant.counted, c.ask_page.ensures.counted);
    }

pub returns-in-Err-clause-err : goal.returns-in-Err-clause-err
returns-in-Err-clause-err g c =
    reading_broken g.H.HubLink.asked g.H.HubLink.does c.args.link.now c.pages.link c.ask_page.new.link c.args.token.now c.args.options.now c.args.now
    c.pages.list c.pages.users c.pages.offset c.in-Err.fault c.pages.invariant.done c.in-Err.ensures.err

pub returns-in_default-clause-err : goal.returns-in_default-clause-err
returns-in_default-clause-err g c =
    reading_wanting g.H.HubLink.asked g.H.HubLink.does c.args.link.now c.pages.link c.ask_page.new.link c.args.token.now c.args.options.now c.args.now
    c.pages.list c.pages.users c.pages.offset c.in-Ok.page c.pages.invariant.done c.in-Ok.ensures.ok

pub returns-then-not-taken-clause-ok : goal.returns-then-not-taken-clause-ok
returns-then-not-taken-clause-ok g c =
    let taken = c.in-Ok-take_page.ensures.taken in
    let last = is_last c.in-Ok-take_page.taken.more c.in-Ok.page.more (ap (λ (t : Taken). t.more) taken) c.if-not-taken.true in
    reading_whole g.H.HubLink.asked g.H.HubLink.does c.args.link.now c.pages.link c.ask_page.new.link c.args.token.now c.args.options.now c.args.now
    c.pages.list c.take_page.new.list c.pages.users (c.pages.users + c.in-Ok-take_page.taken.users) c.pages.offset c.in-Ok.page
    c.pages.invariant.done c.in-Ok.ensures.ok last c.in-Ok-take_page.ensures.list
    (ap (λ (n : ℕ). c.pages.users + n) (ap (λ (t : Taken). t.users) taken))
