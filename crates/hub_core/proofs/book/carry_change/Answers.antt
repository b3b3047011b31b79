use Rattle.std.proofs.Common.{◌≡◌, ◌∙◌, ◌+◌, Bool, true, false, ap, inl, inr, refl, Ok}
use Rattle.std.specs.Prelude.{Some}
use Rattle.hub_machine.specs.Replies.{answered, refusal_reply}
use Rattle.hub_core.specs.Stamps.{since_after, stamp_after}
use Rattle.hub_machine.specs.declared.refusal.Refusal.TheVariants.{KeeperFault}
use Rattle.hub_core.proofs.book.carry_change.Goals as goal

pub returns-in-Ok-true-clause-carried : goal.returns-in-Ok-true-clause-carried
returns-in-Ok-true-clause-carried g c =
    let same = rw c.in-Ok-true.field-0-test at c.in-Ok-true.ensures.entered in
    inl (record {
      hub = same.0;
      telling = same.1;
      stamped = c.after-after.ensures.stamp ∙ (λ i. stamp_after (c.tables.ensures i) (Some (c.change.ensures i)) c.args.stamps.now.stamp);
      settled = c.after-after.ensures.since ∙ (λ i. since_after (c.tables.ensures i) (Some (c.change.ensures i)) c.args.stamps.now.stamp c.args.stamps.now.since);
      unasked = λ e. ap g.K.Keeper.faults (c.in-Ok-true.ensures.calm e).0;
      said = refl;
    })

-- what isn't false is true
commits : (b : Bool) → (b ≡ false → ⊥) → b ≡ true
commits true h = refl
commits false h = absurd (h refl)

pub returns-in-Ok-false-clause-carried : goal.returns-in-Ok-false-clause-carried
returns-in-Ok-false-clause-carried g c =
    let same = rw c.in-Ok-false.field-0-test at c.in-Ok-false.ensures.entered in
    inr (record {
      change = c.args.change;
      has = refl;
      commits = commits _ (λ e. (c.in-Ok-false.ensures.calm e).1 (ap Ok c.in-Ok-false.field-0-test));
      said = ap answered (c.in-Ok.ensures ∙ ap (λ n. refusal_reply n KeeperFault) c.length.ensures.value);
      stays = record { hub = same.0; telling = same.1; stamped = refl; settled = refl };
      rises = c.in-Ok-false.ensures.cause (ap Ok c.in-Ok-false.field-0-test);
    })
