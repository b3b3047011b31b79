use Rattle.std.proofs.Common.{◌≡◌, ℕ, ◌+◌, [], ◌∷◌, ◌++◌, arith, refl, ap, ◌∙◌, subst}
use Rattle.hub_loading.specs.Rounds.{Rounds}
use Rattle.hub_loading.specs.Setting.{job_view}
use Rattle.hub_loading.specs.declared.rounds.Counts.{Counts}
use Rattle.hub_loading.proofs.RoundLemmas.{rounds_more, number_more, asked_of, small_sum, ok_more, admitted_more, counts_with}
use Rattle.hub_loading.proofs.rounds.ask_all.Goals as goal

pub loop-user-init : goal.loop-user-init
loop-user-init g c = record {
  asked = ([], (refl, refl), c.none-counts.ensures);
  number = refl;
  small = c.requires.seed;
  found = ap (λ (n : Counts). n.ok + n.missing) c.none-counts.ensures;
  admitted = ap (λ (n : Counts). n.admitted + n.refused) c.none-counts.ensures;
  same_pass = refl;
  same_kit = refl;
}

pub next_number-number-requires : goal.next_number-number-requires
next_number-number-requires g c = c.loop-user.invariant.small

pub with-counts-requires-clause-found : goal.with-counts-requires-clause-found
with-counts-requires-clause-found g c =
    small_sum c.loop-user.counts.ok c.loop-user.counts.missing c.loop-user.user c.args.users c.loop-user.invariant.found c.loop-user-test.true c.requires.users.1

pub with-counts-requires-clause-admitted : goal.with-counts-requires-clause-admitted
with-counts-requires-clause-admitted g c =
    small_sum c.loop-user.counts.admitted c.loop-user.counts.refused c.loop-user.user c.args.users c.loop-user.invariant.admitted c.loop-user-test.true c.requires.users.1

pub loop-user-preserved : goal.loop-user-preserved
loop-user-preserved g c =
    let (rounds, done, is) = c.loop-user.invariant.asked in
    let number = c.next_number-number.ensures.next ∙ number_more c.args.seed c.loop-user.user c.loop-user.number c.loop-user.invariant.number in
    record {
      asked = (
        rounds ++ c.in_ok-round.round ∷ [],
        rounds_more c.args.seed c.args.users c.loop-user.user c.args.target.now _ _ _ rounds c.in_ok-round.round _ _ done refl
            (asked_of c.args.seed c.args.users c.loop-user.user c.next_number-number.result number) c.in_ok-round.ensures.asked,
        counts_with c.loop-user.counts c.with-counts.result rounds c.in_ok-round.round c.with-counts.ensures is,
      );
      number = number;
      small = c.next_number-number.ensures.small;
      found = ok_more c.loop-user.counts c.with-counts.result c.in_ok-round.round c.loop-user.user c.with-counts.ensures c.loop-user.invariant.found;
      admitted = admitted_more c.loop-user.counts c.with-counts.result c.in_ok-round.round c.loop-user.user c.with-counts.ensures c.loop-user.invariant.admitted;
      same_pass = c.ask_one.ensures.same_pass ∙ c.loop-user.invariant.same_pass;
      same_kit = c.ask_one.ensures.same_kit ∙ c.loop-user.invariant.same_kit;
    }

pub returns-clause-asked : goal.returns-clause-asked
returns-clause-asked g c =
    let (rounds, done, is) = c.loop-user.invariant.asked in
    let at_end : c.loop-user.user ≡ c.args.users = omega (arith, c.loop-user.auto.user-end, c.loop-user-test.false) in (
      rounds,
      subst (λ (k : ℕ). Rounds c.args.seed c.args.users k c.args.target.now (job_view c.args.link.now.pass.now c.args.link.now.kit.now) rounds
          (job_view c.loop-user.link.pass.now c.loop-user.link.kit.now)) at_end done,
      is,
    )

pub returns-in_err-round-clause-same_pass : goal.returns-in_err-round-clause-same_pass
returns-in_err-round-clause-same_pass g c = c.ask_one.ensures.same_pass ∙ c.loop-user.invariant.same_pass

pub returns-clause-same_pass : goal.returns-clause-same_pass
returns-clause-same_pass g c = c.loop-user.invariant.same_pass

pub returns-in_err-round-clause-same_kit : goal.returns-in_err-round-clause-same_kit
returns-in_err-round-clause-same_kit g c = c.ask_one.ensures.same_kit ∙ c.loop-user.invariant.same_kit

pub returns-clause-same_kit : goal.returns-clause-same_kit
returns-clause-same_kit g c = c.loop-user.invariant.same_kit
