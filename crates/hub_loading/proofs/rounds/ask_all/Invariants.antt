use Rattle.std.proofs.Common.{◌≡◌, ◌≤◌, ◌+◌, List}
use Rattle.hub_loading.specs.Rounds.{Rounds, counts_of}
use Rattle.hub_loading.specs.Setting.{job_view}
use Rattle.hub_loading.specs.declared.rounds.Round.{Round}
use Rattle.hub_loading.proofs.RoundLemmas.{number_before}
use Rattle.hub_loading.proofs.rounds.ask_all.Given as goal

abbrev pub invariant-loop-user : goal.invariant-loop-user
invariant-loop-user g l = record {
  asked : (rounds : List Round)
      × Rounds l.fn.seed l.fn.users l.user l.fn.target (job_view l.fn.link.pass.now l.fn.link.kit.now) rounds (job_view l.link.pass.now l.link.kit.now)
      × (l.counts ≡ counts_of rounds);
  number : l.number ≡ number_before l.fn.seed l.user;
  small : l.number ≤ 65536;
  found : l.counts.ok + l.counts.missing ≡ l.user;
  admitted : l.counts.admitted + l.counts.refused ≡ l.user;
  same_pass : l.link.pass.ghost_name ≡ l.fn.link.pass.ghost_name;
  same_kit : l.link.kit.ghost_name ≡ l.fn.link.kit.ghost_name;
}
