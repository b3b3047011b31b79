use Rattle.std.proofs.Common.{◌≡◌, ◌<◌, ◌≤◌, ◌^◌, ℕ, ap, ◌∙◌, subst, sym, rules, arith}
use Rattle.std.specs.Prelude.{All}
use Rattle.std.proofs.lemmas.List.Sorted.{All-permutation, answers_always}
use Rattle.hub_lives.specs.LiveServers.{LiveServers}
use Rattle.hub_core.specs.Live.{AreReady, ready_servers}
use Rattle.hub_core.specs.Visits.{Standing}
use Rattle.hub_core.specs.declared.live.LiveServer.{LiveServer}
use Rattle.hub_core.proofs.Adopting.{ready_small}
use Rattle.hub_core.proofs.Walked.{ready_sorted}
use Rattle.hub_core.proofs.book.Book.ready.Goals as goal

pub returns-clause-listed : goal.returns-clause-listed
returns-clause-listed g c =
    subst (λ (b : Standing). AreReady b.hub.lives c.sort_unstable_by_key.new.self.items) c.self.view_is
    (ready_sorted _ c.self.inside.machine.lives _ c.lives.result.now c.in_ok-servers.servers.items c.sort_unstable_by_key.new.self.items c.lives.ensures c.in_ok-servers.ensures
    c.sort_unstable_by_key.ensures.permutation
    (c.sort_unstable_by_key.ensures.sorted (λ (s : LiveServer). s.server) (answers_always _ _ _ (λ f a r f' called. search rules))))

pub returns-clause-small : goal.returns-clause-small
returns-clause-small g c =
    let next = c.next_generation-generation.ensures in
    let small = ready_small (2 ^ 63) c.self.inside.machine.pool c.self.inside.machine.lives _ c.are_leased.ensures.apart
    (subst (λ (n : ℕ). n ≤ 2 ^ 63) next.value (below next.room)) in
    All-permutation (λ (s : LiveServer). s.generation < 2 ^ 63) c.in_ok-servers.servers.items c.sort_unstable_by_key.new.self.items c.sort_unstable_by_key.ensures.permutation
    (subst (All (λ (s : LiveServer). s.generation < 2 ^ 63)) (sym (c.in_ok-servers.ensures ∙ ap (λ (l : LiveServers). ready_servers l.lives) c.lives.ensures)) small)
  where
    below : {n : ℕ} → n < 2 ^ 63 → n ≤ 2 ^ 63
    below h = omega (arith, h)
