use Rattle.std.proofs.Common.{ℕ, List, length, ◌≤◌, sym, ◌∙◌, subst}
use Rattle.access_laws.specs.Asks.{IsWord}
use Rattle.hub_kit.specs.Names.{IsName, IsServerName}
use Rattle.hub_kit.specs.declared.names.ServerKey.{ServerKey}
use Rattle.hub_loading.specs.Setting.{job_view}
use Rattle.hub_loading.proofs.TokenLemmas.{token_is, token_long}
use Rattle.hub_loading.proofs.LinkLemmas.{found_seen, guarded_as, reached_keeps}
use Rattle.hub_loading.proofs.rounds.ask_one.Goals as goal

pub ask_guard-requires-clause-user : goal.ask_guard-requires-clause-user
ask_guard-requires-clause-user g c = subst (λ (k : ServerKey). IsName k.user) (sym c.in_ok-key.ensures.key) c.in_ok-key.ensures.name

pub ask_guard-requires-clause-server : goal.ask_guard-requires-clause-server
ask_guard-requires-clause-server g c = subst (λ (k : ServerKey). IsServerName k.server) (sym c.in_ok-key.ensures.key) tt

pub ask_guard-requires-clause-word : goal.ask_guard-requires-clause-word
ask_guard-requires-clause-word g c = subst IsWord (sym c.in-Ok.ensures) (token_is c.args.user)

pub ask_guard-requires-clause-short : goal.ask_guard-requires-clause-short
ask_guard-requires-clause-short g c = subst (λ (t : List ℕ). length t ≤ 1000) (sym c.in-Ok.ensures) (token_long c.args.user)

pub returns-clause-asked : goal.returns-clause-asked
returns-clause-asked g c = record {
  between = job_view c.ask_found.new.link.pass.now c.ask_found.new.link.kit.now;
  found = found_seen _ _ (λ l. job_view l.pass.now l.kit.now) (λ a b request given does. does.2) c.args.link.now c.ask_found.new.link c.in-Ok.token _ c.args.other
      c.in_ok-found.found c.in_ok-found.ensures.found c.in-Ok.ensures (token_is c.args.user) c.in_ok-key.ensures.name;
  guarded = guarded_as _ _ c.in-Ok.token _ c.in_ok-key.key _ c.args.target.now c.in_ok-admitted.admitted c.in-Ok.ensures c.in_ok-key.ensures.key
      c.in_ok-admitted.ensures.guarded;
}

pub returns-in_err-found-clause-same_pass : goal.returns-in_err-found-clause-same_pass
returns-in_err-found-clause-same_pass g c =
    reached_keeps _ _ (λ l. l.pass.ghost_name) (λ a b request given does. does.0) c.args.link.now c.ask_found.new.link c.ask_found.ensures.reached

pub returns-in_err-admitted-clause-same_pass : goal.returns-in_err-admitted-clause-same_pass
returns-in_err-admitted-clause-same_pass g c =
    c.ask_guard.ensures.same_pass ∙ reached_keeps _ _ (λ l. l.pass.ghost_name) (λ a b request given does. does.0) c.args.link.now c.ask_found.new.link c.ask_found.ensures.reached

pub returns-clause-same_pass : goal.returns-clause-same_pass
returns-clause-same_pass g c =
    c.ask_guard.ensures.same_pass ∙ reached_keeps _ _ (λ l. l.pass.ghost_name) (λ a b request given does. does.0) c.args.link.now c.ask_found.new.link c.ask_found.ensures.reached

pub returns-in_err-found-clause-same_kit : goal.returns-in_err-found-clause-same_kit
returns-in_err-found-clause-same_kit g c =
    reached_keeps _ _ (λ l. l.kit.ghost_name) (λ a b request given does. does.1) c.args.link.now c.ask_found.new.link c.ask_found.ensures.reached

pub returns-in_err-admitted-clause-same_kit : goal.returns-in_err-admitted-clause-same_kit
returns-in_err-admitted-clause-same_kit g c =
    c.ask_guard.ensures.same_kit ∙ reached_keeps _ _ (λ l. l.kit.ghost_name) (λ a b request given does. does.1) c.args.link.now c.ask_found.new.link c.ask_found.ensures.reached

pub returns-clause-same_kit : goal.returns-clause-same_kit
returns-clause-same_kit g c =
    c.ask_guard.ensures.same_kit ∙ reached_keeps _ _ (λ l. l.kit.ghost_name) (λ a b request given does. does.1) c.args.link.now c.ask_found.new.link c.ask_found.ensures.reached
