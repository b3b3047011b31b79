use Rattle.std.proofs.Common.{◌≡◌, if◌then◌else◌, Some, None, IfOk, Option, subst, sym, ◌∙◌}
use Rattle.idle_culler.specs.declared.views.ServerView.{ServerView}
use Rattle.idle_culler.specs.Readings.{pushed}
use Rattle.idle_culler.proofs.ReadLemmas.{server_of_parts}
use Rattle.idle_culler.proofs.readings.push_server.Goals as goal

pub returns : goal.returns
returns c =
    subst (λ (o : Option ServerView). IfOk c.push_server_with.result (λ good. (if good then Some c.push_server_with.new.list else None) ≡ pushed c.args.list.now o))
    (server_of_parts c.args.name.now _ _ _ _ _ _ (sym c.is_named.ensures ∙ c.if-not-is_named.false) c.in_ok-server.ensures c.truth_at-ready.ensures c.pending_at.ensures
    c.in_ok-started.ensures c.in_ok-last_activity.ensures)
    c.push_server_with.ensures
