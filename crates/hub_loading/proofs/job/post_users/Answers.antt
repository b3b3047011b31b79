use Rattle.hub_loading.proofs.JobLemmas.{posted}
use Rattle.hub_loading.proofs.LinkLemmas.{reached_keeps}
use Rattle.hub_loading.specs.Setting.{job_view}
use Rattle.hub_loading.proofs.job.post_users.Goals as goal

pub returns-in-Ok-clause-posted : goal.returns-in-Ok-clause-posted
returns-in-Ok-clause-posted g c =
    posted _ _ (λ l. job_view l.pass.now l.kit.now) (λ a b request given does. does.2) c.args.link.now c.post_all.new.link c.args.users c.in-Ok.ensures.accepted

pub returns-in-Ok-clause-same_pass : goal.returns-in-Ok-clause-same_pass
returns-in-Ok-clause-same_pass g c =
    reached_keeps _ _ (λ l. l.pass.ghost_name) (λ a b request given does. does.0) c.args.link.now c.post_all.new.link c.post_all.ensures.reached

pub returns-in-Ok-clause-same_kit : goal.returns-in-Ok-clause-same_kit
returns-in-Ok-clause-same_kit g c =
    reached_keeps _ _ (λ l. l.kit.ghost_name) (λ a b request given does. does.1) c.args.link.now c.post_all.new.link c.post_all.ensures.reached

pub returns-in-Err-clause-same_pass : goal.returns-in-Err-clause-same_pass
returns-in-Err-clause-same_pass g c =
    reached_keeps _ _ (λ l. l.pass.ghost_name) (λ a b request given does. does.0) c.args.link.now c.post_all.new.link c.post_all.ensures.reached

pub returns-in-Err-clause-same_kit : goal.returns-in-Err-clause-same_kit
returns-in-Err-clause-same_kit g c =
    reached_keeps _ _ (λ l. l.kit.ghost_name) (λ a b request given does. does.1) c.args.link.now c.post_all.new.link c.post_all.ensures.reached
