use Rattle.std.proofs.Common.{subst}
use Rattle.hub_machine.specs.Replies.{Reply}
use Rattle.hub_run.specs.Steps.{Says}
use Rattle.hub_run.specs.Written.{written_bytes}
use Rattle.hub_run.proofs.written.text_of_no_draw.Goals as goal

pub returns-in-Ok-clause-says : goal.returns-in-Ok-clause-says
returns-in-Ok-clause-says c =
    subst (λ (r : Reply). Says r c.args.close (written_bytes c.text_of-text.result.0) c.text_of-text.result.1) c.in-Ok.ensures c.text_of-text.ensures.says
