use Rattle.std.proofs.lemmas.Result.{IfOk-weaker}
use Rattle.hub_edge.specs.contracts.files.SystemFilesFiles.TheImpl.{ghosts}
use Rattle.hub_main.specs.Told.{files_told}
use Rattle.hub_serving.proofs.Planned.{still_plan}
use Rattle.hub_serving.specs.Plans.{IsPlanOf}
use Rattle.hub_words.specs.Serve.{serve_read}
use Rattle.serve_command.proofs.serving.planned.Goals as goal

pub returns : goal.returns
returns c =
    IfOk-weaker c.read_plan.result
    (IsPlanOf (serve_read c.args.words.now) (files_told ghosts.files ghosts.faults c.args.files.now))
    (IsPlanOf (serve_read c.args.words.now) (files_told ghosts.files ghosts.faults c.read_plan.new.files))
    (λ plan is.
    still_plan (serve_read c.args.words.now) (files_told ghosts.files ghosts.faults c.args.files.now)
    (files_told ghosts.files ghosts.faults c.read_plan.new.files) plan c.read_plan.ensures.kept is)
    c.read_plan.ensures.ok
