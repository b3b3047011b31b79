use Rattle.hub_devices.specs.contracts.mem_files.MemFilesFiles.TheImpl.{ghosts}
use Rattle.hub_main.specs.Told.{files_told}
use Rattle.hub_serving.proofs.Planned.{still_plan}
use Rattle.hub_words.specs.Serve.{serve_read}
use Rattle.serving_tests.proofs.of_commands.ended.Goals as goal

pub run-status-requires-clause-read : goal.run-status-requires-clause-read
run-status-requires-clause-read c κs within = λ lives.
    still_plan (serve_read κs.as_slice-said.result.now) (files_told ghosts.files ghosts.faults κs.files-files.result)
    (files_told ghosts.files ghosts.faults κs.read_plan.new.files) κs.in-Ok.plan κs.read_plan.ensures.kept κs.in-Ok.ensures.ok
