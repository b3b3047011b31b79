use Rattle.hub_main.specs.Told.{files_told}
use Rattle.hub_main.proofs.Configurations.{unfound}
use Rattle.hub_main.proofs.configured.found_file.Goals as goal

pub returns-in-Ok-clause-err : goal.returns-in-Ok-clause-err
returns-in-Ok-clause-err g c =
    unfound (files_told g.F.Files.files g.F.Files.faults c.args.files.now) (files_told g.F.Files.files g.F.Files.faults c.text.new.self)
    c.args.name.now c.in-Ok.bytes c.file_in.result c.in-Ok.ensures.reads c.file_in.ensures.err
