use Rattle.std.proofs.Common.{◌||◌, not, is_some, sym, ap, ◌∙◌}
use Rattle.hub_devices.specs.NamedFiles.{file_of}
use Rattle.hub_devices.proofs.CallLemmas.{Rises_earlier, failed_after}
use Rattle.hub_devices.proofs.mem_files.MemFilesFiles.text.Goals as goal

pub returns-then-next-clause-fails : goal.returns-then-next-clause-fails
returns-then-next-clause-fails c = ap (λ b. b || not (is_some (file_of c.args.self.now.files.items c.args.name.now))) (sym c.if-next.true ∙ c.next.ensures.failing)

pub returns-in_default-clause-cause : goal.returns-in_default-clause-cause
returns-in_default-clause-cause c = λ _. Rises_earlier _ _ _ c.next.ensures.kept c.fail.ensures.cause c.fail.ensures.kept

pub returns-in_default-clause-script : goal.returns-in_default-clause-script
returns-in_default-clause-script c = failed_after c.args.self.now.script c.next.new.self c.fail.new.self c.next.result c.fail.ensures.counted c.next.ensures.counted c.if-next.false
