use Rattle.std.proofs.Common.{rules}
use Rattle.sqlite.specs.Files.{file_state}
use Rattle.file_copies.proofs.alone.stand_alone.Goals as goal

pub returns-in-Ok-close_files : goal.returns-in-Ok-close_files
returns-in-Ok-close_files c =
    let copied = c.in-Ok-close_files.ensures.copied (search rules) in
    let found = c.in-Ok.ensures.found copied.was_clean in
    record {
      trees = (file_state c.in-Ok.connection).committed.trees;
      found = found.reads;
      only = λ held holds. found.holds held holds;
      alone = copied.seen.alone;
    }
