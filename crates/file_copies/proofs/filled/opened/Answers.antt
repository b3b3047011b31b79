use Rattle.std.proofs.Common.{ap₂, subst}
use Rattle.sqlite_wal.specs.Recovery.{Image}
use Rattle.sqlite.specs.Files.{file_state}
use Rattle.sqlite.specs.Start.{FindsIn}
use Rattle.file_copies.specs.Copied.{image}
use Rattle.file_copies.proofs.filled.opened.Goals as goal

pub returns-in-Ok-open_files-clause-found : goal.returns-in-Ok-open_files-clause-found
returns-in-Ok-open_files-clause-found c clean =
    let found = c.in-Ok-open_files.ensures.found clean in
    let same = ap₂ image c.in-Ok.ensures.same.0 c.in-Ok.ensures.same.1 in
    subst (λ (i : Image). FindsIn i (file_state c.in-Ok-open_files.connection)) same (record { holds = found.holds; reads = found.reads })
