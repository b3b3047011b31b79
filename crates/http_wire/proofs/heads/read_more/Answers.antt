use Rattle.std.proofs.Common.{◌<◌, ℕ, List, length, sym, subst}
use Rattle.http_wire.specs.Wire.{IsOpen, head_limit}
use Rattle.http_wire.proofs.heads.read_more.Goals as goal

pub returns-in-Err-Fault-clause-err : goal.returns-in-Err-Fault-clause-err
returns-in-Err-Fault-clause-err g c =
    subst (λ (bytes : List ℕ). IsOpen bytes × (length bytes < head_limit)) (sym c.in-Err-Fault.ensures.kept) (c.requires.open, c.requires.short)
